use Rattle.std.proofs.Common.{List, subst, ℕ}
use Rattle.apd_config.specs.Text.{IsTextOf}
use Rattle.apd_run.proofs.runner.setup.configuration.Goals as goal

pub returns-in-Ok-clause-read : goal.returns-in-Ok-clause-read
returns-in-Ok-clause-read g c =
    record {
      text = c.in_ok-text.text.items;
      holds = c.in_ok-text.ensures.text;
      is_text = subst (λ (t : List ℕ). IsTextOf t c.in-Ok.configuration) c.as_slice.ensures.value c.in-Ok.ensures.read;
    }
