use Rattle.std.proofs.Common.{List, ℕ, refl, subst}
use Rattle.apd_config.specs.Text.{IsTextOf}
use Rattle.apd_trials.proofs.admission.configured.Goals as goal

pub returns-in-Ok-read_configuration-clause-setup : goal.returns-in-Ok-read_configuration-clause-setup
returns-in-Ok-read_configuration-clause-setup g c =
    let P : List ℕ → Type 0 = λ t. IsTextOf t c.in-Ok-read_configuration.configuration in
    record {
      text = c.in-Ok.text.items;
      there = c.in-Ok.ensures.ok;
      configuration = c.in-Ok-read_configuration.configuration;
      is = subst P c.as_slice.ensures.value c.in-Ok-read_configuration.ensures.read;
      maps = refl;
      draw = refl;
    }
