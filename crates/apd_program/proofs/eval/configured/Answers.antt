use Rattle.std.proofs.Common.{List, ℕ, subst}
use Rattle.apd_config.specs.Text.{IsTextOf}
use Rattle.apd_program.proofs.Faulty.{configuration_at_fault}
use Rattle.apd_program.proofs.eval.configured.Goals as goal

pub returns-in-Ok-clause-setting : goal.returns-in-Ok-clause-setting
returns-in-Ok-clause-setting g c =
    let P : List ℕ → Type 0 = λ t. IsTextOf t c.in-Ok.configuration in
    record {
      configuration = c.in-Ok.configuration;
      configured = record {
        text = c.in_ok-text.text.items;
        there = c.in_ok-text.ensures.there;
        is = subst P c.as_slice.ensures.value c.in-Ok.ensures.read;
      };
      link = c.setting_of.ensures.link;
      maps = c.setting_of.ensures.shapes;
      draw = c.setting_of.ensures.draw;
    }

pub returns-clause-fault : goal.returns-clause-fault
returns-clause-fault g c = configuration_at_fault _ _ _ _ c.in-Err.fault _ c.in_ok-text.ensures.there c.as_slice.ensures.value c.in-Err.ensures.faulty c.of_configuration.ensures.memory
