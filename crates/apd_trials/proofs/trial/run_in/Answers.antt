use Rattle.std.proofs.Common.{◌≡◌, Some, sym, ◌∙◌, ap, map}
use Rattle.bpf_regions.specs.Hooks.{number_of}
use Rattle.bpf_decode.specs.Program.{Code}
use Rattle.apd_cases.specs.Situations.{preset_of, situation_of}
use Rattle.apd_script.specs.Digits.{bytes_of}
use Rattle.apd_script.specs.declared.hex_text.HexText.{HexText}
use Rattle.std.specs.Prelude.{option_map}
use Rattle.apd_trials.proofs.Starting.{port_in-stored, ran_same}
use Rattle.apd_trials.proofs.trial.run_in.Goals as goal

pub returns-clause-run : goal.returns-clause-run
returns-clause-run c =
    let shapes : c.shapes-shapes.result.now ≡ c.args.program.now.code.shapes = c.shapes-shapes.ensures.is ∙ ap (λ (p : Code). p.shapes) c.program.ensures.is in
    let begins = port_in-stored (situation_of c.args.situation.now) c.shapes-shapes.result.now c.args.program.now.code.shapes c.args.draw c.in_ok-port.port c.store_presets.new.port c.as_slice-3.result.now
    shapes c.in_ok-port.ensures.is (ap (map preset_of) (sym c.as_slice-3.ensures.value)) c.in_ok-store_presets.ensures.stored in
    record {
      frame = c.in_ok-bytes.bytes.items;
      there = ap (option_map (λ (t : HexText). bytes_of t.digits.now)) c.in-Some.is ∙ ap (λ b. Some b) (sym c.in_ok-bytes.ensures.is);
      context = c.in_ok-context.context;
      told = c.in_ok-context.ensures.hook ∙ ap number_of c.hook.ensures.is;
      asked = c.asked_size-asked.ensures.is;
      ran = ran_same c.args.program.now.code c.in-Some-new.frame c.in_ok-bytes.bytes.items c.in_ok-context.context c.store_presets.new.port _ c.run-outcome.new.port c.run-outcome.result
          (c.in-Some-new.ensures.value ∙ c.as_slice.ensures.value) begins c.run-outcome.ensures.run;
    }
