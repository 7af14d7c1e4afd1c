use Rattle.std.proofs.Common.{◌≡◌, length, map}
use Rattle.bpf_helpers.specs.Plain.{shapes_of}
use Rattle.apd_cases.specs.Situations.{preset_of}
use Rattle.apd_trials.specs.Trials.{stored}
use Rattle.apd_trials.proofs.trial.store_presets.Given as goal

abbrev pub invariant-loop-preset : goal.invariant-loop-preset
invariant-loop-preset l = record {
  later : stored l.shapes l.port (map preset_of l.rest) ≡ stored l.shapes l.fn.port (map preset_of l.presets);
  shapes_are : shapes_of l.port ≡ l.shapes;
}

abbrev pub decreases-loop-preset : goal.decreases-loop-preset
decreases-loop-preset l = length l.rest
