-- The lines so far, and those of the rest, are those of the steps.
use Rattle.std.proofs.Common.{◌≡◌, ◌++◌, drop}
use Rattle.std.specs.String.{string_bytes}
use Rattle.apd_text.specs.TraceLines.{steps_text}
use Rattle.apd_text.proofs.trace.lines.run_text.Given as goal

abbrev pub invariant-loop-step : goal.invariant-loop-step
invariant-loop-step l = string_bytes l.text ++ steps_text l.program.slots (drop l.step-index l.log) ≡ steps_text l.program.slots l.log
