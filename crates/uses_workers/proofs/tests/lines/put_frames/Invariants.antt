use Rattle.ap_queues.specs.Lines.{AreLinesOf}
use Rattle.uses_workers.proofs.tests.lines.put_frames.Given as goal

abbrev pub invariant-loop-call : goal.invariant-loop-call
invariant-loop-call g l = AreLinesOf l.lines l.operator
