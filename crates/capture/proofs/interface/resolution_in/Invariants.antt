-- As many options as bytes are enough for the rest too.
use Rattle.std.proofs.Common.{◌≡◌, length}
use Rattle.capture.specs.Interfaces.{resolution_in}
use Rattle.capture.proofs.interface.resolution_in.Given as goal

abbrev pub invariant-loop-rest : goal.invariant-loop-rest
invariant-loop-rest l = resolution_in (length l.options) l.endian l.options ≡ resolution_in (length l.rest) l.endian l.rest

abbrev pub decreases-loop-rest : goal.decreases-loop-rest
decreases-loop-rest l = length l.rest
