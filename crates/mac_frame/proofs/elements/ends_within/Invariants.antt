use Rattle.std.proofs.Common.{◌≡◌, length}
use Rattle.mac_frame.specs.Elements.{is_cut}
use Rattle.mac_frame.proofs.elements.ends_within.Given as goal

abbrev pub invariant-loop-rest : goal.invariant-loop-rest
invariant-loop-rest l = is_cut l.rest ≡ is_cut l.bytes

abbrev pub decreases-loop-rest : goal.decreases-loop-rest
decreases-loop-rest l = length l.rest
