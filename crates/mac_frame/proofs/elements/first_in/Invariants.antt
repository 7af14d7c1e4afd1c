use Rattle.std.proofs.Common.{◌≡◌, length}
use Rattle.mac_frame.specs.Elements.{AreElements, elements_in, first_with}
use Rattle.mac_frame.proofs.elements.first_in.Given as goal

abbrev pub invariant-loop-found : goal.invariant-loop-found
invariant-loop-found l = record { are : AreElements l.rest; same : first_with l.id (elements_in l.rest) ≡ first_with l.id (elements_in l.bytes) }

abbrev pub decreases-loop-found : goal.decreases-loop-found
decreases-loop-found l = length l.rest
