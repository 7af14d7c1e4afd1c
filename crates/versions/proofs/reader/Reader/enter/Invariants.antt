use Rattle.std.proofs.Common.{◌≡◌, Some}
use Rattle.left_right.specs.Sides.{view}
use Rattle.versions.specs.Ties.{tie_of}
use Rattle.versions.proofs.reader.Reader.enter.Given as goal

abbrev pub invariant-loop : goal.invariant-loop
invariant-loop g l = tie_of (view l.place.place) ≡ Some l.fn.self.list
