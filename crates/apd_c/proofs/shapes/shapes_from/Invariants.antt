use Rattle.std.proofs.Common.{◌≡◌, map, take}
use Rattle.apd_c.specs.Given.{shape_of}
use Rattle.apd_c.proofs.shapes.shapes_from.Given as goal

abbrev pub invariant-loop-one : goal.invariant-loop-one
invariant-loop-one l = l.shapes.items ≡ map shape_of (take l.one-index l.given)
