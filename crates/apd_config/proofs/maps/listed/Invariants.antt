-- The shapes so far are those of the tables so far.
use Rattle.std.proofs.Common.{take}
use Rattle.toml.specs.View.{items_view}
use Rattle.apd_config.specs.Meaning.{SaysShapes}
use Rattle.apd_config.proofs.maps.listed.Given as goal

abbrev pub invariant-loop-number : goal.invariant-loop-number
invariant-loop-number l = SaysShapes (items_view (take l.number l.maps.items)) l.shapes.items
