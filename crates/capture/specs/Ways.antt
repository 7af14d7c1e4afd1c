-- What is still to come of a file of either kind.
use Rattle.std.specs.Prelude.{◌≤◌, List, [], length}
use Rattle.capture.specs.declared.walk.Way.{Way}
use Rattle.capture.specs.declared.walk.Way.TheVariants.{Nothing, Records, Blocks}
use Rattle.capture.specs.Packets.{Seen}
use Rattle.capture.specs.Walking.{records_left, blocks_left}

-- the packets
abbrev pub left_of : Way → List Seen
left_of Nothing = []
left_of (Records w) = records_left w
left_of (Blocks w) = blocks_left w

-- a bound on what is left is one
abbrev pub IsWay : Way → Type 0
IsWay Nothing = Unit {0}
IsWay (Records w) = length w.rest.now ≤ w.most
IsWay (Blocks w) = (length w.rest.now ≤ w.size) × (length w.rest.now ≤ w.most)
