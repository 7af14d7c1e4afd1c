-- The packets so far and those still to come are those of the file.
use Rattle.std.proofs.Common.{◌≡◌, ◌++◌, map, length}
use Rattle.capture.specs.Packets.{seen_of}
use Rattle.capture.specs.Walks.{packets_in}
use Rattle.capture.proofs.read.read_capture.Given as goal

abbrev pub invariant-loop-walk : goal.invariant-loop-walk
invariant-loop-walk l = map seen_of l.packets.items ++ l.walk ≡ packets_in l.fn.file

abbrev pub decreases-loop-walk : goal.decreases-loop-walk
decreases-loop-walk l = length l.walk
