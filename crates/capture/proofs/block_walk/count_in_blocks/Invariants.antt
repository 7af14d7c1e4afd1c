-- The blocks so far have so many packets.
use Rattle.std.proofs.Common.{◌≤◌, ◌+◌, length}
use Rattle.capture.proofs.Stepping.{IsReached}
use Rattle.capture.proofs.block_walk.count_in_blocks.Given as goal

abbrev pub invariant-loop-walk : goal.invariant-loop-walk
invariant-loop-walk l = record {
  few : l.count + length l.walk.rest.now ≤ length l.file;
  within : length l.walk.rest.now ≤ l.walk.size;
  enough : length l.walk.rest.now ≤ l.walk.most;
  reached : IsReached l.file l.walk l.count;
}

abbrev pub decreases-loop-walk : goal.decreases-loop-walk
decreases-loop-walk l = length l.walk.rest.now
