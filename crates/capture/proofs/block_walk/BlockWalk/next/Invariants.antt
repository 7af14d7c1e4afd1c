-- The blocks so far have no packet.
use Rattle.std.proofs.Common.{◌≡◌, ◌≤◌, length}
use Rattle.capture.specs.Walking.{blocks_left}
use Rattle.capture.proofs.block_walk.BlockWalk.next.Given as goal

abbrev pub invariant-loop-self : goal.invariant-loop-self
invariant-loop-self l = record {
  same : blocks_left l.self ≡ blocks_left l.initial.self;
  within : length l.self.rest.now ≤ l.self.size;
  enough : length l.self.rest.now ≤ l.self.most;
}

abbrev pub decreases-loop-self : goal.decreases-loop-self
decreases-loop-self l = length l.self.rest.now
