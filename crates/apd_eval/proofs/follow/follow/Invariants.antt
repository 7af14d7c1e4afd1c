-- What goes on from the packets that are still to come is what goes on from all of them.
use Rattle.std.proofs.Common.{◌≡◌, ◌≤◌, ◌+◌, ◌++◌, List, length}
use Rattle.bpf_helpers.specs.Hooked.{IsFitting}
use Rattle.capture.specs.Packets.{Seen}
use Rattle.capture.specs.Walks.{packets_in}
use Rattle.ap_model.specs.AccessPoint.{InPlace}
use Rattle.ap_core.specs.AccessPoints.{rules_of}
use Rattle.apd_eval.proofs.Following.{Goes, Makes}
use Rattle.apd_eval.proofs.follow.follow.Given as goal

abbrev pub invariant-loop-walk : goal.invariant-loop-walk
invariant-loop-walk g l = record {
  few : l.done + length l.walk ≤ l.fn.replay.recording.count;
  before : (front : List Seen) × (packets_in l.fn.replay.recording.bytes.now ≡ front ++ l.walk) × (length front ≡ l.done);
  place : InPlace (rules_of l.shards);
  fitting : IsFitting l.policy.maps.now 0 l.state.held.seats;
  room : g.S.TakesRows.taken l.sink ≤ l.done;
  makes : Makes g.S.TakesRows.takes l.policy l.start (packets_in l.fn.replay.recording.bytes.now)
      (Goes g.S.TakesRows.takes l.policy l.start (packets_in l.fn.replay.recording.bytes.now) 1 0 l.initial.shards l.initial.state l.initial.sink (packets_in l.fn.replay.recording.bytes.now))
      (l.done + 1) l.clock l.shards l.state l.sink l.walk;
}

abbrev pub decreases-loop-walk : goal.decreases-loop-walk
decreases-loop-walk g l = length l.walk
