-- The packets so far and those still to come are those of the capture.
use Rattle.std.proofs.Common.{◌≡◌, ◌+◌, ℕ, length}
use Rattle.capture.specs.Walks.{packets_in}
use Rattle.apd_eval.specs.Unjudged.{no_packets, AreAtMost}
use Rattle.apd_eval.proofs.Passing.{plus}
use Rattle.apd_eval.proofs.reasons.reasons_of.Given as goal

abbrev pub invariant-loop-walk : goal.invariant-loop-walk
invariant-loop-walk l = record {
  few : (n : ℕ) × (n + length l.walk ≡ l.fn.replay.recording.count) × AreAtMost n l.passed;
  counted : plus l.hook l.address l.passed l.walk ≡ plus l.hook l.address no_packets (packets_in l.fn.replay.recording.bytes.now);
}

abbrev pub decreases-loop-walk : goal.decreases-loop-walk
decreases-loop-walk l = length l.walk
