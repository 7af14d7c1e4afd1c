-- Those so far and those still to come are those of the capture.
use Rattle.std.proofs.Common.{◌≡◌, ◌≤◌, ◌+◌, length}
use Rattle.capture.specs.Walks.{packets_in}
use Rattle.apd_policies.specs.Chosen.{others}
use Rattle.apd_policies.proofs.frames.chosen.count_others.Given as goal

abbrev pub invariant-loop-walk : goal.invariant-loop-walk
invariant-loop-walk l = record {
  few : l.count + length l.walk ≤ l.fn.recording.count;
  counted : l.count + others l.bssid l.walk ≡ others l.bssid (packets_in l.fn.recording.bytes.now);
}

abbrev pub decreases-loop-walk : goal.decreases-loop-walk
decreases-loop-walk l = length l.walk
