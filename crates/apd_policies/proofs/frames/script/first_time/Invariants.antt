-- The packets so far have no time.
use Rattle.std.proofs.Common.{◌≡◌, length}
use Rattle.capture.specs.Walks.{packets_in}
use Rattle.apd_policies.specs.Script.{start_of}
use Rattle.apd_policies.proofs.frames.script.first_time.Given as goal

abbrev pub invariant-loop-walk : goal.invariant-loop-walk
invariant-loop-walk l = start_of l.walk ≡ start_of (packets_in l.fn.recording.bytes.now)

abbrev pub decreases-loop-walk : goal.decreases-loop-walk
decreases-loop-walk l = length l.walk
