-- What the packets so far name, with what those still to come do, is what all name.
use Rattle.std.proofs.Common.{◌≡◌, length}
use Rattle.capture.specs.Walks.{packets_in}
use Rattle.apd_policies.specs.declared.frames.chosen.Named.TheVariants.{NoOne}
use Rattle.apd_policies.proofs.Naming.{named_from}
use Rattle.apd_policies.proofs.frames.chosen.access_points.Given as goal

abbrev pub invariant-loop-walk : goal.invariant-loop-walk
invariant-loop-walk l = named_from l.named l.walk ≡ named_from NoOne (packets_in l.fn.recording.bytes.now)

abbrev pub decreases-loop-walk : goal.decreases-loop-walk
decreases-loop-walk l = length l.walk
