use Rattle.std.proofs.Common.{◌≤◌, ◌-◌, length}
use Rattle.bpf_cert.proofs.claims.count_within.Given as goal

abbrev pub invariant-loop-low : goal.invariant-loop-low
invariant-loop-low l = (l.low ≤ l.high) × (l.high ≤ length l.spots)

abbrev pub decreases-loop-low : goal.decreases-loop-low
decreases-loop-low l = l.high - l.low
