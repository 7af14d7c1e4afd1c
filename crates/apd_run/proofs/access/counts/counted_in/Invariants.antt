use Rattle.apd_run.proofs.Counted.{ReadsFirst}
use Rattle.apd_run.proofs.access.counts.counted_in.Given as goal

abbrev pub invariant-loop-tagged : goal.invariant-loop-tagged
invariant-loop-tagged l = ReadsFirst l.totals l.tagged-index l.list
