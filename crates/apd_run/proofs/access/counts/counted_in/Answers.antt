use Rattle.std.proofs.Common.{sym, subst}
use Rattle.ap_books.specs.Reading.{Reads}
use Rattle.apd_run.proofs.Counted.{reads_more}
use Rattle.apd_run.proofs.Served.{tally_none}
use Rattle.apd_run.proofs.access.counts.counted_in.Goals as goal

pub loop-tagged-init : goal.loop-tagged-init
loop-tagged-init g = subst (Reads g.new-totals.result) (sym tally_none) g.new-totals.ensures

pub loop-tagged-preserved : goal.loop-tagged-preserved
loop-tagged-preserved g = reads_more _ _ _ _ g.args.list.now _ g.loop-tagged-test.true g.tagged-item.is g.and-totals.ensures g.loop-tagged.invariant g.counted_of.ensures.reads
