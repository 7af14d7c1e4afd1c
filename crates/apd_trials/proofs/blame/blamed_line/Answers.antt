use Rattle.std.proofs.lemmas.List.Elements.{All-nil}
use Rattle.apd_trials.specs.Blamed.{LeadsNowhere, NoneLeads}
use Rattle.apd_trials.proofs.Blaming.{leads_more, ends_more, idle_more, later_more}
use Rattle.apd_trials.proofs.blame.blamed_line.Goals as goal
use Rattle.apd_trials.proofs.blame.blamed_line.Goals.{then-numbered-at+then-leads_to, then-numbered-at+else-leads_to+then-ends_words, then-numbered-at+else-leads_to+else-ends_words, else-numbered-at}

pub loop-numbered-init : goal.loop-numbered-init
loop-numbered-init c = NoneLeads (All-nil (LeadsNowhere c.args.at c.args.trouble.now))

pub loop-numbered-preserved : goal.loop-numbered-preserved
loop-numbered-preserved c =
    let l = c.loop-numbered in
    elim c.if-numbered-at.branch [
      | then-numbered-at+then-leads_to w ↦ leads_more _ _ _ _ l.blamed _ c.numbered-item.result c.loop-numbered-test.true c.numbered-item.is w.if-numbered-at.true w.blamed-is (w.leads_to.ensures.is.0 w.if-leads_to.true)
      | then-numbered-at+else-leads_to+then-ends_words w ↦ ends_more _ _ _ _ l.blamed _ c.numbered-item.result c.loop-numbered-test.true c.numbered-item.is w.if-numbered-at.true w.blamed-is (w.ends_words.ensures.is.0 w.if-ends_words.true)
      | then-numbered-at+else-leads_to+else-ends_words w ↦
          idle_more _ _ _ _ l.blamed _ c.numbered-item.result c.loop-numbered-test.true c.numbered-item.is w.if-numbered-at.true w.blamed-is l.invariant _ _ w.if-leads_to.false w.if-ends_words.false w.leads_to.ensures.is w.ends_words.ensures.is
      | else-numbered-at w ↦ later_more _ _ _ _ l.blamed _ c.numbered-item.result c.loop-numbered-test.true c.numbered-item.is w.if-numbered-at.false w.blamed-is l.invariant
    ]
