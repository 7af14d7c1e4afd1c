use Rattle.std.proofs.Common.{sym, subst}
use Rattle.ap_live.specs.Headline.{OperatorHeadline}
use Rattle.ap_live.specs.Tokens.{Operator}
use Rattle.ap_live.proofs.Growing.{acted_at}
use Rattle.ap_live.proofs.Handing.{acted_holds}
use Rattle.ap_laws.proofs.HeadlineLaws.{each_run_holds}
use Rattle.ap_live.proofs.live.LiveAp.act.Goals as goal

pub returns-clause-headline : goal.returns-clause-headline
returns-clause-headline g c =
    let before = c.operator.inside in
    let old : Operator = record { lines = before.lines; seats = before.seats; shards = before.shards } in
    let new : Operator = record { lines = before.lines; seats = before.seats; shards = c.act.new.mine } in
    let outs = c.in_ok-outs.outs.items in
    subst (λ (o : Operator). OperatorHeadline g.B.Journals.config o c.args.event.now outs new) c.operator.view_is
    (acted_holds each_run_holds g.B.Journals.config old new c.args.event.now outs c.requires.command
    (acted_at g.B.Journals.config old new c.args.event.now outs c.in-Some.shard c.requires.command (sym c.in-Some.ensures.is) c.in-Some.ensures.fits c.in_ok-outs.ensures.acted))
