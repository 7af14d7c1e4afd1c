use Rattle.std.proofs.Common.{◌≡◌, ap, subst, ◌∙◌}
use Rattle.ap_shards.specs.Tokens.{KeepOwn}
use Rattle.ap_live.specs.Tokens.{Operator, Worker}
use Rattle.apd_run.specs.Hands.{RunWorker}
use Rattle.apd_run.proofs.Deciding.{met_among, met_histories}
use Rattle.apd_run.proofs.Keeping.{met_operator, met_worker}
use Rattle.apd_run.proofs.Operated.{sees_more, works}
use Rattle.apd_run.proofs.access.operator.LiveOperator.meet.Goals as goal

pub invariant_of-self : goal.invariant_of-self
invariant_of-self g c =
    let t : Operator = c.meet_operator.new.operator in
    met_operator _ _ _ _ (c.meet_operator.ensures.same_operator ∙ ap (λ (o : Operator). record o { shards = t.shards }) c.deref_mut.ensures.value)
    (subst (λ (o : Operator). KeepOwn o.shards t.shards) c.deref_mut.ensures.value c.meet_operator.ensures.that) c.self.invariant

pub invariant_of-worker : goal.invariant_of-worker
invariant_of-worker g c = met_worker _ _ _ c.meet_operator.ensures.same c.meet_operator.ensures.this c.worker.invariant

pub returns-clause-works : goal.returns-clause-works
returns-clause-works g c = works g.F.Files.held _ _ _ c.self.view_is

pub returns-clause-meets : goal.returns-clause-meets
returns-clause-meets g c =
    record {
      sees = sees_more g.F.Files.held _ _ c.meet_operator.new.operator _ c.self.view_is c.deref_mut.ensures.value c.meet_operator.ensures.same_operator c.meet_operator.ensures.that;
      holds = met_histories _ _ _ c.meet_operator.ensures.seen c.meet_operator.ensures.upholds;
      among = met_among _ _ _ c.meet_operator.ensures.seen c.meet_operator.ensures.upholds;
    }

pub returns-clause-same : goal.returns-clause-same
returns-clause-same g c =
    let t : Worker = c.meet_operator.new.self in
    subst (λ (w : RunWorker). t ≡ record w.token { shards = t.shards }) c.worker.view_is c.meet_operator.ensures.same
