use Rattle.std.proofs.Common.{ap, subst, sym, ◌∙◌}
use Rattle.ap_queues.specs.Lines.{puts_of}
use Rattle.ap_live.specs.Lives.{Live}
use Rattle.ap_live.specs.Tokens.{IsWorker, Operator, Worker}
use Rattle.apd_run.proofs.Deciding.{took_alone}
use Rattle.apd_run.proofs.Keeping.{queue_operator, same_parts}
use Rattle.apd_run.proofs.Operated.{same_puts}
use Rattle.apd_run.proofs.access.operator.LiveOperator.meet_at_queue.Goals as goal

pub meet_alone-is_empty-requires-clause-worker : goal.meet_alone-is_empty-requires-clause-worker
meet_alone-is_empty-requires-clause-worker g c = subst (λ (a : Live). IsWorker a c.worker.inside.token) (c.worker.invariant.ap_is ∙ sym c.self.invariant.ap_is) c.worker.invariant.own

pub invariant_of-self : goal.invariant_of-self
invariant_of-self g c =
    let t : Operator = c.meet_alone-is_empty.new.operator in
    queue_operator _ _ _ t _ c.meet_alone-is_empty.ensures.operator
    (ap (λ (o : Operator). o.shards) c.meet_alone-is_empty.ensures.same_operator ∙ ap (λ (o : Operator). o.shards) c.deref_mut-token.ensures.value)
    (c.meet_alone-is_empty.ensures.put ∙ ap (λ (o : Operator). puts_of o.lines) c.deref_mut-token.ensures.value)
    (record { passes = c.meet_alone-is_empty.ensures.left; alone = c.meet_alone-is_empty.ensures.made }) c.self.invariant

pub invariant_of-worker : goal.invariant_of-worker
invariant_of-worker g c =
    let t : Worker = c.meet_alone-is_empty.new.worker in
    same_parts _ _ t (subst (λ (a : Live). IsWorker a t) (c.self.invariant.ap_is ∙ sym c.worker.invariant.ap_is) c.meet_alone-is_empty.ensures.worker) (ap (λ (w : Worker). w.number) c.meet_alone-is_empty.ensures.same) c.meet_alone-is_empty.ensures.taken
    (ap (λ (w : Worker). w.seen) c.meet_alone-is_empty.ensures.same) (ap (λ (w : Worker). w.shards) c.meet_alone-is_empty.ensures.same) c.worker.invariant

pub returns-clause-same : goal.returns-clause-same
returns-clause-same g c =
    same_puts g.F.Files.held _ _ c.meet_alone-is_empty.new.operator _ c.self.view_is c.deref_mut-token.ensures.value c.meet_alone-is_empty.ensures.put c.meet_alone-is_empty.ensures.same_operator

pub returns-clause-took : goal.returns-clause-took
returns-clause-took g c = took_alone c.deref_mut-token.result.now.lines c.meet_alone-is_empty.new.operator.lines c.worker.inside.token c.meet_alone-is_empty.new.worker c.meet_alone-is_empty.ensures.put c.meet_alone-is_empty.ensures.same c.meet_alone-is_empty.ensures.taken (c.meet_alone-is_empty.ensures.whole c.if-not-is_empty.false)
