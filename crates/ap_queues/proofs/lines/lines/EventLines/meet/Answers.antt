use Rattle.std.proofs.Common.{◌≡◌, ◌<◌, ◌++◌, ℕ, List, [], length, map, get_or, sym, ap, ◌∙◌, subst, arith}
use Rattle.std.proofs.lemmas.List.{get_or-map}
use Rattle.std.proofs.Math.Seq.{map-set_same}
use Rattle.ap_queues.specs.declared.queue.EventQueue.{EventQueue}
use Rattle.ap_queues.specs.declared.queue.OperatorPass.{OperatorPass}
use Rattle.ap_queues.specs.Queues.{of}
use Rattle.ap_queues.specs.Passes.{IsOperatorOf, IsWorkerOf, number_of, put_by, taken_by}
use Rattle.ap_rows.proofs.Standing.{found, one_value, rows_set_at}
use Rattle.ap_queues.proofs.Steps.{put_nothing}
use Rattle.ap_queues.proofs.lines.lines.EventLines.meet.Goals as goal

pub meet-requires-clause-worker : goal.meet-requires-clause-worker
meet-requires-clause-worker c =
    c.requires.worker c.index.result.now (found c.args.self.now c.args.number c.index.result.now c.requires.there (c.index.ensures ∙ ap (λ (qs : List EventQueue). get_or qs c.args.number c.index.result.now) c.self.view_is))

pub returns-clause-worker : goal.returns-clause-worker
returns-clause-worker c q there =
    let here = found c.args.self.now c.args.number c.index.result.now c.requires.there (c.index.ensures ∙ ap (λ (qs : List EventQueue). get_or qs c.args.number c.index.result.now) c.self.view_is) in
    subst (λ (x : EventQueue). IsWorkerOf x c.meet.new.worker) (one_value c.args.self.now c.args.number c.index.result.now q here there) c.meet.ensures.worker

pub returns-clause-operator : goal.returns-clause-operator
returns-clause-operator c =
    rows_set_at IsOperatorOf c.args.self.now c.args.operator.now.passes.items c.args.number c.index.result.now c.meet.new.operator c.requires.there (c.index.ensures ∙ ap (λ (qs : List EventQueue). get_or qs c.args.number c.index.result.now) c.self.view_is) c.meet.ensures.operator c.requires.operator

pub returns-clause-numbers : goal.returns-clause-numbers
returns-clause-numbers c =
    map-set_same number_of c.args.operator.now.passes.items c.args.number c.meet.new.operator c.index_mut.result.now (c.meet.ensures.number ∙ ap number_of c.index_mut.ensures.value)

pub returns-clause-put : goal.returns-clause-put
returns-clause-put c =
    put_nothing c.args.operator.now.passes.items c.args.number c.index_mut.result.now c.meet.new.operator c.index_mut.ensures.value c.meet.ensures.put

pub returns-clause-order : goal.returns-clause-order
returns-clause-order c =
    let ps : List OperatorPass = c.args.operator.now.passes.items in
    let k : ℕ = c.args.number in
    let x : OperatorPass = c.index_mut.result.now in
    let low : k < length ps = omega (arith, c.requires.operator.as_many) in
    let put_is : get_or (map put_by ps) k [] ≡ put_by x = get_or-map put_by ps k x [] low ∙ ap put_by (sym c.index_mut.ensures.value) in
    let number_is : get_or (map number_of ps) k 0 ≡ number_of x = get_or-map number_of ps k x 0 low ∙ ap number_of (sym c.index_mut.ensures.value) in
    let order = c.meet.ensures.order in
    record {
      rest = order.0;
      put = put_is ∙ (order.1 ∙ ap (λ (n : ℕ). of n (taken_by c.args.worker.now) ++ order.0) (sym number_is));
    }
