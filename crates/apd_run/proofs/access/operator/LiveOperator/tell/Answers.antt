use Rattle.std.proofs.Common.{◌≡◌, ◌<◌, ◌≤◌, ℕ, List, [], true, ap, arith, length, slice_set, subst, sym, ◌∙◌}
use Rattle.std.specs.Prelude.{slice_index_or}
use Rattle.ap_live.specs.Lives.{Live}
use Rattle.ap_queues.specs.Items.{Item}
use Rattle.ap_queues.specs.Lines.{puts_of}
use Rattle.versions.specs.Lists.{Beginning}
use Rattle.versions.proofs.Beginnings.{prefix_length}
use Rattle.apd_run.specs.Batches.{Batch, events_of}
use Rattle.apd_run.specs.Deciding.{items_in}
use Rattle.apd_run.specs.Hands.{AreSettled, RunOperator, RunWorker, work_of}
use Rattle.apd_run.proofs.Keeping.{one_settled, same_told, told_operator, told_worker}
use Rattle.apd_run.proofs.Operated.{tells_crew}
use Rattle.apd_run.proofs.access.operator.LiveOperator.tell.Goals as goal

pub learn-requires-clause-news : goal.learn-requires-clause-news
learn-requires-clause-news g c = ap (λ (b : Beginning). b.list) c.tell-news.ensures.told ∙ (c.self.invariant.list_is ∙ sym (ap (λ (a : Live). a.list.list) c.worker.invariant.ap_is))

pub invariant_of-self : goal.invariant_of-self
invariant_of-self g c = same_told _ _ _ c.note.new.noted c.in_err-note.ensures.refused c.self.invariant

pub invariant_of-self-2 : goal.invariant_of-self-2
invariant_of-self-2 g c =
    let puts : List (List Item) = puts_of c.self.inside.token.value.lines in
    let loads = c.self.inside.loads.now.loads in
    let number : ℕ = c.number-number.result in
    let batches : List Batch = c.self.inside.register in
    let mine : slice_index_or puts c.worker.inside.receipt.number [] ≡ items_in (events_of c.worker.inside.receipt.number batches) =
    subst (λ (w : RunWorker). slice_index_or puts w.number [] ≡ items_in (events_of w.number batches)) (sym c.worker.view_is)
    (subst (λ (o : RunOperator _). slice_index_or (puts_of o.token.lines) c.args.worker.now.number [] ≡ items_in (events_of c.args.worker.now.number o.batches)) (sym c.self.view_is) c.requires.whole) in
    let whole : slice_index_or puts number [] ≡ items_in (events_of number batches) = subst (λ (k : ℕ). slice_index_or puts k [] ≡ items_in (events_of k batches)) (sym c.number-number.ensures.is) mine in
    let settled : AreSettled (slice_set c.self.inside.settled number true) batches c.note.new.noted puts loads =
    subst (λ (l : List ℕ). AreSettled (slice_set c.self.inside.settled number true) batches l puts loads) (sym c.in_ok-note.ensures.noted)
    (one_settled c.self.inside.settled batches c.self.inside.told puts loads number c.count-count.result c.in_ok-note.ensures.below whole c.count-count.ensures.is c.self.invariant.are_settled) in
    told_operator _ _ _ _ _ _ c.tell-news.ensures.same settled c.self.invariant

pub invariant_of-worker : goal.invariant_of-worker
invariant_of-worker g c =
    let empty : c.worker.inside.handled.items ≡ [] = ap (λ (w : RunWorker). w.handled) c.worker.view_is ∙ c.requires.nothing in
    let known = prefix_length _ _ c.learn.ensures.told.has_all in
    let learned : c.count-count.result ≤ length c.learn.new.worker.seen.loads = omega (arith, c.count-count.ensures.is, ap (λ (b : Beginning). length b.loads) c.tell-news.ensures.told, known) in
    told_worker _ _ c.learn.new.worker c.count-count.result c.learn.ensures.own c.learn.ensures.same c.learn.ensures.seen.has_all empty learned c.worker.invariant

pub returns-clause-crew : goal.returns-clause-crew
returns-clause-crew g c =
    tells_crew g.F.Files.held _ _ _ _ (slice_set c.self.inside.settled c.number-number.result true) _ _ _ c.self.view_is c.tell-news.ensures.same (c.number-number.ensures.is ∙ ap (λ (w : RunWorker). w.number) c.worker.view_is) c.count-count.ensures.is c.in_ok-note.ensures.noted

pub returns-clause-agrees : goal.returns-clause-agrees
returns-clause-agrees g c =
    subst (λ (w : RunWorker). slice_index_or (work_of g.F.Files.held c.args.self.now).told w.number 0 ≡ w.told) c.worker.view_is
    (subst (λ (k : ℕ). slice_index_or (work_of g.F.Files.held c.args.self.now).told k 0 ≡ c.worker.inside.told) c.number-number.ensures.is
    (subst (λ (o : RunOperator _). slice_index_or o.told c.number-number.result 0 ≡ c.worker.inside.told) c.self.view_is c.in_ok-note.ensures.agrees))

pub returns-clause-below : goal.returns-clause-below
returns-clause-below g c =
    subst (λ (w : RunWorker). w.number < length (work_of g.F.Files.held c.args.self.now).told) c.worker.view_is
    (subst (λ (k : ℕ). k < length (work_of g.F.Files.held c.args.self.now).told) c.number-number.ensures.is
    (subst (λ (o : RunOperator _). c.number-number.result < length o.told) c.self.view_is c.in_ok-note.ensures.below))
