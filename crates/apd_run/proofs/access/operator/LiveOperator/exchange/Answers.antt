use Rattle.std.proofs.Common.{◌≡◌, ◌<◌, List, [], ◌∷◌, ◌++◌, ap, length, refl, sym, subst, ◌∙◌}
use Rattle.std.specs.Global.{Vec}
use Rattle.std.proofs.lemmas.List.Elements.{All-append, All-cons, All-nil, All-same}
use Rattle.ap_books.specs.Holdings.{HasMerged, HasMoreThan, HasParts, HasSplit, Holding, sum_of}
use Rattle.ap_books.specs.Counts.{Counts}
use Rattle.ap_books.specs.Reading.{Reads}
use Rattle.ap_live.specs.Counting.{counted_by, tally}
use Rattle.ap_live.specs.Lives.{Live}
use Rattle.ap_shards.specs.Renewal.{AreRenewed}
use Rattle.ap_shards.specs.Tokens.{holding_of}
use Rattle.ap_live.specs.declared.tagged.Tagged.{Tagged}
use Rattle.apd_driver.specs.Crews.{gains}
use Rattle.ap_live.specs.Tokens.{Worker}
use Rattle.ap_queues.specs.Items.{Item}
use Rattle.ap_queues.specs.Lines.{puts_of}
use Rattle.apd_run.specs.Batches.{Batch, Receipt, batches_of}
use Rattle.apd_run.specs.Deciding.{Accounts, TookAllOf}
use Rattle.apd_run.specs.Hands.{AreSettled, IsOfWorker, RunOperator, RunWorker, claims, crew_of, work_of}
use Rattle.apd_run.specs.InForce.{AreInForce, with_counts}
use Rattle.apd_run.specs.declared.access.program_counts.ProgramCounts.{ProgramCounts}
use Rattle.apd_run.proofs.Batches.{batches_more}
use Rattle.apd_run.proofs.Budgeting.{counted_in_force}
use Rattle.apd_run.proofs.Deciding.{of_queue}
use Rattle.apd_run.proofs.Keeping.{other_parts, same_batches, same_receipt, settled_more}
use Rattle.apd_run.proofs.Operated.{claimed_crew}
use Rattle.apd_run.proofs.Sums.{exchanged_parts, exchanged_sum, fresh, more_than_one}
use Rattle.apd_run.proofs.access.operator.LiveOperator.exchange.Goals as goal

pub split_off-fresh-requires-clause-more : goal.split_off-fresh-requires-clause-more
split_off-fresh-requires-clause-more g c =
    subst (HasMoreThan 1) (sym c.deref_mut.ensures.value) (more_than_one c.self.inside.parts c.self.inside.hoard.value c.self.invariant.some c.self.invariant.parts)

pub renew-counted-requires : goal.renew-counted-requires
renew-counted-requires g c = fresh c.split_off-fresh.result c.split_off-fresh.ensures.parts c.split_off-fresh.ensures.none

pub invariant_of-self : goal.invariant_of-self
invariant_of-self g c = same_batches _ _ _ c.add.new.self c.in_err-add.ensures.refused.0 c.self.invariant

pub invariant_of-worker : goal.invariant_of-worker
invariant_of-worker g c = same_receipt _ _ c.add.new.receipt c.in_err-add.ensures.refused.1 c.worker.invariant

pub invariant_of-self-2 : goal.invariant_of-self-2
invariant_of-self-2 g c =
    let i = c.self.invariant in
    let hoard = c.self.inside.hoard.value in
    let left = c.split_off-fresh.new.self in
    let shards = c.worker.inside.token.shards in
    let number = c.worker.inside.receipt.number in
    let old : List Batch = c.self.inside.register in
    let batch : Batch = record { worker = number; told = c.worker.inside.told; events = c.worker.inside.handled.items } in
    let stayed : sum_of left ≡ sum_of hoard = c.split_off-fresh.ensures.counts ∙ ap sum_of c.deref_mut.ensures.value in
    let split : HasSplit 1 hoard left = subst (λ (h : Holding). HasSplit 1 h left) c.deref_mut.ensures.value c.split_off-fresh.ensures.left in
    let merged : HasMerged left c.renew-counted.result c.merge.new.self = subst (λ (h : Holding). HasMerged h c.renew-counted.result c.merge.new.self) c.deref_mut-2.ensures.value c.merge.ensures in
    let counted = exchanged_sum hoard left c.renew-counted.result c.merge.new.self (counted_by shards) stayed merged (ap sum_of c.renew-counted.ensures.given ∙ ap (λ (w : Worker). counted_by w.shards) c.take_counts-runs.ensures.anew) in
    let programs : c.add-2.new.self ≡ with_counts c.self.inside.programs c.take_counts-runs.result = c.add-2.ensures.sums in
    let handled = ap (λ (v : Vec Tagged). tally v.items) c.replace-handled.ensures.value in
    let numbers : Reads c.counted_in-numbers.result (counted_by shards) = subst (Reads c.counted_in-numbers.result) (ap tally c.as_slice-2.ensures.value ∙ (handled ∙ sym c.worker.invariant.counts)) c.counted_in-numbers.ensures.reads in
    let puts : List (List Item) = puts_of c.self.inside.token.value.lines in
    let loads = c.self.inside.loads.now.loads in
    let took : TookAllOf puts c.worker.inside.token = subst (λ (w : RunWorker). TookAllOf puts w.token) (sym c.worker.view_is)
    (subst (λ (o : RunOperator _). TookAllOf (puts_of o.token.lines) c.args.worker.now.token) (sym c.self.view_is) c.requires.took) in
    let added : c.add.new.self ≡ old ++ batch ∷ [] = c.in_ok-add.ensures.added ∙ ap (λ (l : List Tagged). old ++ record { worker = number; told = c.worker.inside.told; events = l } ∷ []) c.as_slice.ensures.value in
    let mine : Accounts (batches_of number old) c.worker.inside.told c.worker.inside.token c.worker.inside.handled.items =
    subst (λ (l : List Batch). Accounts l c.worker.inside.told c.worker.inside.token c.worker.inside.handled.items) c.in_ok-add.ensures.agree c.worker.invariant.accounts in
    let settled : AreSettled c.self.inside.settled c.add.new.self c.self.inside.told puts loads =
    subst (λ (l : List Batch). AreSettled c.self.inside.settled l c.self.inside.told puts loads) (sym added)
    (settled_more c.self.inside.settled old c.self.inside.told puts loads batch (of_queue puts c.worker.inside.told number old c.worker.inside.token c.worker.inside.handled.items c.worker.invariant.number_is took mine) i.are_settled) in
    let given : HasParts 1 c.renew-counted.result = subst (HasParts 1) (sym (c.renew-counted.ensures.given ∙ ap (λ (w : Worker). holding_of w.shards) c.take_counts-runs.ensures.anew)) c.worker.invariant.parts in
    let all = length c.self.inside.ap.now.queues in
    let below : number < all =
    subst (λ n. n < all) (sym c.worker.invariant.number_is) (subst (λ (a : Live). c.worker.inside.token.number < length a.queues) (c.worker.invariant.ap_is ∙ sym i.ap_is) c.worker.invariant.own.number) in
    record {
      own = i.own;
      ap_is = i.ap_is;
      rest = i.rest;
      mine = i.mine;
      nothing = i.nothing;
      unwritten = i.unwritten;
      parts = exchanged_parts c.self.inside.parts hoard left c.renew-counted.result c.merge.new.self i.parts split given merged;
      pages = i.pages;
      unused = i.unused;
      all = i.all;
      shares_are = i.shares_are;
      some = i.some;
      list_is = i.list_is;
      of_workers = All-same (IsOfWorker all) c.add.new.self (old ++ batch ∷ []) added (All-append (IsOfWorker all) old (batch ∷ []) i.of_workers (All-cons (IsOfWorker all) batch [] below (All-nil (IsOfWorker all))));
      are_settled = settled;
      in_force = subst (λ (p : ProgramCounts). AreInForce p loads) (sym programs) (counted_in_force c.self.inside.programs c.take_counts-runs.result loads i.in_force);
      reads = subst (Reads c.and-self-inside.result) (sym counted) (c.and-self-inside.ensures _ _ i.reads numbers);
    }

pub invariant_of-worker-2 : goal.invariant_of-worker-2
invariant_of-worker-2 g c =
    let number = c.worker.inside.receipt.number in
    let old : List Batch = c.self.inside.register in
    let batch : Batch = record { worker = number; told = c.worker.inside.told; events = c.worker.inside.handled.items } in
    let added : c.add.new.self ≡ old ++ batch ∷ [] = c.in_ok-add.ensures.added ∙ ap (λ (l : List Tagged). old ++ record { worker = number; told = c.worker.inside.told; events = l } ∷ []) c.as_slice.ensures.value in
    let more : batches_of number c.add.new.receipt.batches ≡ batches_of number c.worker.inside.receipt.batches ++ batch ∷ [] =
    ap (λ (r : Receipt). batches_of number r.batches) c.in_ok-add.ensures.receipt
    ∙ (ap (batches_of number) added ∙ (batches_more number old batch refl ∙ ap (λ (l : List Batch). l ++ batch ∷ []) (sym c.in_ok-add.ensures.agree))) in
    let empty = ap (λ (v : Vec Tagged). v.items) c.replace-handled.ensures.after ∙ c.new.ensures.items in
    let before : RunWorker = record { ap = c.worker.inside.ap.now; number = number; batches = c.worker.inside.receipt.batches; told = c.worker.inside.told; token = c.worker.inside.token; handled = c.worker.inside.handled.items } in
    other_parts _ before _ c.split_off-fresh.result c.replace-handled.new.dest.items c.add.new.receipt (ap (λ (r : Receipt). r.number) c.in_ok-add.ensures.receipt) more
    (c.renew-counted.ensures.same ∙ ap (λ (w : Worker). record w { shards = c.renew-counted.new.self.shards }) c.take_counts-runs.ensures.anew) c.renew-counted.ensures.taken c.split_off-fresh.ensures.parts c.split_off-fresh.ensures.none empty
    (subst (λ (w : Worker). AreRenewed w.shards c.renew-counted.new.self.shards) c.take_counts-runs.ensures.anew c.renew-counted.ensures.renewed) c.worker.invariant

pub returns-clause-crew : goal.returns-clause-crew
returns-clause-crew g c =
    let hoard = c.self.inside.hoard.value in
    let left = c.split_off-fresh.new.self in
    let shards = c.worker.inside.token.shards in
    let old : List Batch = c.self.inside.register in
    let batch : Batch = record { worker = c.worker.inside.receipt.number; told = c.worker.inside.told; events = c.worker.inside.handled.items } in
    let stayed : sum_of left ≡ sum_of hoard = c.split_off-fresh.ensures.counts ∙ ap sum_of c.deref_mut.ensures.value in
    let merged : HasMerged left c.renew-counted.result c.merge.new.self = subst (λ (h : Holding). HasMerged h c.renew-counted.result c.merge.new.self) c.deref_mut-2.ensures.value c.merge.ensures in
    let counted = exchanged_sum hoard left c.renew-counted.result c.merge.new.self (counted_by shards) stayed merged (ap sum_of c.renew-counted.ensures.given ∙ ap (λ (w : Worker). counted_by w.shards) c.take_counts-runs.ensures.anew) in
    let added : c.add.new.self ≡ old ++ batch ∷ [] =
    c.in_ok-add.ensures.added ∙ ap (λ (l : List Tagged). old ++ record { worker = c.worker.inside.receipt.number; told = c.worker.inside.told; events = l } ∷ []) c.as_slice.ensures.value in
    let items : c.worker.inside.handled.items ≡ c.replace-handled.result.items = sym (ap (λ (v : Vec Tagged). v.items) c.replace-handled.ensures.value) in
    let is = c.worker.view_is in
    claimed_crew g.F.Files.held _ _ c.merge.new.self (counted_by shards) c.add.new.self batch c.self.view_is counted added
    ∙ (ap (λ (x : Counts). gains (claims (crew_of g.F.Files.held c.args.self.now) batch) x) c.worker.invariant.counts
    ∙ (λ i. gains (claims (crew_of g.F.Files.held c.args.self.now) (record { worker = (is i).number; told = (is i).told; events = items i })) (tally (items i))))

pub returns-clause-accounts : goal.returns-clause-accounts
returns-clause-accounts g c =
    let number = c.worker.inside.receipt.number in
    subst (λ (w : RunWorker). Accounts (batches_of w.number (work_of g.F.Files.held c.args.self.now).batches) w.told w.token c.replace-handled.result.items) c.worker.view_is
    (subst (λ (o : RunOperator _). Accounts (batches_of number o.batches) c.worker.inside.told c.worker.inside.token c.replace-handled.result.items) c.self.view_is
    (subst (λ (v : Vec Tagged). Accounts (batches_of number c.self.inside.register) c.worker.inside.told c.worker.inside.token v.items) (sym c.replace-handled.ensures.value)
    (subst (λ (l : List Batch). Accounts l c.worker.inside.told c.worker.inside.token c.worker.inside.handled.items) c.in_ok-add.ensures.agree c.worker.invariant.accounts)))

pub returns-clause-number : goal.returns-clause-number
returns-clause-number g c = subst (λ (w : RunWorker). w.number ≡ w.token.number) c.worker.view_is c.worker.invariant.number_is
