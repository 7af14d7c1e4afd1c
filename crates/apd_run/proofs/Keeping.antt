-- What changes of tokens and of loads preserve.
use Rattle.std.proofs.Common.{◌≡◌, ◌≢◌, ◌+◌, ◌<◌, ◌≤◌, ℕ, zero, suc, Bool, true, false, true≢false, List, [], ◌∷◌, ◌++◌, append-nil, length, replicate, slice_set, sym, ap, subst, ◌∙◌, arith, get_or-set_same, get_or-set_other}
use Rattle.std.specs.Prelude.{slice_index_or}
use mathlib.Core.Logic.{dite}
use native.Mathlib.Decide.{ℕ_discrete}
use Rattle.ap_model.specs.Readings.{Config}
use Rattle.ap_books.specs.Counts.{none}
use Rattle.ap_books.specs.Holdings.{Holding, HasParts, sum_of}
use mathlib.Core.List.{IsPrefix}
use Rattle.ap_locked.specs.Pages.{Page}
use Rattle.ap_shards.specs.Renewal.{AreRenewed}
use Rattle.ap_shards.specs.Tokens.{Eight, KeepOwn, holding_of}
use Rattle.ap_live.specs.Counting.{counted_by}
use Rattle.ap_queues.specs.Passes.{taken_by}
use Rattle.ap_queues.specs.Queues.{items_of}
use Rattle.ap_live.specs.Lives.{Live}
use Rattle.ap_live.specs.Serving.{Served}
use Rattle.ap_live.specs.Tokens.{Operator, IsOperator, Worker, IsWorker}
use Rattle.ap_live.specs.Upholding.{token_at}
use Rattle.ap_live.specs.declared.tagged.Tagged.{Tagged}
use Rattle.versions.specs.Lists.{Beginning}
use Rattle.versions.specs.declared.list.Load.{Load}
use Rattle.versions.proofs.Beginnings.{prefix_length}
use Rattle.hook_judge.specs.Sums.{no_counts}
use Rattle.apd_run.specs.InForce.{AreInForce}
use Rattle.apd_run.specs.declared.access.program_counts.ProgramCounts.{ProgramCounts}
use Rattle.ap_queues.specs.declared.lines.passes.LinePasses.{LinePasses}
use Rattle.ap_queues.specs.declared.lines.passes.OperatorLines.{OperatorLines}
use Rattle.ap_queues.specs.Items.{Item}
use Rattle.ap_queues.specs.Lines.{puts_of}
use Rattle.apd_run.specs.Batches.{Batch, Receipt, batches_of, events_in, events_of}
use Rattle.apd_run.specs.Dealing.{AreRest, IsUnused}
use Rattle.apd_run.specs.Deciding.{Accounts, AreOfBatches, AreOfQueue, items_in}
use Rattle.apd_run.specs.Hands.{AreSettled, RunOperator, IsRunOperator, RunWorker, IsRunWorker}
use Rattle.apd_run.proofs.Batches.{all_of_queue, events_still, events_two}
use Rattle.apd_run.proofs.Deciding.{accounts_more, accounts_none, accounts_same, accounts_told, kept_own, kept_pages, renewed_pages, renewed_unowned, saw_more, written_more}
use Rattle.apd_run.proofs.Served.{more_counted, nothing_counted}
use Rattle.apd_run.proofs.Sums.{keeps_parts}

-- ---- workers that are settled

-- none
pub none_settled : (batches : List Batch) (told : List ℕ) (puts : List (List Item)) (loads : List Load) → AreSettled (replicate 8 false) batches told puts loads
none_settled batches told puts loads = record { all_taken = λ worker is. absurd (unset 8 worker is); all_told = λ worker is. absurd (unset 8 worker is) }
  where
    unset : (n k : ℕ) → slice_index_or (replicate n false) k false ≡ true → ⊥
    unset zero k is = absurd (true≢false (sym is))
    unset (suc n) zero is = absurd (true≢false (sym is))
    unset (suc n) (suc k) is = unset n k is

-- a number in the place of another
put_here : (xs : List ℕ) (worker k x : ℕ) → worker < length xs → k ≡ worker → slice_index_or (slice_set xs worker x) k 0 ≡ x
put_here xs worker k x low same = ap (λ (j : ℕ). slice_index_or (slice_set xs worker x) j 0) same ∙ get_or-set_same xs worker x 0 low

-- one more batch, after which all items of its worker's queue were taken over
pub settled_more : (settled : List Bool) (batches : List Batch) (told : List ℕ) (puts : List (List Item)) (loads : List Load) (b : Batch) → AreOfQueue b.worker puts batches b.events → AreSettled settled batches told puts loads
    → AreSettled settled (batches ++ b ∷ []) told puts loads
settled_more settled batches told puts loads b whole h =
    record {
      all_taken = λ k set. dite (ℕ_discrete b.worker k)
          (λ same. all_of_queue puts k batches b same whole)
          (λ apart. h.all_taken k set ∙ ap items_in (sym (events_still k batches b apart)));
      all_told = h.all_told;
    }

-- one more, which was told of all loads
pub one_settled : (settled : List Bool) (batches : List Batch) (told : List ℕ) (puts : List (List Item)) (loads : List Load) (worker many : ℕ) → worker < length told
    → slice_index_or puts worker [] ≡ items_in (events_of worker batches) → many ≡ length loads
    → AreSettled settled batches told puts loads → AreSettled (slice_set settled worker true) batches (slice_set told worker many) puts loads
one_settled settled batches told puts loads worker many low whole is h =
    record {
      all_taken = λ k set. dite (ℕ_discrete k worker)
          (λ same. ap (λ (j : ℕ). slice_index_or puts j []) same ∙ (whole ∙ ap (λ (j : ℕ). items_in (events_of j batches)) (sym same)))
          (λ apart. h.all_taken k (was k apart set));
      all_told = λ k set. dite (ℕ_discrete k worker) (λ same. put_here told worker k many low same ∙ is) (λ apart. get_or-set_other told worker k many 0 apart ∙ h.all_told k (was k apart set));
    }
  where
    was : (k : ℕ) → k ≢ worker → slice_index_or (slice_set settled worker true) k false ≡ true → slice_index_or settled k false ≡ true
    was k apart set = sym (get_or-set_other settled worker k true false apart) ∙ set

-- ---- operators

-- the pages of the same tokens
same_pages : (a b : Eight) → b ≡ a → ((s : ℕ) → s < 8 → IsUnused (token_at s a).page) → (s : ℕ) → s < 8 → IsUnused (token_at s b).page
same_pages a b same h = subst (λ (e : Eight). (s : ℕ) → s < 8 → IsUnused (token_at s e).page) (sym same) h

-- an operator whose token has the same parts of the ledgers, and may have put more
pub put_token : {F : Type 0} → (shares : ℕ) (place : Live) (o : RunOperator F) (t : Operator) → IsOperator o.ap t → t.shards ≡ o.token.shards → IsRunOperator shares place o
    → IsRunOperator shares place (record o { token = t; settled = replicate 8 false })
put_token shares place o t own same h =
    record {
      own = own;
      ap_is = h.ap_is;
      rest = h.rest;
      mine = subst (λ (e : Eight). HasParts 1 (holding_of e)) (sym same) h.mine;
      nothing = ap counted_by same ∙ h.nothing;
      unwritten = same_pages o.token.shards t.shards same h.unwritten;
      parts = h.parts;
      pages = h.pages;
      unused = h.unused;
      of_workers = h.of_workers;
      all = h.all;
      shares_are = h.shares_are;
      some = h.some;
      list_is = h.list_is;
      reads = h.reads;
      in_force = h.in_force;
      are_settled = none_settled o.batches o.told (puts_of t.lines) o.loads.loads;
    }

-- an operator whose token has the same parts of the ledgers, and put nothing more
pub other_token : {F : Type 0} → (shares : ℕ) (place : Live) (o : RunOperator F) (t : Operator) → IsOperator o.ap t → t.shards ≡ o.token.shards → t.lines ≡ o.token.lines → IsRunOperator shares place o
    → IsRunOperator shares place (record o { token = t })
other_token shares place o t own same still h =
    record {
      own = own;
      ap_is = h.ap_is;
      rest = h.rest;
      mine = subst (λ (e : Eight). HasParts 1 (holding_of e)) (sym same) h.mine;
      nothing = ap counted_by same ∙ h.nothing;
      unwritten = same_pages o.token.shards t.shards same h.unwritten;
      parts = h.parts;
      pages = h.pages;
      unused = h.unused;
      of_workers = h.of_workers;
      all = h.all;
      shares_are = h.shares_are;
      some = h.some;
      list_is = h.list_is;
      reads = h.reads;
      in_force = h.in_force;
      are_settled = subst (λ (l : OperatorLines). AreSettled o.settled o.batches o.told (puts_of l) o.loads.loads) (sym still) h.are_settled;
    }

-- an operator that told a worker of all loads so far
pub told_operator : {F : Type 0} → (shares : ℕ) (place : Live) (o : RunOperator F) (b : Beginning) (told : List ℕ) (settled : List Bool) → b ≡ o.loads → AreSettled settled o.batches told (puts_of o.token.lines) o.loads.loads
    → IsRunOperator shares place o → IsRunOperator shares place (record o { told = told; settled = settled; loads = b })
told_operator {F} shares place o b told settled same settled_now h =
    subst (λ (x : Beginning). IsRunOperator shares place (record o { told = told; settled = settled; loads = x })) (sym same)
    (record {
      own = h.own;
      ap_is = h.ap_is;
      rest = h.rest;
      mine = h.mine;
      nothing = h.nothing;
      unwritten = h.unwritten;
      parts = h.parts;
      pages = h.pages;
      unused = h.unused;
      of_workers = h.of_workers;
      all = h.all;
      shares_are = h.shares_are;
      some = h.some;
      list_is = h.list_is;
      reads = h.reads;
      in_force = h.in_force;
      are_settled = settled_now;
    })

-- the same with the same batches
pub same_batches : {F : Type 0} → (shares : ℕ) (place : Live) (o : RunOperator F) (batches : List Batch) → batches ≡ o.batches → IsRunOperator shares place o → IsRunOperator shares place (record o { batches = batches })
same_batches shares place o batches same h = subst (λ (l : List Batch). IsRunOperator shares place (record o { batches = l })) (sym same) h

-- with the same notes
pub same_told : {F : Type 0} → (shares : ℕ) (place : Live) (o : RunOperator F) (told : List ℕ) → told ≡ o.told → IsRunOperator shares place o → IsRunOperator shares place (record o { told = told })
same_told shares place o told same h = subst (λ (l : List ℕ). IsRunOperator shares place (record o { told = l })) (sym same) h

-- the same with the same loads
pub same_loads : {F : Type 0} → (shares : ℕ) (place : Live) (o : RunOperator F) (b : Beginning) → b ≡ o.loads → IsRunOperator shares place o → IsRunOperator shares place (record o { loads = b })
same_loads shares place o b same h = subst (λ (x : Beginning). IsRunOperator shares place (record o { loads = x })) (sym same) h

-- an operator whose loads are of the same list, with the counts of their programs, and which may be others
pub other_loads : {F : Type 0} → (shares : ℕ) (place : Live) (o : RunOperator F) (f : F) (b : Beginning) (programs : ProgramCounts) → b.list ≡ o.loads.list → AreInForce programs b.loads
    → IsRunOperator shares place o → IsRunOperator shares place (record o { loads = b; programs = programs; files = f; settled = replicate 8 false })
other_loads shares place o f b programs same in_force h =
    record {
      own = h.own;
      ap_is = h.ap_is;
      rest = h.rest;
      mine = h.mine;
      nothing = h.nothing;
      unwritten = h.unwritten;
      parts = h.parts;
      pages = h.pages;
      unused = h.unused;
      of_workers = h.of_workers;
      all = h.all;
      shares_are = h.shares_are;
      some = h.some;
      list_is = same ∙ h.list_is;
      reads = h.reads;
      in_force = in_force;
      are_settled = none_settled o.batches o.told (puts_of o.token.lines) b.loads;
    }

-- the token of a worker whose counts of its programs' runs were taken
abbrev pub uncounted : Worker → Worker
uncounted w = record w { held = record w.held { counts = no_counts } }

-- a worker whose token has other parts of the ledgers, one of each, which have counted nothing, no counts of its programs'
-- runs, and no entries of its own
pub other_parts : (place : Live) (w : RunWorker) (t : Worker) (fresh : Holding) (handled : List Tagged) (receipt : Receipt) → receipt.number ≡ w.number
    → batches_of w.number receipt.batches ≡ batches_of w.number w.batches ++ record { worker = w.number; told = w.told; events = w.handled } ∷ [] → t ≡ record (uncounted w.token) { shards = t.shards } → holding_of t.shards ≡ fresh
    → HasParts 1 fresh → sum_of fresh ≡ none → handled ≡ [] → AreRenewed w.token.shards t.shards → IsRunWorker place w
    → IsRunWorker place (record w { token = t; handled = handled; number = receipt.number; batches = receipt.batches })
other_parts place w t fresh handled receipt number more same taken one nothing empty renewed h =
    let b : Batch = record { worker = w.number; told = w.told; events = w.handled } in
    let mine : List Batch = batches_of w.number w.batches in
    let own : batches_of receipt.number receipt.batches ≡ mine ++ b ∷ [] = ap (λ (k : ℕ). batches_of k receipt.batches) number ∙ more in
    let items : items_of (taken_by t.pass) ≡ items_in (events_in (mine ++ b ∷ [])) =
    ap (λ (x : Worker). items_of (taken_by x.pass)) same
    ∙ (h.accounts.taken ∙ ap items_in (sym (events_two mine (b ∷ []) ∙ ap (λ (l : List Tagged). events_in mine ++ l) (append-nil w.handled)))) in
    let seen : t.seen ≡ w.token.seen = ap (λ (x : Worker). x.seen) same in
    let pages : (s : ℕ) → s < 8 → AreOfBatches s t.seen.loads (mine ++ b ∷ []) (token_at s t.shards).page.made =
    λ s low.
    subst (λ (x : Beginning). AreOfBatches s x.loads (mine ++ b ∷ []) (token_at s t.shards).page.made) (sym seen)
    (subst (λ (p : Page). AreOfBatches s w.token.seen.loads (mine ++ b ∷ []) p.made) (sym (renewed_pages w.token.shards t.shards renewed s low)) (written_more mine w.number w.told w.token w.handled h.accounts s low)) in
    record {
      own = subst (IsWorker w.ap) (sym same) (record { number = h.own.number; pass = h.own.pass; list = h.own.list; fitting = h.own.fitting });
      ap_is = h.ap_is;
      number_is = number ∙ (h.number_is ∙ sym (ap (λ (x : Worker). x.number) same));
      parts = subst (HasParts 1) (sym taken) one;
      counts = nothing_counted _ _ (ap sum_of taken ∙ nothing) empty;
      accounts = subst (λ (l : List Batch). Accounts l w.told t handled) (sym own) (accounts_none (mine ++ b ∷ []) w.told t handled items empty (renewed_unowned w.token.shards t.shards renewed) pages);
      learned = subst (λ (x : Worker). w.told ≤ length x.seen.loads) (sym same) h.learned;
    }

-- a worker with the same receipt
pub same_receipt : (place : Live) (w : RunWorker) (receipt : Receipt) → receipt ≡ record { number = w.number; batches = w.batches } → IsRunWorker place w → IsRunWorker place (record w { number = receipt.number; batches = receipt.batches })
same_receipt place w receipt same h = subst (λ (r : Receipt). IsRunWorker place (record w { number = r.number; batches = r.batches })) (sym same) h

-- a worker whose token has the same parts of the ledgers, took nothing more, and has seen the same loads
pub same_parts : (place : Live) (w : RunWorker) (t : Worker) → IsWorker w.ap t → t.number ≡ w.token.number → taken_by t.pass ≡ taken_by w.token.pass → t.seen ≡ w.token.seen → t.shards ≡ w.token.shards
    → IsRunWorker place w → IsRunWorker place (record w { token = t })
same_parts place w t own number taken saw same h =
    record {
      own = own;
      ap_is = h.ap_is;
      number_is = h.number_is ∙ sym number;
      parts = subst (λ (e : Eight). HasParts 1 (holding_of e)) (sym same) h.parts;
      counts = ap counted_by same ∙ h.counts;
      accounts = accounts_same (batches_of w.number w.batches) w.told w.token t w.handled taken saw (λ s low. ap (λ (e : Eight). (token_at s e).own) same) (λ s low. ap (λ (e : Eight). (token_at s e).page) same) h.accounts;
      learned = subst (λ (b : Beginning). w.told ≤ length b.loads) (sym saw) h.learned;
    }

-- a worker without events that learned of all loads so far
pub told_worker : (place : Live) (w : RunWorker) (t : Worker) (told : ℕ) → IsWorker w.ap t → t ≡ record w.token { seen = t.seen } → IsPrefix w.token.seen.loads t.seen.loads → w.handled ≡ [] → told ≤ length t.seen.loads → IsRunWorker place w
    → IsRunWorker place (record w { token = t; told = told })
told_worker place w t told own same more empty learned h =
    let shards : t.shards ≡ w.token.shards = ap (λ (x : Worker). x.shards) same in
    record {
      own = own;
      ap_is = h.ap_is;
      number_is = h.number_is ∙ sym (ap (λ (x : Worker). x.number) same);
      parts = subst (λ (e : Eight). HasParts 1 (holding_of e)) (sym shards) h.parts;
      counts = ap counted_by shards ∙ h.counts;
      accounts = accounts_told (batches_of w.number w.batches) w.told told w.token t w.handled same more empty h.accounts;
      learned = learned;
    }

-- a worker that served
pub served_worker : (config : Config) (place : Live) (w : RunWorker) (t : Worker) (handled : List Tagged) → IsWorker w.ap t → t.number ≡ w.token.number → Served config w.ap w.token t w.handled handled
    → IsRunWorker place w → IsRunWorker place (record w { token = t; handled = handled })
served_worker config place w t handled own number served h =
    record {
      own = own;
      ap_is = h.ap_is;
      number_is = h.number_is ∙ sym number;
      parts = keeps_parts 1 w.token.shards t.shards served.parts h.parts;
      counts = more_counted _ _ _ _ served.tags h.counts served.listed served.counted;
      accounts = accounts_more config w.ap w.token t w.handled handled served (batches_of w.number w.batches) w.told h.learned h.accounts;
      learned = omega (arith, h.learned, prefix_length w.token.seen.loads t.seen.loads (saw_more config w.ap w.token t w.handled handled served));
    }

-- ---- tokens that met

-- the same parts of the ledgers, which have counted the same
kept_holding : (a b : Eight) → KeepOwn a b → holding_of b ≡ holding_of a
kept_holding a b k i =
    record {
      of0 = k.0.portion i;
      of1 = k.1.portion i;
      of2 = k.2.portion i;
      of3 = k.3.portion i;
      of4 = k.4.portion i;
      of5 = k.5.portion i;
      of6 = k.6.portion i;
      of7 = k.7.portion i;
    }

-- an operator that may have seen more
pub met_operator : {F : Type 0} → (shares : ℕ) (place : Live) (o : RunOperator F) (t : Operator) → t ≡ record o.token { shards = t.shards } → KeepOwn o.token.shards t.shards → IsRunOperator shares place o
    → IsRunOperator shares place (record o { token = t })
met_operator shares place o t same k h =
    record {
      own = subst (IsOperator o.ap) (sym same) (record { lines = h.own.lines; seats = h.own.seats });
      ap_is = h.ap_is;
      rest = h.rest;
      mine = subst (HasParts 1) (sym (kept_holding o.token.shards t.shards k)) h.mine;
      nothing = ap sum_of (kept_holding o.token.shards t.shards k) ∙ h.nothing;
      unwritten = λ s low. ap (λ (p : Page). p.made) (kept_pages o.token.shards t.shards k s low) ∙ h.unwritten s low;
      parts = h.parts;
      pages = h.pages;
      unused = h.unused;
      of_workers = h.of_workers;
      all = h.all;
      shares_are = h.shares_are;
      some = h.some;
      list_is = h.list_is;
      reads = h.reads;
      in_force = h.in_force;
      are_settled = subst (λ (x : Operator). AreSettled o.settled o.batches o.told (puts_of x.lines) o.loads.loads) (sym same) h.are_settled;
    }

-- a worker that may have seen more
pub met_worker : (place : Live) (w : RunWorker) (t : Worker) → t ≡ record w.token { shards = t.shards } → KeepOwn w.token.shards t.shards → IsRunWorker place w → IsRunWorker place (record w { token = t })
met_worker place w t same k h =
    record {
      own = subst (IsWorker w.ap) (sym same) (record { number = h.own.number; pass = h.own.pass; list = h.own.list; fitting = h.own.fitting });
      ap_is = h.ap_is;
      number_is = h.number_is ∙ sym (ap (λ (x : Worker). x.number) same);
      parts = subst (HasParts 1) (sym (kept_holding w.token.shards t.shards k)) h.parts;
      counts = ap sum_of (kept_holding w.token.shards t.shards k) ∙ h.counts;
      accounts = accounts_same (batches_of w.number w.batches) w.told w.token t w.handled (ap (λ (x : Worker). taken_by x.pass) same) (ap (λ (x : Worker). x.seen) same) (kept_own w.token.shards t.shards k) (kept_pages w.token.shards t.shards k) h.accounts;
      learned = subst (λ (x : Worker). w.told ≤ length x.seen.loads) (sym same) h.learned;
    }

-- an operator whose token met a worker at its queue
pub queue_operator : {F : Type 0} → (shares : ℕ) (place : Live) (o : RunOperator F) (t : Operator) (passes : LinePasses) → IsOperator o.ap t → t.shards ≡ o.token.shards → puts_of t.lines ≡ puts_of o.token.lines → AreRest o.ap passes
    → IsRunOperator shares place o → IsRunOperator shares place (record o { token = t; passes = passes })
queue_operator shares place o t passes own same put rest h =
    record {
      own = own;
      ap_is = h.ap_is;
      rest = rest;
      mine = subst (λ (e : Eight). HasParts 1 (holding_of e)) (sym same) h.mine;
      nothing = ap counted_by same ∙ h.nothing;
      unwritten = same_pages o.token.shards t.shards same h.unwritten;
      parts = h.parts;
      pages = h.pages;
      unused = h.unused;
      of_workers = h.of_workers;
      all = h.all;
      shares_are = h.shares_are;
      some = h.some;
      list_is = h.list_is;
      reads = h.reads;
      in_force = h.in_force;
      are_settled = subst (λ (l : List (List Item)). AreSettled o.settled o.batches o.told l o.loads.loads) (sym put) h.are_settled;
    }
