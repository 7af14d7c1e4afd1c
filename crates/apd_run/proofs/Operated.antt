-- What an operator's calls do to what contracts see of it.
use Rattle.std.proofs.Common.{◌≡◌, ◌+◌, ◌-◌, ◌<◌, ◌≤◌, ℕ, zero, suc, Bool, List, [], ◌∷◌, ◌++◌, Option, Some, None, length, refl, slice_set, sym, ap, subst, ◌∙◌, arith, add-zero}
use Rattle.bpf_regions.specs.declared.hooks.Hook.{Hook}
use Rattle.versions.specs.Lists.{Beginning, with_load}
use Rattle.versions.specs.Sets.{load}
use Rattle.ap_books.specs.Counts.{Counts, plus}
use Rattle.ap_books.specs.Holdings.{Holding, sum_of}
use Rattle.ap_model.specs.declared.event.Event.{Event}
use Rattle.ap_model.specs.declared.event.Event.TheVariants as event
use Rattle.ap_queues.specs.Items.{Item}
use Rattle.ap_queues.specs.Lines.{puts_of}
use Rattle.ap_queues.specs.Putting.{served, shard_count}
use Rattle.ap_queues.specs.Putting as queue
use Rattle.ap_queues.specs.Refusing.{StopsAt}
use Rattle.ap_queues.specs.declared.lines.fault.Unserved.{Unserved}
use Rattle.ap_queues.specs.declared.queue.EventQueue.{EventQueue}
use Rattle.ap_shards.specs.Tokens.{KeepOwn}
use Rattle.ap_live.specs.Tokens.{Operator}
use Rattle.apd_script.specs.Asked.{Load, Adopt, Read, Store, Sum, Unload}
use Rattle.apd_script.specs.declared.command.MapWord.{MapWord}
use Rattle.ap_tables.specs.Accesses.{Accesses, Sums}
use Rattle.ap_tables.specs.Stocks.{Names}
use Rattle.bpf_regions.specs.declared.maps.MapOp.TheVariants as operation
use Rattle.bpf_regions.specs.declared.maps.Scope.TheVariants as scope
use Rattle.apd_driver.specs.declared.reports.report.Told.{Told}
use Rattle.apd_driver.specs.declared.reports.report.Told.TheVariants.{Memory, Word}
use Rattle.apd_driver.specs.Crews.{Crew, Works, gains, with_work}
use Rattle.apd_driver.specs.Following.{AtNone, AtOneMore, Concerns, PutsAll, PutsFrom, WaitsAt, first_shard, for_publication, for_use, shard_end}
use Rattle.apd_driver.specs.declared.actions.Publication.{Publication}
use Rattle.apd_driver.specs.declared.actions.WordUse.{WordUse}
use Rattle.apd_driver.specs.declared.operating.Waiting.{Waiting}
use Rattle.apd_run.specs.Adopting.{AdoptsFiles}
use Rattle.apd_run.specs.Batches.{Batch}
use Rattle.apd_run.specs.Hands.{RunOperator, claims, crew_of, tells, work_of}
use Rattle.apd_run.specs.Loading.{LoadsFile}
use Rattle.apd_files.specs.Held.{Held, path_of}
use Rattle.apd_run.specs.Words.{IsRead, IsStored, IsSummed, NoneRead, NoneStored, NoneSummed}
use Rattle.apd_run.specs.Work.{Does, Sees, Work, live, with_loads, with_seats}
use Rattle.apd_run.specs.Work as work
use Rattle.apd_run.proofs.Deciding.{kept_seen}

-- ---- events

-- an event was put at some shards
put_some : (w : Work) (line : ℕ) (e : Event) (first n : ℕ) → PutsFrom live line e first w (first + n) (record w { puts = served w.puts line e first n })
put_some w line e first zero = subst (λ (k : ℕ). PutsFrom live line e first w k w) (sym (add-zero first)) AtNone
put_some w line e first (suc n) =
    let next : first + n + 1 ≡ first + suc n = omega arith in
    subst (λ (k : ℕ). PutsFrom live line e first w k (record w { puts = served w.puts line e first (suc n) })) next
    (AtOneMore (first + n) (record w { puts = served w.puts line e first n }) (record w { puts = served w.puts line e first (suc n) }) (put_some w line e first n) refl)

same_first : (e : Event) → queue.first_shard e ≡ first_shard e
same_first (event.Frame bytes) = refl
same_first (event.Tick units) = refl
same_first (event.Kick station reason) = refl
same_first (event.Close station tid) = refl

same_end : (e : Event) → first_shard e + shard_count e ≡ shard_end e
same_end (event.Frame bytes) = refl
same_end (event.Tick units) = refl
same_end (event.Kick station reason) = refl
same_end (event.Close station tid) = refl

-- an event that is no tick concerns one shard
pub starts_there : (e : Event) (shard : ℕ) → ((units : ℕ) → e ≡ event.Tick units → ⊥) → Concerns e shard → first_shard e ≡ shard
starts_there (event.Frame bytes) shard other c = omega (arith, c.first_is, c.within)
starts_there (event.Tick units) shard other c = absurd (other units refl)
starts_there (event.Kick station reason) shard other c = omega (arith, c.first_is, c.within)
starts_there (event.Close station tid) shard other c = omega (arith, c.first_is, c.within)

-- a tick concerns no shard beyond the last
pub no_such_shard : (e : Event) (units shard : ℕ) → e ≡ event.Tick units → 8 ≤ shard → Concerns e shard → ⊥
no_such_shard e units shard tick high c =
    let below : shard < 8 = subst (λ (x : Event). shard < shard_end x) tick c.within in
    omega (arith, below, high)

module _ {F : Type 0} (held : F → Held) where
  -- the same of an operator
  pub put_work : (o old : RunOperator F) (t m : Operator) (line : ℕ) (e : Event) (first n to : ℕ) → o ≡ old → m ≡ o.token → t ≡ record m { lines = t.lines } → puts_of t.lines ≡ served (puts_of m.lines) line e first n → first + n ≡ to
      → PutsFrom live line e first (work_of held old) to (work_of held (record o { token = t }))
  put_work o old t m line e first n to is token still put end =
      let others : t ≡ record o.token { lines = t.lines } = still ∙ ap (λ (x : Operator). record x { lines = t.lines }) token in
      let more : puts_of t.lines ≡ served (puts_of o.token.lines) line e first n = put ∙ ap (λ (x : Operator). served (puts_of x.lines) line e first n) token in
      subst (λ (x : RunOperator F). PutsFrom live line e first (work_of held x) to (work_of held (record o { token = t }))) is
      (subst (λ (k : ℕ). PutsFrom live line e first (work_of held o) k (work_of held (record o { token = t }))) end
      (subst (λ (x : Operator). PutsFrom live line e first (work_of held o) (first + n) (work_of held (record o { token = x }))) (sym others)
      (subst (λ (ps : List (List Item)). PutsFrom live line e first (work_of held o) (first + n) (record (work_of held o) { puts = ps })) (sym more) (put_some (work_of held o) line e first n))))

  -- it was put at all that it concerns
  pub put_all : (o old : RunOperator F) (t m : Operator) (line : ℕ) (e : Event) → o ≡ old → m ≡ o.token → t ≡ record m { lines = t.lines } → puts_of t.lines ≡ served (puts_of m.lines) line e (queue.first_shard e) (shard_count e)
      → PutsAll live line e (work_of held old) (work_of held (record o { token = t }))
  put_all o old t m line e is token still put =
      subst (λ (k : ℕ). PutsFrom live line e k (work_of held old) (shard_end e) (work_of held (record o { token = t }))) (same_first e)
      (put_work o old t m line e (queue.first_shard e) (shard_count e) (shard_end e) is token still put (ap (λ (k : ℕ). k + shard_count e) (same_first e) ∙ same_end e))

  -- a tick was put from a shard on
  pub put_tick : (o old : RunOperator F) (t m : Operator) (line units shard : ℕ) (e : Event) → o ≡ old → m ≡ o.token → t ≡ record m { lines = t.lines } → shard < 8 → e ≡ event.Tick units
      → puts_of t.lines ≡ served (puts_of m.lines) line (event.Tick units) shard (8 - shard) → PutsFrom live line e shard (work_of held old) (shard_end e) (work_of held (record o { token = t }))
  put_tick o old t m line units shard e is token still below tick put =
      let all : shard + (8 - shard) ≡ 8 = omega (arith, below) in
      subst (λ (x : Event). PutsFrom live line x shard (work_of held old) (shard_end x) (work_of held (record o { token = t }))) (sym tick)
      (put_work o old t m line (event.Tick units) shard (8 - shard) 8 is token still put all)

  -- another event was put at its shard
  pub put_there : (o old : RunOperator F) (t m : Operator) (line : ℕ) (e : Event) (shard : ℕ) → o ≡ old → m ≡ o.token → t ≡ record m { lines = t.lines } → first_shard e ≡ shard
      → puts_of t.lines ≡ served (puts_of m.lines) line e (queue.first_shard e) (shard_count e) → PutsFrom live line e shard (work_of held old) (shard_end e) (work_of held (record o { token = t }))
  put_there o old t m line e shard is token still there put =
      subst (λ (k : ℕ). PutsFrom live line e k (work_of held old) (shard_end e) (work_of held (record o { token = t }))) there (put_all o old t m line e is token still put)

  -- and waits at another
  pub waits_work : (queues : List EventQueue) (o old : RunOperator F) (t m : Operator) (line : ℕ) (e : Event) (first count : ℕ) (u : Unserved) (w : Waiting) → o ≡ old → m ≡ o.token → t ≡ record m { lines = t.lines }
      → StopsAt queues m.lines t.lines line e first count u → first_shard e ≤ first → first + count ≡ shard_end e → w ≡ record { event = u.event; shard = u.shard }
      → WaitsAt live line e first (work_of held old) (work_of held (record o { token = t })) w
  waits_work queues o old t m line e first count u w is token still h low end back =
      let from : first ≤ u.shard = h.first_is in
      let within : u.shard < first + count = h.within in
      let upto : first + (u.shard - first) ≡ u.shard = omega (arith, from) in
      let waits : WaitsAt live line e first (work_of held old) (work_of held (record o { token = t })) (record { event = u.event; shard = u.shard }) = record {
        event = h.event;
        concerned = record { first_is = omega (arith, low, from); within = subst (λ (n : ℕ). u.shard < n) end within };
        before = put_work o old t m line e first (u.shard - first) u.shard is token still h.before upto;
      } in
      subst (λ (x : Waiting). WaitsAt live line e first (work_of held old) (work_of held (record o { token = t })) x) (sym back) waits

  -- the same after all that it concerns
  pub waits_all : (queues : List EventQueue) (o old : RunOperator F) (t m : Operator) (line : ℕ) (e : Event) (u : Unserved) (w : Waiting) → o ≡ old → m ≡ o.token → t ≡ record m { lines = t.lines }
      → StopsAt queues m.lines t.lines line e (queue.first_shard e) (shard_count e) u → w ≡ record { event = u.event; shard = u.shard }
      → WaitsAt live line e (first_shard e) (work_of held old) (work_of held (record o { token = t })) w
  waits_all queues o old t m line e u w is token still h back =
      let low : first_shard e ≤ queue.first_shard e = omega (arith, same_first e) in
      subst (λ (k : ℕ). WaitsAt live line e k (work_of held old) (work_of held (record o { token = t })) w) (same_first e)
      (waits_work queues o old t m line e (queue.first_shard e) (shard_count e) u w is token still h low (ap (λ (k : ℕ). k + shard_count e) (same_first e) ∙ same_end e) back)

  -- a tick waits at another shard
  pub waits_tick : (queues : List EventQueue) (o old : RunOperator F) (t m : Operator) (line units shard : ℕ) (e : Event) (u : Unserved) (w : Waiting) → o ≡ old → m ≡ o.token → t ≡ record m { lines = t.lines } → shard < 8 → e ≡ event.Tick units
      → StopsAt queues m.lines t.lines line (event.Tick units) shard (8 - shard) u → w ≡ record { event = u.event; shard = u.shard }
      → WaitsAt live line e shard (work_of held old) (work_of held (record o { token = t })) w
  waits_tick queues o old t m line units shard e u w is token still below tick h back =
      let all : shard + (8 - shard) ≡ 8 = omega (arith, below) in
      let low : 0 ≤ shard = omega arith in
      subst (λ (x : Event). WaitsAt live line x shard (work_of held old) (work_of held (record o { token = t })) w) (sym tick)
      (waits_work queues o old t m line (event.Tick units) shard (8 - shard) u w is token still h low all back)

  -- another event waits at its shard
  pub waits_there : (queues : List EventQueue) (o old : RunOperator F) (t m : Operator) (line : ℕ) (e : Event) (shard : ℕ) (u : Unserved) (w : Waiting) → o ≡ old → m ≡ o.token → t ≡ record m { lines = t.lines } → first_shard e ≡ shard
      → StopsAt queues m.lines t.lines line e (queue.first_shard e) (shard_count e) u → w ≡ record { event = u.event; shard = u.shard }
      → WaitsAt live line e shard (work_of held old) (work_of held (record o { token = t })) w
  waits_there queues o old t m line e shard u w is token still there h back =
      subst (λ (k : ℕ). WaitsAt live line e k (work_of held old) (work_of held (record o { token = t })) w) there (waits_all queues o old t m line e u w is token still h back)

  -- ---- loads

  -- a load
  pub load_does : (o old : RunOperator F) (f : F) (b : Beginning) (hook : Hook) (path named : List ℕ) (told : Told) → o ≡ old → held f ≡ held o.files → named ≡ path_of path
      → LoadsFile (held o.files) o.limits hook named o.loads b told → Does (work_of held old) (work_of held (record o { files = f; loads = b })) (Load hook path) (Some told)
  load_does o old f b hook path named told is same name h =
      subst (λ (x : RunOperator F). Does (work_of held x) (work_of held (record o { files = f; loads = b })) (Load hook path) (Some told)) is
      (work.Loads hook path told b (subst (λ (p : List ℕ). LoadsFile (held o.files) o.limits hook p o.loads b told) name h)
      (ap (λ (x : Held). record (work_of held o) { files = x; loads = b }) same))

  -- an adoption
  pub adopt_does : (o old : RunOperator F) (f : F) (b : Beginning) (hook : Hook) (path certificate named shown : List ℕ) (told : Told) → o ≡ old → held f ≡ held o.files
      → named ≡ path_of path → shown ≡ path_of certificate → AdoptsFiles (held o.files) o.limits.work hook named shown o.loads b told
      → Does (work_of held old) (work_of held (record o { files = f; loads = b })) (Adopt hook path certificate) (Some told)
  adopt_does o old f b hook path certificate named shown told is same name show h =
      subst (λ (x : RunOperator F). Does (work_of held x) (work_of held (record o { files = f; loads = b })) (Adopt hook path certificate) (Some told)) is
      (work.Adopts hook path certificate told b
      (subst (λ (p : List ℕ). AdoptsFiles (held o.files) o.limits.work hook p (path_of certificate) o.loads b told) name
      (subst (λ (p : List ℕ). AdoptsFiles (held o.files) o.limits.work hook named p o.loads b told) show h))
      (ap (λ (x : Held). record (work_of held o) { files = x; loads = b }) same))

  -- an unload
  pub unload_does : (o old : RunOperator F) (b : Beginning) (hook : Hook) → o ≡ old → b ≡ with_load o.loads (load hook None)
      → Does (work_of held old) (with_loads (work_of held o) b) (Unload hook) None
  unload_does o old b hook is h =
      subst (λ (x : RunOperator F). Does (work_of held x) (with_loads (work_of held o) b) (Unload hook) None) is (work.Unloads hook (ap (λ (x : Beginning). with_loads (work_of held o) x) h))

  -- that failed
  pub keep_does : (o old : RunOperator F) (b : Beginning) (hook : Hook) → o ≡ old → b ≡ o.loads → Does (work_of held old) (with_loads (work_of held o) b) (Unload hook) (Some Memory)
  keep_does o old b hook is h =
      subst (λ (x : RunOperator F). Does (work_of held x) (with_loads (work_of held o) b) (Unload hook) (Some Memory)) is
      (work.NotUnloads hook (ap (λ (x : Beginning). with_loads (work_of held o) x) h))

  -- ---- words

  -- a token whose seats alone know more
  with_more : (o : RunOperator F) (t m : Operator) → m ≡ o.token → t ≡ record m { seats = t.seats } → work_of held (record o { token = t }) ≡ with_seats (work_of held o) t.seats
  with_more o t m token same =
      let others : t ≡ record o.token { seats = t.seats } = same ∙ ap (λ (x : Operator). record x { seats = t.seats }) token in
      ap (λ (x : Operator). work_of held (record o { token = x })) others

  -- a number was stored in a word
  pub store_does : (o old : RunOperator F) (t m : Operator) (word : MapWord) (value : ℕ) → o ≡ old → m ≡ o.token → t ≡ record m { seats = t.seats }
      → Accesses o.ap.stock.maps m.seats word.map word.word (operation.Store value) 0 t.seats → Does (work_of held old) (work_of held (record o { token = t })) (Store word value) None
  store_does o old t m word value is token same made =
      subst (λ (x : RunOperator F). Does (work_of held x) (work_of held (record o { token = t })) (Store word value) None) is
      (work.Stores word value (IsStored (subst (λ (x : Operator). Accesses o.ap.stock.maps x.seats word.map word.word (operation.Store value) 0 t.seats) token made)) (with_more o t m token same))

  -- a word was read
  pub read_does : (o old : RunOperator F) (t m : Operator) (word : MapWord) (value : ℕ) → o ≡ old → m ≡ o.token → t ≡ record m { seats = t.seats }
      → Accesses o.ap.stock.maps m.seats word.map word.word operation.Load value t.seats → Does (work_of held old) (work_of held (record o { token = t })) (Read word) (Some (Word value))
  read_does o old t m word value is token same made =
      subst (λ (x : RunOperator F). Does (work_of held x) (work_of held (record o { token = t })) (Read word) (Some (Word value))) is
      (work.Reads word _ (IsRead value (subst (λ (x : Operator). Accesses o.ap.stock.maps x.seats word.map word.word operation.Load value t.seats) token made)) (with_more o t m token same))

  -- a word was summed up
  pub sum_does : (o old : RunOperator F) (t m : Operator) (word : MapWord) (value : ℕ) → o ≡ old → m ≡ o.token → t ≡ record m { seats = t.seats }
      → Sums o.ap.stock.maps m.seats word.map word.word value t.seats → Does (work_of held old) (work_of held (record o { token = t })) (Sum word) (Some (Word value))
  sum_does o old t m word value is token same made =
      subst (λ (x : RunOperator F). Does (work_of held x) (work_of held (record o { token = t })) (Sum word) (Some (Word value))) is
      (work.Sums word _ (IsSummed value (subst (λ (x : Operator). Sums o.ap.stock.maps x.seats word.map word.word value t.seats) token made)) (with_more o t m token same))

  -- there is no such word
  pub stores_nothing : (o old : RunOperator F) (word : MapWord) (value : ℕ) → o ≡ old → (Names scope.Shared o.ap.stock.maps word.map word.word → ⊥) → Does (work_of held old) (work_of held old) (Store word value) None
  stores_nothing o old word value is nowhere =
      subst (λ (x : RunOperator F). Does (work_of held x) (work_of held x) (Store word value) None) is (work.Stores word value (NoneStored (record { nowhere = nowhere }) refl) refl)

  pub reads_nothing : (o old : RunOperator F) (word : MapWord) → o ≡ old → (Names scope.Shared o.ap.stock.maps word.map word.word → ⊥) → Does (work_of held old) (work_of held old) (Read word) None
  reads_nothing o old word is nowhere =
      subst (λ (x : RunOperator F). Does (work_of held x) (work_of held x) (Read word) None) is (work.Reads word _ (NoneRead (record { nowhere = nowhere }) refl) refl)

  pub sums_nothing : (o old : RunOperator F) (word : MapWord) → o ≡ old → (Names scope.Worker o.ap.stock.maps word.map word.word → ⊥) → Does (work_of held old) (work_of held old) (Sum word) None
  sums_nothing o old word is nowhere =
      subst (λ (x : RunOperator F). Does (work_of held x) (work_of held x) (Sum word) None) is (work.Sums word _ (NoneSummed (record { nowhere = nowhere }) refl) refl)

  -- ---- what stays

  -- nothing changed but the work
  pub works : (o old : RunOperator F) (w : Work) → o ≡ old → with_work (crew_of held o) w ≡ with_work (crew_of held old) w
  works o old w is = ap (λ (x : RunOperator F). with_work (crew_of held x) w) is

  -- a token that has put nothing more, and seen nothing more
  pub same_puts : (o old : RunOperator F) (t m : Operator) → o ≡ old → m ≡ o.token → puts_of t.lines ≡ puts_of m.lines → t ≡ record m { lines = t.lines } → crew_of held (record o { token = t }) ≡ crew_of held old
  same_puts o old t m is token same still =
      let put : puts_of t.lines ≡ puts_of o.token.lines = same ∙ ap (λ (x : Operator). puts_of x.lines) token in
      let others : t ≡ record o.token { lines = t.lines } = still ∙ ap (λ (x : Operator). record x { lines = t.lines }) token in
      ap (λ (x : Operator). crew_of held (record o { token = x })) others
      ∙ ((λ i. record { workers = o.workers; counted = sum_of o.hoard; work = record (work_of held o) { puts = put i } })
      ∙ ap (crew_of held) is)

  -- a token that has put nothing more, and may have seen more
  pub sees_more : (o old : RunOperator F) (t m : Operator) → o ≡ old → m ≡ o.token → t ≡ record m { shards = t.shards } → KeepOwn m.shards t.shards → Sees (work_of held old) (work_of held (record o { token = t }))
  sees_more o old t m is token same keeps =
      let others : t ≡ record o.token { shards = t.shards } = same ∙ ap (λ (x : Operator). record x { shards = t.shards }) token in
      subst (λ (x : RunOperator F). Sees (work_of held x) (work_of held (record o { token = t }))) is
      (record {
        others = ap (λ (x : Operator). work_of held (record o { token = x })) others;
        go_on = kept_seen o.token.shards t.shards (subst (λ (x : Operator). KeepOwn x.shards t.shards) token keeps);
      })

  -- loads that were told
  pub told_crew : (o old : RunOperator F) (b : Beginning) → o ≡ old → b ≡ o.loads → crew_of held (record o { loads = b }) ≡ crew_of held old
  told_crew o old b is same = ap (λ (x : Beginning). crew_of held (record o { loads = x })) same ∙ ap (crew_of held) is

  -- a worker was told of all loads
  pub tells_crew : (o old : RunOperator F) (b : Beginning) (told : List ℕ) (settled : List Bool) (number number2 count : ℕ) → o ≡ old → b ≡ o.loads → number ≡ number2 → count ≡ length o.loads.loads → told ≡ slice_set o.told number count
      → crew_of held (record o { loads = b; told = told; settled = settled }) ≡ tells (crew_of held old) number2
  tells_crew o old b told settled number number2 count is same number_is count_is note =
      ap (λ (x : Beginning). crew_of held (record o { loads = x; told = told; settled = settled })) same
      ∙ (ap (λ (l : List ℕ). crew_of held (record o { told = l; settled = settled })) (note ∙ (λ i. slice_set o.told (number_is i) (count_is i))) ∙ ap (λ (x : RunOperator F). tells (crew_of held x) number2) is)

  -- counts were taken over, and what became of events
  pub claimed_crew : (o old : RunOperator F) (hoard : Holding) (counted : Counts) (batches : List Batch) (b : Batch) → o ≡ old → sum_of hoard ≡ plus (sum_of o.hoard) counted
      → batches ≡ o.batches ++ b ∷ [] → crew_of held (record o { hoard = hoard; batches = batches }) ≡ gains (claims (crew_of held old) b) counted
  claimed_crew o old hoard counted batches b is more added =
      let crew : crew_of held (record o { hoard = hoard; batches = batches }) ≡ gains (claims (crew_of held o) b) counted =
      λ i. record { workers = o.workers; counted = more i; work = record (work_of held o) { batches = added i } } in
      crew ∙ ap (λ (x : RunOperator F). gains (claims (crew_of held x) b) counted) is

-- an operator that did nothing
pub works_same : (c d : Crew live) → d ≡ c → Works c d
works_same c d same = rw same refl

-- what was done for a use of a word
pub uses_as : {old new : Work} {told : Option Told} (u v : WordUse) → u ≡ v → Does old new (for_use v) told → Does old new (for_use u) told
uses_as {old} {new} {told} u v is h = subst (λ (x : WordUse). Does old new (for_use x) told) (sym is) h

-- the same for a publication
pub publishes_as : {old new : Work} {told : Option Told} (p q : Publication) → p ≡ q → Does old new (for_publication q) told → Does old new (for_publication p) told
publishes_as {old} {new} {told} p q is h = subst (λ (x : Publication). Does old new (for_publication x) told) (sym is) h
