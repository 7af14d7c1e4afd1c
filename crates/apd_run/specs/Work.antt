-- What an operator works with, and what it has done so far.
use Rattle.std.specs.Prelude.{◌≡◌, ◌<◌, ◌==◌, ℕ, List, Option, Some, None, [], ◌∷◌, ◌++◌, length, map, slice_index_or, slice_set}
use Rattle.std.specs.List.{All}
use mathlib.Core.List.{IsPrefix}
use Rattle.bpf_regions.specs.declared.hooks.Hook.{Hook}
use Rattle.bpf_verifier.specs.declared.limit.Limits.{Limits}
use Rattle.shared_maps.specs.Tables.{Place}
use Rattle.bpf_helpers.specs.Tables.{Tables}
use Rattle.versions.specs.Lists.{Beginning, with_load}
use Rattle.versions.specs.Sets.{load}
use Rattle.ap_model.specs.declared.event.Event.{Event}
use Rattle.ap_model.specs.Readings.{Config}
use Rattle.ap_model.specs.Runs.{Entry}
use Rattle.ap_books.specs.Counts.{Counts, counts_in, plus}
use Rattle.ap_locked.specs.Pages.{with_first}
use Rattle.ap_locked.specs.Tokens.{IsAmong}
use Rattle.ap_queues.specs.Items.{Item}
use Rattle.ap_queues.specs.Putting.{item, with_item}
use Rattle.ap_live.specs.Tokens.{Worker}
use Rattle.ap_live.specs.Upholding.{token_at}
use Rattle.ap_live.specs.declared.tagged.Tagged.{Tagged}
use Rattle.apd_files.specs.Held.{Held, path_of}
use Rattle.apd_script.specs.Asked.{Asked, Load, Unload, Adopt, Store, Read, Sum}
use Rattle.apd_script.specs.declared.command.MapWord.{MapWord}
use Rattle.apd_driver.specs.Semantics.{Semantics}
use Rattle.apd_driver.specs.declared.reports.report.Report.{Report}
use Rattle.apd_driver.specs.declared.reports.report.Told.{Told}
use Rattle.apd_driver.specs.declared.reports.report.Told.TheVariants.{Memory}
use Rattle.apd_run.specs.Adopting.{AdoptsFiles}
use Rattle.apd_run.specs.Batches.{Batch, batches_of, events_of}
use Rattle.apd_run.specs.Deciding.{AreEntries, AreOfBatches, AreOfQueue, Concerns, IsHistory, items_in}
use Rattle.apd_run.specs.Loading.{LoadsFile}
use Rattle.apd_run.specs.Telling.{reports_in}
use Rattle.apd_run.specs.Words.{ReadsWord, StoresWord, SumsWord}

-- what is known of the files of programs, what the verifier or a check may do for each program, the configuration of the
-- link, the tables of all maps; what the operator's seat at each table knows of its history, what was put into the queue of
-- each worker, in order, the batches in which it was taken over what became of these items, of how many loads each worker was
-- told then, what the operator knows of each shard's history, and the loads that were published
pub record Work : Type 0 where
  pub files : Held
  pub limits : Limits
  pub config : Config
  pub maps : List Tables
  pub seats : List (List Place)
  pub puts : List (List Item)
  pub batches : List Batch
  pub told : List ℕ
  pub histories : ℕ → List Entry
  pub loads : Beginning

-- the same with other loads
abbrev pub with_loads : Work → Beginning → Work
with_loads w loads = record w { loads = loads }

-- the same where the operator's seats know this
abbrev pub with_seats : Work → List (List Place) → Work
with_seats w seats = record w { seats = seats }

-- the event of a line was put at a shard, after all that was put before
abbrev pub put_at : Work → ℕ → Event → ℕ → Work
put_at w line e shard = record w { puts = with_item w.puts (item line shard e) }

-- the same with other histories
abbrev pub with_histories : Work → (ℕ → List Entry) → Work
with_histories w histories = record w { histories = histories }

-- the same after a batch was taken over
abbrev pub with_batch : Work → Batch → Work
with_batch w batch = record w { batches = w.batches ++ batch ∷ [] }

-- a batch of these events of a worker
abbrev pub batch_from : Work → ℕ → List Tagged → Batch
batch_from w worker events = record { worker = worker; told = slice_index_or w.told worker 0; events = events }

-- the same after a worker was told of all loads so far
abbrev pub with_told : Work → ℕ → Work
with_told w worker = record w { told = slice_set w.told worker (length w.loads.loads) }

-- What is done for a line that asks for no event, and what is told of it, if anything: a load, an adoption or an unload
-- changes the published loads, a use of a word what the seats know, and nothing else.
pub data Does (old new : Work) : Asked → Option Told → Type 0 where
  Loads : (hook : Hook) (path : List ℕ) (told : Told) (loads : Beginning) → LoadsFile old.files old.limits hook (path_of path) old.loads loads told
      → new ≡ with_loads old loads → Does old new (Load hook path) (Some told)
  Adopts : (hook : Hook) (path certificate : List ℕ) (told : Told) (loads : Beginning) → AdoptsFiles old.files old.limits.work hook (path_of path) (path_of certificate) old.loads loads told
      → new ≡ with_loads old loads → Does old new (Adopt hook path certificate) (Some told)
  Unloads : (hook : Hook) → new ≡ with_loads old (with_load old.loads (load hook None)) → Does old new (Unload hook) None
  NotUnloads : (hook : Hook) → new ≡ old → Does old new (Unload hook) (Some Memory)
  Stores : (word : MapWord) (value : ℕ) → StoresWord old.maps word value old.seats new.seats → new ≡ with_seats old new.seats → Does old new (Store word value) None
  Reads : (word : MapWord) (told : Option Told) → ReadsWord old.maps word old.seats new.seats told → new ≡ with_seats old new.seats → Does old new (Read word) told
  Sums : (word : MapWord) (told : Option Told) → SumsWord old.maps word old.seats new.seats told → new ≡ with_seats old new.seats → Does old new (Sum word) told

-- the operator knows more of the shards' histories, or as much, and nothing else changed
pub record Sees (old new : Work) : Type 0 where
  pub others : new ≡ with_histories old new.histories
  pub go_on : (s : ℕ) → s < 8 → IsPrefix (old.histories s) (new.histories s)

-- The operator met a worker: it then knows all that the worker decided, in the one history of each shard.
pub record Meets (old new : Work) (w : Worker) : Type 0 where
  pub sees : Sees old new
  pub holds : (s : ℕ) → s < 8 → IsHistory s new.config (new.histories s)
  pub among : (s : ℕ) → s < 8 → IsAmong (token_at s w.shards).own (new.histories s)

-- What became of a worker's events was taken over in a batch, and is what these reports tell. The events are of all items that
-- the operator put into that worker's queue since it took over from it, in order, and each concerns its shard. What is told of
-- those that were decided at a shard is, in order, what entries of the shard's history say. Their verdicts are of programs in
-- which the first of the published loads result, at least those of which the worker had been told; then it was told of all.
-- Each history goes on with what the operator knew of it before, and is a run of the link from nobody on, under the
-- configuration.
pub record Takes (old new : Work) (reports : List Report) : Type 0 where
  pub worker : ℕ
  pub events : List Tagged
  pub told : reports ≡ reports_in events
  pub below : worker < length old.told
  pub queued : AreOfQueue worker old.puts old.batches events
  pub concern : All Concerns events
  pub decided : (s : ℕ) → s < 8 → AreEntries s (slice_index_or old.told worker 0) old.loads.loads events (new.histories s)
  pub holds : (s : ℕ) → s < 8 → IsHistory s new.config (new.histories s)
  pub sees : Sees (with_told (with_batch old (batch_from old worker events)) worker) new

-- what became of all that was put into each worker's queue was taken over, and each worker was told of all loads
pub record NoneLeft (w : Work) : Type 0 where
  pub all_taken : (worker : ℕ) → worker < length w.puts → slice_index_or w.puts worker [] ≡ items_in (events_of worker w.batches)
  pub all_told : (worker : ℕ) → worker < length w.puts → slice_index_or w.told worker 0 ≡ length w.loads.loads

-- an entry of a history, and the number of the worker that decided it
pub record Decision : Type 0 where
  pub worker : ℕ
  pub entry : Entry

-- the entries without these numbers
abbrev pub entries_of : List Decision → List Entry
entries_of history = map (λ (d : Decision). d.entry) history

-- the entries that this worker decided, in order
abbrev pub decided_by : ℕ → List Decision → List Entry
decided_by worker [] = []
decided_by worker (d ∷ later) = with_first (d.worker == worker) d.entry (decided_by worker later)

-- The history is a run of the link at this shard from nobody on, under the configuration. What a worker decided there are, in
-- order, the entries of its batches, and nothing else.
pub record IsWhole (s : ℕ) (w : Work) (history : List Decision) : Type 0 where
  pub holds : IsHistory s w.config (entries_of history)
  pub each : (worker : ℕ) → AreOfBatches s w.loads.loads (batches_of worker w.batches) (decided_by worker history)

-- what the histories of all shards count
abbrev pub counts_of_all : (ℕ → List Decision) → Counts
counts_of_all histories =
    let at = λ (s : ℕ). counts_in (entries_of (histories s)) in
    plus (plus (plus (plus (plus (plus (plus (at 0) (at 1)) (at 2)) (at 3)) (at 4)) (at 5)) (at 6)) (at 7)

-- What was taken over is all that was decided: the whole histories of the shards. This is what they count.
pub record AllTold (counted : Counts) (w : Work) : Type 0 where
  pub histories : ℕ → List Decision
  pub whole : (s : ℕ) → s < 8 → IsWhole s w (histories s)
  pub counts : counted ≡ counts_of_all histories

-- what is said of an operator of a live access point
abbrev pub live : Semantics
live = record {
  Work = Work;
  Does = λ old new a told. Does old new a told;
  Puts = λ old new line e shard. new ≡ put_at old line e shard;
  Takes = λ old new reports. Takes old new reports;
  Sees = λ old new. Sees old new;
  NoneLeft = λ work. NoneLeft work;
  AllTold = λ counted work. AllTold counted work;
}
