-- What an operator takes over from its workers, batch by batch.
use Rattle.std.specs.Prelude.{◌≡◌, ◌<◌, ℕ, ◌==◌, List, filter, flat_map, length, slice_index_or}
use Rattle.logbook.specs.Pages.{Book}
use Rattle.ap_journal.specs.Beginnings.{Beginning, MayAdd, Right}
use Rattle.ap_live.specs.declared.tagged.Tagged.{Tagged}

-- what became of events of a worker since it reported before, and of how many loads it had been told then
pub record Batch : Type 0 where
  pub worker : ℕ
  pub told : ℕ
  pub events : List Tagged

-- the batches of this worker, in order
abbrev pub batches_of : ℕ → List Batch → List Batch
batches_of worker batches = filter (λ (b : Batch). b.worker == worker) batches

-- the events of batches, in order
abbrev pub events_in : List Batch → List Tagged
events_in batches = flat_map (λ (b : Batch). b.events) batches

-- those of this worker
abbrev pub events_of : ℕ → List Batch → List Tagged
events_of worker batches = events_in (batches_of worker batches)

-- a worker's number, and all batches up to the last one of its own
pub record Receipt : Type 0 where
  pub number : ℕ
  pub batches : List Batch

-- these are all entries of this journal, to which the right belongs, and so many are of each worker
pub record IsRegister (journal : Book) (right : Right) (known : Beginning Batch) (counts : List ℕ) : Type 0 where
  pub journal_is : known.journal ≡ journal
  pub may_add : MayAdd right known
  pub eight : length counts ≡ 8
  pub counted : (worker : ℕ) → worker < 8 → slice_index_or counts worker 0 ≡ length (batches_of worker known.entries)

-- these are entries of this journal, and so many are of this worker
pub record IsReceipt (journal : Book) (worker : ℕ) (known : Beginning Batch) (count : ℕ) : Type 0 where
  pub journal_is : known.journal ≡ journal
  pub counted : count ≡ length (batches_of worker known.entries)
