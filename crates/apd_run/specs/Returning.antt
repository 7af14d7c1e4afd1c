-- What is on the pages that come back at the end of a run.
use Rattle.std.specs.Prelude.{◌≡◌, ◌<◌, ℕ, ◌+◌, List, [], ◌∷◌, ◌++◌, length}
use Rattle.std.specs.List.{All}
use Rattle.ap_books.specs.Holdings.{HasParts, Holding, sum_of}
use Rattle.ap_locked.specs.Pages.{Page}
use Rattle.ap_shards.specs.Pages.{EightPages, both_pages, pages_of}
use Rattle.ap_shards.specs.Tokens.{Eight}
use Rattle.ap_live.specs.Upholding.{token_at}
use Rattle.versions.specs.declared.list.Load.{Load}
use Rattle.apd_run.specs.Batches.{Batch, batches_of}
use Rattle.apd_run.specs.Dealing.{IsUnused}
use Rattle.apd_run.specs.Deciding.{AreOfBatches}
use Rattle.apd_run.specs.Hands.{IsOfWorker}
use Rattle.apd_run.specs.Work.{Work}

-- each page has the entries of a worker's batches: the first page those of this worker, and so on
abbrev pub AreOfWorkers : ℕ → List Load → List Batch → ℕ → List Page → Type 0
AreOfWorkers s published batches worker [] = Unit {0}
AreOfWorkers s published batches worker (p ∷ pages) =
    AreOfBatches s published (batches_of worker batches) p.made × AreOfWorkers s published batches (worker + 1) pages

-- pages of this shard's journal: empty ones, and then one for each of so many workers
pub record ArePagesOf (s : ℕ) (w : Work) (workers : ℕ) (pages : List Page) : Type 0 where
  pub kept : List Page
  pub written : List Page
  pub all : pages ≡ kept ++ written
  pub unused : All IsUnused kept
  pub many : length written ≡ workers
  pub each : AreOfWorkers s w.loads.loads w.batches 0 written

-- the same of each shard; every batch is of one of the workers that there are
pub record AreWritten (all : ℕ) (w : Work) (workers : ℕ) (pages : EightPages) : Type 0 where
  pub of_workers : All (IsOfWorker all) w.batches
  pub of0 : ArePagesOf 0 w workers pages.of0
  pub of1 : ArePagesOf 1 w workers pages.of1
  pub of2 : ArePagesOf 2 w workers pages.of2
  pub of3 : ArePagesOf 3 w workers pages.of3
  pub of4 : ArePagesOf 4 w workers pages.of4
  pub of5 : ArePagesOf 5 w workers pages.of5
  pub of6 : ArePagesOf 6 w workers pages.of6
  pub of7 : ArePagesOf 7 w workers pages.of7

-- One more token came back: its parts of the ledgers, which have counted nothing, and its pages, on which are the entries of
-- the batches of this worker.
pub record TookBack (published : List Load) (number : ℕ) (batches : List Batch) (hoard hoard2 : Holding) (pages pages2 : EightPages) : Type 0 where
  pub parts : (n : ℕ) → HasParts n hoard → HasParts (n + 1) hoard2
  pub counted : sum_of hoard2 ≡ sum_of hoard
  pub token : Eight
  pub pages_are : pages2 ≡ both_pages pages (pages_of token)
  pub written : (s : ℕ) → s < 8 → AreOfBatches s published (batches_of number batches) (token_at s token).page.made
