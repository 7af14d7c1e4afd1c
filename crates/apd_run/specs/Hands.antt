-- The operator and the workers of a run.
use Rattle.std.specs.Prelude.{◌≡◌, ◌+◌, ◌<◌, ◌≤◌, ℕ, Bool, true, false, List, [], length, slice_index_or}
use Rattle.std.specs.List.{All}
use Rattle.ap_model.specs.Readings.{Config}
use Rattle.ap_books.specs.Counts.{none}
use Rattle.ap_books.specs.Holdings.{Holding, HasParts, sum_of}
use Rattle.ap_books.specs.Reading.{Reads}
use Rattle.ap_books.specs.declared.totals.Totals.{Totals}
use Rattle.ap_shards.specs.Pages.{EachPages, EightPages, HasPages}
use Rattle.ap_shards.specs.Tokens.{holding_of}
use Rattle.ap_live.specs.Counting.{counted_by, tally}
use Rattle.ap_live.specs.Lives.{Live}
use Rattle.ap_live.specs.Opening.{parts_in_all}
use Rattle.ap_live.specs.Tokens.{Operator, IsOperator, Worker, IsWorker}
use Rattle.ap_live.specs.Upholding.{token_at}
use Rattle.ap_live.specs.declared.tagged.Tagged.{Tagged}
use Rattle.versions.specs.Lists.{Beginning}
use Rattle.versions.specs.declared.list.Load.{Load}
use Rattle.apd_run.specs.InForce.{AreInForce}
use Rattle.ap_queues.specs.Items.{Item}
use Rattle.ap_queues.specs.Lines.{puts_of}
use Rattle.ap_queues.specs.declared.lines.passes.LinePasses.{LinePasses}
use Rattle.apd_run.specs.Dealing.{AreRest, IsUnused}
use Rattle.apd_driver.specs.Crews.{Crew, with_work}
use Rattle.apd_files.specs.Held.{Held}
use Rattle.bpf_verifier.specs.declared.limit.Limits.{Limits}
use Rattle.apd_run.specs.Batches.{Batch, batches_of, events_of}
use Rattle.apd_run.specs.Deciding.{Accounts, histories_of, items_in}
use Rattle.apd_run.specs.Work.{Work, live, with_batch, with_told}
use Rattle.apd_run.specs.declared.access.program_counts.ProgramCounts.{ProgramCounts}

-- a worker's access point, number and token, the batches up to its own last one, of how many loads it was told then, and what
-- became of its events since then
pub record RunWorker : Type 0 where
  pub ap : Live
  pub number : ℕ
  pub batches : List Batch
  pub told : ℕ
  pub token : Worker
  pub handled : List Tagged

-- Its token belongs to this access point, has its number, and has one part of each ledger, which has counted what the events
-- count. What is told of these events is what the token's own entries say; they are of the last items that it took, and those
-- before are of its batches. It has seen the loads of which it was told.
pub record IsRunWorker (ap : Live) (w : RunWorker) : Type 0 where
  pub own : IsWorker w.ap w.token
  pub ap_is : w.ap ≡ ap
  pub number_is : w.number ≡ w.token.number
  pub parts : HasParts 1 (holding_of w.token.shards)
  pub counts : counted_by w.token.shards ≡ tally w.handled
  pub accounts : Accounts (batches_of w.number w.batches) w.told w.token w.handled
  pub learned : w.told ≤ length w.token.seen.loads

-- An operator's access point, the configuration of its link, and its token, the parts of the ledgers and the pages that it
-- keeps and how many of each they are, the handles of the queues that are left, the batches that it took over, of how many
-- loads it told each worker, which workers are settled, what these parts have counted, how many workers have one, what was
-- published, what the workers that came back have counted of the runs of the programs in force, the files of programs, and
-- what the verifier or a check may do for each program.
pub record RunOperator (F : Type 0) : Type 0 where
  pub ap : Live
  pub config : Config
  pub token : Operator
  pub hoard : Holding
  pub pages : EightPages
  pub parts : ℕ
  pub passes : LinePasses
  pub batches : List Batch
  pub told : List ℕ
  pub settled : List Bool
  pub totals : Totals
  pub workers : ℕ
  pub loads : Beginning
  pub programs : ProgramCounts
  pub files : F
  pub limits : Limits

-- with a worker that is settled: what became of all items of its queue was taken over, and it was told of all loads
pub record AreSettled (settled : List Bool) (batches : List Batch) (told : List ℕ) (puts : List (List Item)) (loads : List Load) : Type 0 where
  pub all_taken : (worker : ℕ) → slice_index_or settled worker false ≡ true → slice_index_or puts worker [] ≡ items_in (events_of worker batches)
  pub all_told : (worker : ℕ) → slice_index_or settled worker false ≡ true → slice_index_or told worker 0 ≡ length loads

-- the batch is of one of so many workers
abbrev pub IsOfWorker : ℕ → Batch → Type 0
IsOfWorker workers b = b.worker < workers

-- nothing is written on these pages
abbrev pub AreUnused : EightPages → Type 0
AreUnused pages = EachPages (λ ps. All IsUnused ps) pages

-- Its token belongs to this access point, whose only operator it is, and has one part of each ledger, which has counted
-- nothing, and an empty page of each journal. The operator keeps, or the workers have, all other parts; the pages that it
-- keeps are empty.
pub record IsRunOperator {F : Type 0} (shares : ℕ) (ap : Live) (o : RunOperator F) : Type 0 where
  pub own : IsOperator o.ap o.token
  pub ap_is : o.ap ≡ ap
  pub rest : AreRest o.ap o.passes
  pub mine : HasParts 1 (holding_of o.token.shards)
  pub nothing : counted_by o.token.shards ≡ none
  pub unwritten : (s : ℕ) → s < 8 → IsUnused (token_at s o.token.shards).page
  pub parts : HasParts o.parts o.hoard
  pub pages : HasPages o.parts o.pages
  pub unused : AreUnused o.pages
  pub all : o.parts + o.workers + 1 ≡ parts_in_all
  pub shares_are : shares ≡ parts_in_all
  pub some : 1 < o.parts
  pub list_is : o.loads.list ≡ ap.list.list
  pub reads : Reads o.totals (sum_of o.hoard)
  pub in_force : AreInForce o.programs o.loads.loads
  pub of_workers : All (IsOfWorker (length o.ap.queues)) o.batches
  pub are_settled : AreSettled o.settled o.batches o.told (puts_of o.token.lines) o.loads.loads

-- what an operator works with, where this is known of its files, and what it has done
abbrev pub work_of : {F : Type 0} → (F → Held) → RunOperator F → Work
work_of held o =
    record { files = held o.files; limits = o.limits; config = o.config; maps = o.ap.stock.maps; seats = o.token.seats; puts = puts_of o.token.lines; batches = o.batches; told = o.told; histories = histories_of o.token.shards; loads = o.loads }

-- how many workers have rights, what those that came back have counted, and what the operator has done
abbrev pub crew_of : {F : Type 0} → (F → Held) → RunOperator F → Crew live
crew_of held o = record { workers = o.workers; counted = sum_of o.hoard; work = work_of held o }

-- a batch was taken over
abbrev pub claims : Crew live → Batch → Crew live
claims crew batch = with_work crew (with_batch crew.work batch)

-- a worker was told of all loads so far
abbrev pub tells : Crew live → ℕ → Crew live
tells crew worker = with_work crew (with_told crew.work worker)
