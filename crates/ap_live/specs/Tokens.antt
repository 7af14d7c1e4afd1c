-- The tokens of an access point's users.
use Rattle.std.specs.Prelude.{◌≡◌, ◌<◌, ℕ, List, length, slice_get, Some}
use Rattle.shared_maps.specs.Tables.{Place}
use Rattle.bpf_helpers.specs.Hooked.{IsFitting}
use Rattle.hook_judge.specs.Counted.{Counted}
use Rattle.versions.specs.Lists.{Beginning, Readers}
use Rattle.ap_queues.specs.declared.queue.EventQueue.{EventQueue}
use Rattle.ap_queues.specs.declared.queue.WorkerPass.{WorkerPass}
use Rattle.ap_queues.specs.Passes.{IsWorkerOf}
use Rattle.ap_queues.specs.declared.lines.passes.LinePasses.{LinePasses}
use Rattle.ap_queues.specs.declared.lines.passes.OperatorLines.{OperatorLines}
use Rattle.ap_queues.specs.Lines.{ArePassesOf, AreLinesOf}
use Rattle.ap_tables.specs.Stocks.{AreOperators}
use Rattle.ap_shards.specs.Pages.{EightPages}
use Rattle.ap_shards.specs.Tokens.{Eight}
use Rattle.ap_live.specs.Lives.{Live}

-- what an operator has: a handle on each queue, a seat at each table, a token of each shard
pub record Operator : Type 0 where
  pub lines : OperatorLines
  pub seats : List (List Place)
  pub shards : Eight

-- what a worker has: its number, the handle on its queue, the loads that it has seen or been told of, the state of its
-- programs with what was counted of their runs, a token of each shard
pub record Worker : Type 0 where
  pub number : ℕ
  pub pass : WorkerPass
  pub seen : Beginning
  pub held : Counted
  pub shards : Eight

-- what was not given yet; `parts` says how many parts of each ledger, and pages with that of its own tokens, are left
pub record Left : Type 0 where
  pub readers : Readers
  pub passes : LinePasses
  pub parts : ℕ
  pub shards : Eight
  pub pages : EightPages

-- o is the token of one of its operators
pub record IsOperator (a : Live) (o : Operator) : Type 0 where
  pub lines : AreLinesOf a.queues o.lines
  pub seats : AreOperators a.stock.maps o.seats

-- w is the token of one of its workers
pub record IsWorker (a : Live) (w : Worker) : Type 0 where
  pub number : w.number < length a.queues
  pub pass : (q : EventQueue) → slice_get a.queues w.number ≡ Some q → IsWorkerOf q w.pass
  pub list : w.seen.list ≡ a.list.list
  pub fitting : IsFitting a.stock.maps w.number w.held.seats

-- l is what is left of its tokens
pub record AreLeft (a : Live) (l : Left) : Type 0 where
  pub passes : ArePassesOf a.queues l.passes
  pub list : l.readers.list ≡ a.list.list
