-- What callers see of the handles of all queues.
use Rattle.std.specs.Prelude.{◌≡◌, ◌+◌, ◌++◌, ℕ, List, [], All, length, map, replicate, slice_get, slice_index_or, Some, IfSome, Option}
use Rattle.ap_queues.specs.Items.{Item}
use Rattle.ap_queues.specs.declared.queue.EventQueue.{EventQueue}
use Rattle.ap_queues.specs.declared.queue.OperatorPass.{OperatorPass}
use Rattle.ap_queues.specs.declared.queue.PassMaker.{PassMaker}
use Rattle.ap_queues.specs.declared.queue.WorkerPass.{WorkerPass}
use Rattle.ap_queues.specs.Passes.{IsMakerOf, IsNewWorkerOf, IsOperatorOf, number_of, put_by, taken_by, WasFull}
use Rattle.ap_queues.specs.Queues.{of, items_of}
use Rattle.ap_rows.specs.Rows.{Rows}
use Rattle.ap_queues.specs.declared.lines.passes.OperatorLines.{OperatorLines}
use Rattle.ap_queues.specs.declared.lines.passes.LinePasses.{LinePasses}

-- the handle, if it was not given yet, takes from this queue, and has taken nothing
abbrev pub MayTake : EventQueue → Option WorkerPass → Type 0
MayTake q o = IfSome o (IsNewWorkerOf q)

-- the handles left belong to these queues
pub record ArePassesOf (queues : List EventQueue) (left : LinePasses) : Type 0 where
  pub makers : Rows IsMakerOf queues left.makers.items
  pub workers : Rows MayTake queues left.workers.items

-- each queue has given this many operators their handles
pub record HaveMade (n : ℕ) (left : LinePasses) : Type 0 where
  pub each : (queue : ℕ) (m : PassMaker) → slice_get left.makers.items queue ≡ Some m → m.made ≡ n

-- each queue has given one operator more its handle, if each had given as many
pub record MakesOneMore (l l2 : LinePasses) : Type 0 where
  pub grown : (n : ℕ) → HaveMade n l → HaveMade (n + 1) l2

-- each queue has given as many operators their handles as before, if each had given as many
pub record MakesNoMore (l l2 : LinePasses) : Type 0 where
  pub kept : (n : ℕ) → HaveMade n l → HaveMade n l2

-- for each of these queues a handle that puts
abbrev pub AreLinesOf : List EventQueue → OperatorLines → Type 0
AreLinesOf queues o = Rows IsOperatorOf queues o.passes.items

-- the items that the operator put so far, in order, by worker
abbrev pub puts_of : OperatorLines → List (List Item)
puts_of o = map put_by o.passes.items

-- the operator's number at each queue, by worker
abbrev pub numbers_of : OperatorLines → List ℕ
numbers_of o = map number_of o.passes.items

-- it has put nothing into any of these queues
abbrev pub HasPutNothing : List EventQueue → OperatorLines → Type 0
HasPutNothing queues o = puts_of o ≡ replicate (length queues) []

-- what this worker took of the operator is a prefix of what that put into its queue, in order
pub record AreTakenAt (worker : ℕ) (o : OperatorLines) (w : WorkerPass) : Type 0 where
  pub rest : List Item
  pub put : slice_index_or (puts_of o) worker [] ≡ of (slice_index_or (numbers_of o) worker 0) (taken_by w) ++ rest

-- this operator put all that this worker took, which is a prefix of what it put into the worker's queue, in order
pub record AreAllTakenAt (worker : ℕ) (o : OperatorLines) (w : WorkerPass) : Type 0 where
  pub own : All (λ x. x.operator ≡ slice_index_or (numbers_of o) worker 0) (taken_by w)
  pub rest : List Item
  pub put : slice_index_or (puts_of o) worker [] ≡ items_of (taken_by w) ++ rest

-- at a moment of the call the queue of this worker held 256 items, of which this operator's own were the last that it
-- had put
abbrev pub WasFullAt : ℕ → OperatorLines → Type 0
WasFullAt worker o = (p : OperatorPass) → slice_get o.passes.items worker ≡ Some p → WasFull p
