-- What callers see of a queue's handles.
use Rattle.std.specs.Prelude.{◌≡◌, ℕ, List, [], ◌++◌, All}
use Rattle.crossbeam_queue.specs.Passes.{view, IsPassOf}
use Rattle.crossbeam_queue.specs.Fifo.{Held}
use Rattle.ap_queues.specs.Items.{Item}
use Rattle.ap_queues.specs.declared.item.Queued.{Queued}
use Rattle.ap_queues.specs.declared.queue.EventQueue.{EventQueue}
use Rattle.ap_queues.specs.declared.queue.PassMaker.{PassMaker}
use Rattle.ap_queues.specs.declared.queue.OperatorPass.{OperatorPass}
use Rattle.ap_queues.specs.declared.queue.WorkerPass.{WorkerPass}
use Rattle.ap_queues.specs.Queues.{of, items_of, EndsIn}

-- it makes the operators of this queue
abbrev pub IsMakerOf : EventQueue → PassMaker → Type 0
IsMakerOf q m = IsPassOf q.queue m.pass

-- it puts into this queue
abbrev pub IsOperatorOf : EventQueue → OperatorPass → Type 0
IsOperatorOf q p = IsPassOf q.queue p.pass

-- it takes from this queue
abbrev pub IsWorkerOf : EventQueue → WorkerPass → Type 0
IsWorkerOf q w = IsPassOf q.queue w.pass

-- the number of the operator
abbrev pub number_of : OperatorPass → ℕ
number_of p = p.number

-- the items that the operator put so far, in order
abbrev pub put_by : OperatorPass → List Item
put_by p = (view p.pass).put

-- what the worker took so far, in order
abbrev pub taken_by : WorkerPass → List Queued
taken_by w = (view w.pass).taken

-- it takes from this queue, and has taken nothing yet
pub record IsNewWorkerOf (q : EventQueue) (w : WorkerPass) : Type 0 where
  pub own : IsWorkerOf q w
  pub nothing : taken_by w ≡ []

-- at a moment of the call the queue held 256 items, of which this operator's own were the last that it had put
abbrev pub WasFull : OperatorPass → Type 0
WasFull p = Held 256 (EndsIn (view p.pass))

-- what was taken of this operator is a prefix of what it put
abbrev pub AreTaken : OperatorPass → WorkerPass → Type 0
AreTaken p w = (rest : List Item) × (put_by p ≡ of (number_of p) (taken_by w) ++ rest)

-- this operator put all that was taken, which is a prefix of what it put, in order
pub record AreAllTaken (p : OperatorPass) (w : WorkerPass) : Type 0 where
  pub own : All (λ x. x.operator ≡ number_of p) (taken_by w)
  pub rest : List Item
  pub put : put_by p ≡ items_of (taken_by w) ++ rest
