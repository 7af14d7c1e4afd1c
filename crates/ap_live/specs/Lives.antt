-- What the threads of an access point share.
use Rattle.std.specs.Prelude.{◌≡◌, ◌<◌, ℕ, List, length}
use Rattle.bpf_helpers.specs.Hooked.{KeepTables, shapes_of}
use Rattle.versions.specs.Lists.{Beginning}
use Rattle.ap_queues.specs.declared.queue.EventQueue.{EventQueue}
use Rattle.ap_tables.specs.Stocks.{Stock}

-- the queue of each worker, the tables of all maps, the list of published loads, and the first word that each worker
-- draws
pub record Live : Type 0 where
  pub queues : List EventQueue
  pub stock : Stock
  pub list : Beginning
  pub draw : ℕ

-- there is a worker, each has its tables, and the published programs are for these maps
pub record IsLive (a : Live) : Type 0 where
  pub some : 0 < length a.queues
  pub as_many : a.stock.workers ≡ length a.queues
  pub for_maps : a.list.shapes ≡ shapes_of a.stock.maps

-- it is the same access point, whatever tokens it gave
pub record KeepsLive (a b : Live) : Type 0 where
  pub queues : b.queues ≡ a.queues
  pub tables : KeepTables a.stock.maps b.stock.maps
  pub workers : b.stock.workers ≡ a.stock.workers
  pub list : b.list ≡ a.list
  pub draw : b.draw ≡ a.draw
