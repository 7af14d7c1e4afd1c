-- A new access point, and giving tokens.
use Rattle.std.specs.Prelude.{◌≡◌, ◌+◌, ◌-◌, ℕ, List, [], length}
use Rattle.bpf_regions.specs.declared.maps.Shape.{Shape}
use Rattle.bpf_helpers.specs.Hooked.{shapes_of}
use Rattle.versions.specs.Lists.{Beginning}
use Rattle.ap_queues.specs.declared.queue.EventQueue.{EventQueue}
use Rattle.ap_queues.specs.Lines.{ArePassesOf, HaveMade}
use Rattle.ap_queues.specs.declared.lines.passes.LinePasses.{LinePasses}
use Rattle.ap_tables.specs.Stocks.{Stock}
use Rattle.ap_shards.specs.Opening.{whole}
use Rattle.ap_shards.specs.Pages.{AreNewPages}
use Rattle.ap_shards.specs.Tokens.{HasGivenOne}
use Rattle.ap_live.specs.Lives.{Live}
use Rattle.ap_live.specs.Tokens.{AreLeft, Left}

-- the number of parts of each ledger: one for each of 8 operators, one for each of 8 workers, and one that stays
abbrev pub parts_in_all : ℕ
parts_in_all = 17

-- the queues of this many workers, with their handles, none of which an operator has, and their tables of maps of
-- these shapes
pub record ArePlaces (workers : ℕ) (shapes : List Shape) (queues : List EventQueue) (passes : LinePasses) (stock : Stock) : Type 0 where
  pub count : length queues ≡ workers
  pub passes_are : ArePassesOf queues passes
  pub unmade : HaveMade 0 passes
  pub maps : shapes_of stock.maps ≡ shapes
  pub many : stock.workers ≡ workers

-- this many workers, and maps of these shapes; nothing is published, and no token was given
pub record IsOpened (workers : ℕ) (shapes : List Shape) (draw : ℕ) (a : Live) (published : Beginning) (left : Left) : Type 0 where
  pub queues : length a.queues ≡ workers
  pub maps : shapes_of a.stock.maps ≡ shapes
  pub first_draw : a.draw ≡ draw
  pub list : published ≡ a.list
  pub no_loads : published.loads ≡ []
  pub rest : AreLeft a left
  pub unmade : HaveMade 0 left.passes
  pub readers : left.readers.left ≡ workers
  pub parts : left.parts ≡ parts_in_all
  pub shards : left.shards ≡ whole parts_in_all
  pub pages : AreNewPages (parts_in_all - 1) left.pages

-- one part of each ledger was given
pub record GaveToken (l l2 : Left) : Type 0 where
  pub parts : l2.parts + 1 ≡ l.parts
  pub shards : HasGivenOne l.shards l2.shards

-- no part was given
pub record GaveNothing (l l2 : Left) : Type 0 where
  pub parts : l2.parts ≡ l.parts
  pub shards : l2.shards ≡ l.shards
