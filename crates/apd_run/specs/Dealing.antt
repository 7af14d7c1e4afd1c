-- Giving out the tokens of a run.
use Rattle.std.specs.Prelude.{◌≡◌, ◌+◌, ◌<◌, ◌≤◌, ℕ, List, [], ◌∷◌, length}
use Rattle.std.specs.List.{All}
use Rattle.ap_books.specs.Counts.{none}
use Rattle.ap_locked.specs.Pages.{Page}
use Rattle.ap_books.specs.Holdings.{Holding, HasParts, sum_of}
use Rattle.ap_shards.specs.Tokens.{holding_of}
use Rattle.ap_queues.specs.Passes.{taken_by}
use Rattle.ap_queues.specs.Lines.{ArePassesOf, HasPutNothing, HaveMade}
use Rattle.ap_queues.specs.declared.lines.passes.LinePasses.{LinePasses}
use Rattle.ap_live.specs.Counting.{counted_by}
use Rattle.ap_live.specs.Lives.{Live}
use Rattle.ap_live.specs.Opening.{parts_in_all}
use Rattle.ap_live.specs.Tokens.{Operator, IsOperator, Worker, IsWorker}
use Rattle.ap_live.specs.Upholding.{token_at}

-- handles of the access point's queues that are left after one operator got its own
pub record AreRest (a : Live) (left : LinePasses) : Type 0 where
  pub passes : ArePassesOf a.queues left
  pub alone : HaveMade 1 left

-- nothing is written on the page
abbrev pub IsUnused : Page → Type 0
IsUnused p = p.made ≡ []

-- an operator's token with one part of each ledger, which has counted nothing, and empty pages; it has put nothing into any
-- queue
pub record IsNewOperator (a : Live) (o : Operator) : Type 0 where
  pub own : IsOperator a o
  pub unput : HasPutNothing a.queues o.lines
  pub parts : HasParts 1 (holding_of o.shards)
  pub nothing : counted_by o.shards ≡ none
  pub unwritten : (s : ℕ) → s < 8 → IsUnused (token_at s o.shards).page

-- a worker's token with one part of each ledger, which has counted nothing, and empty pages; it took nothing, and has no entries
-- of its own
pub record IsNewWorker (w : Worker) : Type 0 where
  pub parts : HasParts 1 (holding_of w.shards)
  pub nothing : counted_by w.shards ≡ none
  pub untaken : taken_by w.pass ≡ []
  pub unowned : (s : ℕ) → s < 8 → (token_at s w.shards).own ≡ []
  pub unwritten : (s : ℕ) → s < 8 → IsUnused (token_at s w.shards).page

-- the workers' numbers count up from this one
abbrev pub AreNumberedFrom : ℕ → List Worker → Type 0
AreNumberedFrom n [] = Unit {0}
AreNumberedFrom n (w ∷ ws) = (w.number ≡ n) × AreNumberedFrom (n + 1) ws

-- new tokens of an operator and of at most 8 workers, and all other parts of the ledgers; nothing has been counted
pub record AreHands (a : Live) (operator : Operator) (workers : List Worker) (hoard : Holding)
    (parts : ℕ) : Type 0 where
  pub of_operator : IsNewOperator a operator
  pub own : All (IsWorker a) workers
  pub new_workers : All IsNewWorker workers
  pub numbered : AreNumberedFrom 0 workers
  pub few : length workers ≤ 8
  pub all_parts : HasParts parts hoard
  pub nothing : sum_of hoard ≡ none
  pub all : parts + length workers + 1 ≡ parts_in_all
