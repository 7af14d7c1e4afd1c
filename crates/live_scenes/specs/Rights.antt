-- The tokens of an access point, with their parts of the ledgers.
use Rattle.std.specs.Global.{Box}
use Rattle.ap_books.specs.Holdings.{HasParts}
use Rattle.ap_shards.specs.Tokens.{holding_of}
use Rattle.ap_live.specs.Lives.{Live}
use Rattle.ap_live.specs.Tokens.{IsOperator, IsWorker, Operator, Worker}

-- a token of one of its workers, with one part of each ledger
pub record IsHand (a : Live) (w : Worker) : Type 0 where
  pub own : IsWorker a w
  pub part : HasParts 1 (holding_of w.shards)

-- the same in a box
abbrev pub IsHandBoxed : Live → Box Worker → Type 0
IsHandBoxed a w = IsHand a w.value

-- a token of one of its operators, with one part of each ledger
pub record IsChief (a : Live) (o : Operator) : Type 0 where
  pub own : IsOperator a o
  pub part : HasParts 1 (holding_of o.shards)

-- the same in a box
abbrev pub IsChiefBoxed : Live → Box Operator → Type 0
IsChiefBoxed a o = IsChief a o.value
