-- A list of the agreements of a shard.
use Rattle.std.specs.Prelude.{◌≡◌, ◌↔◌, ℕ, Option, Some, List, Contains, AllPairs}
use Rattle.blockack.specs.Reading.{numbers_held}
use Rattle.ap_model.specs.Readings.{Using}
use Rattle.ap_model.specs.Steps.{IsBefore}
use Rattle.ap_agreements.specs.declared.in_force.AgreementInForce.{AgreementInForce}
use Rattle.ap_agreements.specs.Tables.{Kept}

-- what is listed of an agreement: its window's start and size, how many numbers that holds, and its timeout
abbrev pub listed_as : List ℕ → ℕ → Using → AgreementInForce
listed_as a tid u =
    record {
      station = a;
      tid = tid;
      start = u.window.start;
      size = u.window.size;
      held = numbers_held u.window;
      timeout = u.timeout;
    }

-- the same, of an agreement of the table
abbrev pub row_of : Kept → AgreementInForce
row_of k = listed_as k.station k.tid k.using

-- the row is what is listed of its station's agreement for its TID
pub record Shows (agreement : List ℕ → ℕ → Option Using) (row : AgreementInForce) : Type 0 where
  pub using : Using
  pub is : agreement row.station row.tid ≡ Some using
  pub shown : row ≡ listed_as row.station row.tid using

-- one row comes before another: by their stations' addresses, then by their TIDs
abbrev pub RowBefore : AgreementInForce → AgreementInForce → Type 0
RowBefore p q = IsBefore (p.station, p.tid) (q.station, q.tid)

-- the list has exactly the agreements, each once, in this order
pub record ListsAgreements (agreement : List ℕ → ℕ → Option Using) (rows : List AgreementInForce) : Type 0 where
  pub exact : (row : AgreementInForce) → Contains rows row ↔ Shows agreement row
  pub rising : AllPairs RowBefore rows
