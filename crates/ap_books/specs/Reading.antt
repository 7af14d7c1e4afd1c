-- Numbers that say what was counted.
use Rattle.std.specs.Prelude.{◌≡◌, ◌%◌, ◌^◌}
use Rattle.ap_books.specs.Counts.{Counts}
use Rattle.ap_books.specs.declared.totals.Totals.{Totals}

-- these numbers are the counts mod 2 ^ 64
pub record Reads (t : Totals) (c : Counts) : Type 0 where
  pub events : t.events ≡ c.events % 2 ^ 64
  pub sent : t.sent ≡ c.sent % 2 ^ 64
  pub up : t.up ≡ c.up % 2 ^ 64
  pub dropped : t.dropped ≡ c.dropped % 2 ^ 64
  pub notes : t.notes ≡ c.notes % 2 ^ 64
