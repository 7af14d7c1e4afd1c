-- A table that takes rows.
use Rattle.std.specs.Prelude.{◌≡◌, Bool, ◌++◌, string_bytes}
use Rattle.apd_eval.specs.Sums.{no_rows, totals_in, with_row}
use Rattle.apd_eval.specs.Table.{front, line_in}
use Rattle.apd_eval.specs.declared.row.Row.{Row}
use Rattle.apd_eval.specs.declared.table.Table.{Table}

-- a table without rows
pub record IsBegun (json : Bool) (t : Table) : Type 0 where
  pub form : t.json ≡ json
  pub text : string_bytes t.text ≡ front json
  pub none : totals_in t.tally ≡ no_rows

-- one more row: its line is appended, and it is counted
pub record TakesRow (s : Table) (row : Row) (t : Table) : Type 0 where
  pub form : t.json ≡ s.json
  pub text : string_bytes t.text ≡ string_bytes s.text ++ line_in s.json row
  pub counted : totals_in t.tally ≡ with_row (totals_in s.tally) row
