-- The order of reports.
use Rattle.std.specs.Prelude.{ℕ, List}
use Rattle.std.specs.Ordering.{nat_cmp, ordering_then}
use Rattle.std.specs.List.Sorted.{IsSortedByKey, IsStableByKey, IsPermutation}
use Rattle.std.specs.declared.cmp.Ordering.{Ordering}
use Rattle.apd_driver.specs.declared.reports.report.Report.{Report}

-- a line and a shard
abbrev pub place : Report → ℕ × ℕ
place r = (r.line, r.shard)

-- by line, then by shard
abbrev pub place_cmp : ℕ × ℕ → ℕ × ℕ → Ordering
place_cmp a b = ordering_then (nat_cmp a.0 b.0) (nat_cmp a.1 b.1)

-- the same reports by line and then by shard; those of one shard and line keep their order
pub record IsOrdered (handed printed : List Report) : Type 0 where
  pub same : IsPermutation handed printed
  pub sorted : IsSortedByKey place place_cmp printed
  pub stable : IsStableByKey place place_cmp handed printed
