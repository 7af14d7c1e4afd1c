use Rattle.std.proofs.Common.{◌≡◌, length, vec_capacity}
use Rattle.bpf_helpers.specs.Tables.{AreSameTables}
use Rattle.bpf_helpers.proofs.Keeping.{SeatedAt}
use Rattle.bpf_helpers.proofs.map_tables.seat_each.Given as goal

abbrev pub invariant-loop-table : goal.invariant-loop-table
invariant-loop-table l = record {
  same : AreSameTables l.initial.tables l.tables;
  sat : SeatedAt l.tables l.seats.items;
  count : length l.seats.items ≡ l.table-index;
  room : vec_capacity l.seats ≡ length l.tables;
}
