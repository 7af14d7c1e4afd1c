use Rattle.std.proofs.Common.{◌≡◌, length, vec_capacity}
use Rattle.bpf_helpers.specs.Hooked.{KeepTables}
use Rattle.ap_rows.specs.Rows.{Stand}
use Rattle.ap_tables.specs.Stocks.{SitsAt}
use Rattle.ap_tables.proofs.tables.seats_of_all.Given as goal

abbrev pub invariant-loop-map : goal.invariant-loop-map
invariant-loop-map l = record {
  tables : KeepTables l.initial.maps l.maps;
  sat : Stand SitsAt l.maps l.all.items;
  count : length l.all.items ≡ l.map-index;
  room : vec_capacity l.all ≡ length l.maps;
}
