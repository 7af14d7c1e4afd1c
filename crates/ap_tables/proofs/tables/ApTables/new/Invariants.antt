use Rattle.std.proofs.Common.{◌≡◌, ℕ, take, slice_get, Some, length}
use Rattle.bpf_helpers.specs.Tables.{Tables, table_count}
use Rattle.bpf_helpers.specs.Hooked.{shapes_of}
use Rattle.ap_tables.proofs.tables.ApTables.new.Given as goal

abbrev pub invariant-loop-shape : goal.invariant-loop-shape
invariant-loop-shape l = record {
  shapes : shapes_of l.maps.items ≡ take l.shape-index l.shapes;
  counts : (at : ℕ) (m : Tables) → slice_get l.maps.items at ≡ Some m → length m.tables ≡ table_count m.shape.scope l.workers;
}
