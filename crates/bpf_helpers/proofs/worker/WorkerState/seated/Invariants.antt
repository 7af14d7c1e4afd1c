use Rattle.std.proofs.Common.{◌≡◌, length, vec_capacity}
use Rattle.bpf_helpers.specs.Hooked.{KeepTables}
use Rattle.bpf_helpers.proofs.Keeping.{Seated}
use Rattle.bpf_helpers.proofs.worker.WorkerState.seated.Given as goal

abbrev pub invariant-loop-map : goal.invariant-loop-map
invariant-loop-map l = record {
  tables : KeepTables l.initial.maps l.maps;
  sat : Seated l.maps l.worker l.seats.items;
  count : length l.seats.items ≡ l.map-index;
  room : vec_capacity l.seats ≡ length l.maps;
}
