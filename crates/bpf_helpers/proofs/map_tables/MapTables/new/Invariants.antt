use Rattle.std.proofs.Common.{◌≡◌, ◌<◌, length}
use Rattle.std.specs.List.{All}
use Rattle.shared_maps.specs.Faults.{AreSeats}
use Rattle.bpf_helpers.specs.Tables.{IsNew}
use Rattle.bpf_helpers.proofs.map_tables.MapTables.new.Given as goal

abbrev pub invariant-loop : goal.invariant-loop
invariant-loop l = record {
  shapes : All (λ t. t.shape ≡ l.shape) l.tables.items;
  new : All (IsNew l.seats) l.tables.items;
  count : length l.tables.items ≡ l.counter;
  seats : 0 < l.counter → AreSeats l.seats;
}
