use Rattle.bpf_helpers.proofs.Fitting.{none_given}
use Rattle.bpf_helpers.specs.Tables.{Tables}
use Rattle.std.proofs.Common.{◌≡◌, ap, sym, set}
use Rattle.shared_maps.specs.declared.fault.MapFault.TheVariants.{NoSeat}
use Rattle.bpf_helpers.proofs.map_tables.MapTables.seat.Goals as goal

pub returns-clause-no_seat : goal.returns-clause-no_seat
returns-clause-no_seat c =
    none_given c.seat.result c.self.inside.tables.items c.place_of-place.result c.index_mut.result.now c.seat.new.self (λ fault. fault ≡ NoSeat) c.args.self.now _
    c.index_mut.ensures.value c.seat.ensures.same c.seat.ensures.given
    (ap (λ (m : Tables). record { shape = m.shape; tables = set c.self.inside.tables.items c.place_of-place.result c.seat.new.self }) c.self.view_is)
    (ap (λ (m : Tables). record { shape = c.args.self.now.shape; tables = m.tables }) (sym c.self.view_is))
    c.seat.ensures.no_seat
