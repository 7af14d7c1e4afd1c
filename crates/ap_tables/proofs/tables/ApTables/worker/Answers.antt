use Rattle.std.proofs.Common.{◌≡◌, List, length, drop, sym, ap, ◌∙◌, subst}
use Rattle.bpf_helpers.specs.Tables.{Tables}
use Rattle.bpf_helpers.specs.Hooked.{KeepTables}
use Rattle.ap_tables.proofs.Sitting.{stocked_back}
use Rattle.ap_tables.proofs.tables.ApTables.worker.Goals as goal

pub invariant_of-self : goal.invariant_of-self
invariant_of-self c =
    let maps : List Tables = c.self.inside.maps.items in
    let now : List Tables = c.seated.new.maps in
    let many : c.self.inside.maps.len ≡ length maps = sym c.as_mut_slice.ensures.len ∙ ap length c.as_mut_slice.ensures.value in
    stocked_back maps now (drop (length now) maps) c.self.inside.maps.len c.self.inside.workers many
    (subst (λ (ms : List Tables). KeepTables ms now) c.as_mut_slice.ensures.value c.seated.ensures.tables) c.self.invariant
