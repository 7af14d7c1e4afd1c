use Rattle.std.proofs.Common.{rules, ◌≡◌, List, sym, subst}
use Rattle.bpf_helpers.specs.Hooked.{IsFitting}
use Rattle.bpf_helpers.specs.Tables.{Tables}
use Rattle.uses_link.proofs.tests.policies.marks.Goals as goal

pub mark_by-first-requires : goal.mark_by-first-requires
mark_by-first-requires g c =
    let seated = c.two_seats-tables.result in
    let same : c.as_slice-maps.result.now ≡ seated.maps.items = search rules in
    record { seats = subst (λ (maps : List Tables). IsFitting maps 0 seated.state.seats) (sym same) seated.fits }

pub count-requires : goal.count-requires
count-requires g c =
    let seated = c.two_seats-tables.result in
    let same : c.as_slice-maps.result.now ≡ seated.maps.items = search rules in
    record { seats = subst (λ (maps : List Tables). IsFitting maps 0 seated.other.seats) (sym same) seated.other_fits }
