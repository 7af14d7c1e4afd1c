use Rattle.std.proofs.Common.{rules, ◌≡◌, List, sym, subst}
use Rattle.bpf_helpers.specs.Hooked.{IsFitting}
use Rattle.bpf_helpers.specs.Tables.{Tables}
use Rattle.uses_link.proofs.tests.policies.led.Goals as goal

pub served-results-requires : goal.served-results-requires
served-results-requires g c =
    let seated = c.two_seats-tables.result in
    let same : c.as_slice-maps.result.now ≡ seated.maps.items = search rules in
    record { seats = subst (λ (maps : List Tables). IsFitting maps 0 seated.state.seats) (sym same) seated.fits }
