use Rattle.std.proofs.Common.{rules}
use Rattle.bpf_helpers.specs.Hooked.{IsFitting}
use Rattle.bpf_helpers.proofs.Keeping.{fitting_kept}
use Rattle.uses_link.proofs.tests.seats.seats_at.Goals as goal

pub returns-clause-one : goal.returns-clause-one
returns-clause-one g c =
    let one = c.expect-one-2.result in
    let fits : IsFitting c.seated.new.maps 0 one.seats = search rules in
    fitting_kept c.seated.new.maps c.seated-2.new.maps c.seated-2.ensures.tables 0 one.seats fits
