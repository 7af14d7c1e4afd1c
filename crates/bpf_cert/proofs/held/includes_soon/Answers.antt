use Rattle.bpf_cert.proofs.Told.{open_includes, closed_includes_not}
use Rattle.bpf_cert.proofs.held.includes_soon.Goals as goal

pub returns-clause-is : goal.returns-clause-is
returns-clause-is g c = open_includes c.args.claim.now c.args.state.now c.in_ok-told.told c.if-not-claim.false c.in_ok-told.ensures.is

pub returns-then-not-claim-clause-is : goal.returns-then-not-claim-clause-is
returns-then-not-claim-clause-is g c = closed_includes_not c.args.claim.now c.args.state.now c.if-not-claim.true
