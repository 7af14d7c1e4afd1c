use Rattle.bpf_cert.proofs.Told.{no_budget}
use Rattle.bpf_cert.proofs.coverage.leads.Goals as goal

pub returns-clause-is : goal.returns-clause-is
returns-clause-is g c = λ h. no_budget c.args.program.now c.args.claims.now c.loop-left.left c.loop-left.state c.loop-left-test.false (c.loop-left.invariant.same.forth h)
