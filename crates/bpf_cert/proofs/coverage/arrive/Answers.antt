use Rattle.std.proofs.Common.{refl, sym, subst}
use Rattle.std.proofs.lemmas.Bool.{false≢true}
use Rattle.bpf_decode.specs.Program.{IsTarget}
use Rattle.bpf_cert.proofs.Told.{at_target, elsewhere}
use Rattle.bpf_cert.proofs.coverage.arrive.Goals as goal

pub returns-then-is_target-clause-is : goal.returns-then-is_target-clause-is
returns-then-is_target-clause-is g c =
    let t = subst (IsTarget c.args.program.now.slots) c.pc.ensures.is (c.if-is_target.ensures.is.0 refl) in
    at_target c.args.program.now c.args.claims.now c.args.left c.args.state c.in_ok-told.told t c.in_ok-told.ensures.is

pub returns-clause-is : goal.returns-clause-is
returns-clause-is g c =
    elsewhere c.args.program.now c.args.claims.now c.args.left c.args.state (λ t. false≢true (c.if-is_target.ensures.is.1 (subst (IsTarget c.args.program.now.slots) (sym c.pc.ensures.is) t)))
