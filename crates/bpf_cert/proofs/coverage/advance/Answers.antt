use Rattle.std.proofs.Common.{ℕ, inl, inr, subst}
use Rattle.std.specs.Prelude.{◌≡◌, ◌+◌}
use Rattle.bpf_decode.specs.Program.{Begins}
use Rattle.bpf_rules.specs.declared.fault.Fault.TheVariants.{NoMemory}
use Rattle.bpf_cert.specs.Covered.{LeadsWithin}
use Rattle.bpf_cert.proofs.Seconds.{second_target}
use Rattle.bpf_cert.proofs.Told.{examined_goes, examined_fails, refused_goes, not_begun, starved}
use Rattle.bpf_cert.proofs.coverage.advance.Goals as goal

pub returns-then-not-begins-clause-is : goal.returns-then-not-begins-clause-is
returns-then-not-begins-clause-is g c =
    let out = subst (λ (n : ℕ). Begins c.args.program.now.slots n → ⊥) c.pc.ensures.is c.if-not-begins.ensures.is in
    not_begun c.args.program.now c.args.claims.now c.args.left c.args.state out

pub follow-requires : goal.follow-requires
follow-requires g c =
    let b = subst (Begins c.args.program.now.slots) c.pc.ensures.is c.if-not-begins.ensures.is in
    record { target = second_target c.args.program.now b.0 c.args.state c.in-Ok.ways c.whole.ensures.is b.1 (c.in-Ok.ensures.is b.0 b.1) }

pub returns-in_ok-step-in-Ok-clause-is : goal.returns-in_ok-step-in-Ok-clause-is
returns-in_ok-step-in-Ok-clause-is g c =
    let b = subst (Begins c.args.program.now.slots) c.pc.ensures.is c.if-not-begins.ensures.is in
    examined_goes c.args.program.now c.args.claims.now c.args.left c.args.state b.0 c.in-Ok.ways c.in_ok-step-in-Ok.step b.1 (c.in-Ok.ensures.is b.0 b.1) c.in_ok-step-in-Ok.ensures.is

pub returns-in-Err-clause-is : goal.returns-in-Err-clause-is
returns-in-Err-clause-is g c =
    let b = subst (Begins c.args.program.now.slots) c.pc.ensures.is c.if-not-begins.ensures.is in
    let code = c.args.program.now in
    refused_goes code c.args.claims.now c.args.left (LeadsWithin code c.args.claims.now (c.args.left + 1) c.args.state) (c.in-Err.fault ≡ NoMemory → ⊥) c.refused.result c.refused.ensures.is
    (λ other. elim (c.in-Err.ensures.is b.0 b.1) [
      | inl memory ↦ absurd (other memory)
      | inr met ↦ examined_fails code c.args.claims.now c.args.left c.args.state b.0 c.in-Err.fault b.1 met
    ])

pub returns-in-Err-clause-stop : goal.returns-in-Err-clause-stop
returns-in-Err-clause-stop g c = starved _ c.refused.result c.refused.ensures.stop
