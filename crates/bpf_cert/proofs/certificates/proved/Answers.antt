use Rattle.std.proofs.Common.{ℕ, IfErr, ap, sym, subst}
use Rattle.bpf_verifier.specs.declared.refusal.Refusal.{Refusal}
use Rattle.bpf_cert.specs.Certified.{IsUnmade, Refuses}
use Rattle.bpf_cert.proofs.Uncertified.{unmade}
use Rattle.bpf_cert.proofs.certificates.proved.Goals as goal

pub returns-in-Err-clause-why : goal.returns-in-Err-clause-why
returns-in-Err-clause-why c =
    subst (IsUnmade _) (sym (ap (λ (e : Refusal). e.fault) c.unmade.ensures.is)) (unmade {X = ℕ} _ (λ r. IfErr r (Refuses c.args.program.now c.args.hook c.as_slice.result.now)) c.in-Err.fault c.in-Err.ensures.err)
