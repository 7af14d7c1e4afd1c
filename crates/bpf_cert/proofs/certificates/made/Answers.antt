use Rattle.std.proofs.Common.{ap, sym, subst}
use Rattle.bpf_verifier.specs.declared.refusal.Refusal.{Refusal}
use Rattle.bpf_cert.specs.Certified.{IsUnmade}
use Rattle.bpf_cert.proofs.Uncertified.{unfound, unwritten}
use Rattle.bpf_cert.proofs.certificates.made.Goals as goal

pub returns-in-Err-clause-start : goal.returns-in-Err-clause-start
returns-in-Err-clause-start c = ap (λ (e : Refusal). e.pc) c.unfound.ensures.is

pub returns-in-Err-clause-why : goal.returns-in-Err-clause-why
returns-in-Err-clause-why c = subst (IsUnmade _) (sym (ap (λ (e : Refusal). e.fault) c.unfound.ensures.is)) (unfound _ c.in-Err.stop c.in-Err.ensures.stop)

pub returns-in-Err-written-clause-start : goal.returns-in-Err-written-clause-start
returns-in-Err-written-clause-start c = ap (λ (e : Refusal). e.pc) c.unwritten.ensures.is

pub returns-in-Err-written-clause-why : goal.returns-in-Err-written-clause-why
returns-in-Err-written-clause-why c = subst (IsUnmade _) (sym (ap (λ (e : Refusal). e.fault) c.unwritten.ensures.is)) (unwritten _ c.in-Err-written.fault)
