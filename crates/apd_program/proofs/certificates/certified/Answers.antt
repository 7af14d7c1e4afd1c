use Rattle.std.proofs.Common.{IfOk, subst}
use Rattle.bpf_regions.specs.declared.hooks.Hook.{Hook}
use Rattle.bpf_decode.specs.Program.{Code}
use Rattle.bpf_verifier.specs.Admission.{IsRefusalWithin}
use Rattle.bpf_cert.specs.Certified.{Covered, IsUncertifiedWithin}
use Rattle.apd_program.specs.Certifying.{IsCertificate, Made}
use Rattle.apd_program.proofs.Said.{IsCertificate-refused, IsCertificate-unmade}
use Rattle.apd_program.proofs.certificates.certified.Goals as goal

pub returns-in-Ok-certificate_counted-clause-certificate : goal.returns-in-Ok-certificate_counted-clause-certificate
returns-in-Ok-certificate_counted-clause-certificate c =
    let h = c.in-Ok-certificate_counted.ensures.certificate in
    let bytes = c.in-Ok-certificate_counted.bytes in
    let OfCode : Code → Type 0 = λ p. Covered p c.in-Ok.accepted.hook bytes.items h.0 in
    let OfHook : Hook → Type 0 = λ k. Covered c.args.program k bytes.items h.0 in
    Made bytes h.0 (subst OfHook c.in-Ok.ensures.hook (subst OfCode c.in-Ok.ensures.code h.1))

pub returns-in-Ok-clause-certificate : goal.returns-in-Ok-clause-certificate
returns-in-Ok-clause-certificate c =
    let e = c.in-Err-certificate_counted.refusal in
    let limits = c.limits_of-limits.result in
    let spent = rw (c.within-work.ensures.is, c.units.ensures.is) at c.verify_counted.ensures.spent in
    let why : IsUncertifiedWithin c.in-Ok.accepted.code limits e = record { before = c.verify_counted.new.work; tally = c.certificate_counted.new.work; most = spent.most; counted = c.certificate_counted.ensures.counted; after = c.in-Err-certificate_counted.ensures.refused } in
    subst (λ l. IfOk c.refused.result (IsCertificate l c.args.terms.hook c.args.program)) c.limits_of-limits.ensures.is
    (IsCertificate-unmade limits c.args.terms.hook c.args.program c.refused.result e
    (subst (λ (p : Code). IsUncertifiedWithin p limits e) c.in-Ok.ensures.code why) c.refused.ensures.refusal)

pub returns-clause-certificate : goal.returns-clause-certificate
returns-clause-certificate c =
    let limits = c.limits_of-limits.result in
    let spent = rw (c.within-work.ensures.is, c.units.ensures.is) at c.verify_counted.ensures.spent in
    let due = rw (c.within-work.ensures.is, c.units.ensures.is) at c.in-Err.ensures.due in
    let why : IsRefusalWithin c.args.program limits c.in-Err.refusal = record { tally = c.verify_counted.new.work; spent = spent; counted = c.verify_counted.ensures.counted; after = c.in-Err.ensures.refused; due = due } in
    subst (λ l. IfOk c.refused-in-Err.result (IsCertificate l c.args.terms.hook c.args.program)) c.limits_of-limits.ensures.is
    (IsCertificate-refused limits c.args.terms.hook c.args.program c.refused-in-Err.result c.in-Err.refusal why c.refused-in-Err.ensures.refusal)
