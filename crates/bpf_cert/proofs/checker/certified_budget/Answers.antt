use Rattle.std.proofs.Common.{List, sym, subst}
use Rattle.bpf_regions.specs.declared.maps.Shape.{Shape}
use Rattle.bpf_cert_format.specs.Answers.{Spells}
use Rattle.bpf_cert_format.specs.Views.{CertificateView}
use Rattle.bpf_cert.specs.Certified.{IsFor, Shows}
use Rattle.bpf_cert.proofs.Told.{told_true}
use Rattle.bpf_cert.proofs.checker.certified_budget.Goals as goal

pub returns-in-None-clause-only : goal.returns-in-None-clause-only
returns-in-None-clause-only g c = λ b v.
    let none = rw (c.in-None.is, c.entries.ensures.is) at c.in_ok-shown_budget-in-Ok.ensures.is in
    let spelled = subst (λ (s : List Shape). Spells s c.args.bytes.now v.certificate) (sym c.shapes.ensures.is) v.spelled in
    none b (subst (λ (x : CertificateView). Shows c.args.program.now x.entries b) (sym (c.in-Ok.ensures.only v.certificate spelled)) v.shows)

pub returns-in-None-clause-err : goal.returns-in-None-clause-err
returns-in-None-clause-err g c =
    let none = rw (c.in-None.is, c.entries.ensures.is) at c.in_ok-shown_budget-in-Ok.ensures.is in
    let spelled = subst (λ (s : List Shape). Spells s c.args.bytes.now c.in-Ok.certificate) c.shapes.ensures.is c.in-Ok.ensures.found in
    let is_for = told_true c.in_ok-is_for-in-Ok.field-0 (IsFor c.args.program.now c.args.hook c.in-Ok.certificate) c.if-not-branch.false c.in_ok-is_for-in-Ok.ensures.is in
    (c.in-Ok.certificate, spelled, is_for, none)
