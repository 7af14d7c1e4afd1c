use Rattle.std.proofs.Common.{Option, Result, ◌∙◌, ap, sym, subst}
use Rattle.std.specs.Prelude.{ℕ, IfErr}
use Rattle.bpf_prune.specs.Spending.{Tally}
use Rattle.bpf_machine.specs.Verified.{Verified}
use Rattle.bpf_cert.specs.declared.fault.CertFault.{CertFault}
use Rattle.bpf_cert.specs.Certified.{Admits, Refuses}
use Rattle.bpf_cert.specs.Limits.{Within, HasPassedLimit}
use Rattle.bpf_cert.proofs.Limits.{passed_limits}
use Rattle.bpf_cert.proofs.checker.check_within.Goals as goal

pub returns-in-Some-clause-only : goal.returns-in-Some-clause-only
returns-in-Some-clause-only c = λ b v.
    let counted = c.check_counted-checked in
    let within = counted.ensures.most ∙ ap (λ (w : Tally). w.most) c.within-work.ensures.is in
    subst (λ (o : Option ℕ). Within (HasPassedLimit o) (λ r. Admits r b) counted.result) (sym c.in-Some.is) (passed_limits c.in-Some.most counted.new.work (λ (r : Result Verified CertFault). Admits r b) counted.result within counted.ensures.counted (counted.ensures.only b v))

pub returns-in-Some-clause-err : goal.returns-in-Some-clause-err
returns-in-Some-clause-err c =
    let counted = c.check_counted-checked in
    let within = counted.ensures.most ∙ ap (λ (w : Tally). w.most) c.within-work.ensures.is in
    subst (λ (o : Option ℕ). Within (HasPassedLimit o) (λ r. IfErr r (Refuses c.args.program c.args.hook c.args.bytes.now)) counted.result) (sym c.in-Some.is) (passed_limits c.in-Some.most counted.new.work (λ (r : Result Verified CertFault). IfErr r (Refuses c.args.program c.args.hook c.args.bytes.now)) counted.result within counted.ensures.counted counted.ensures.err)
