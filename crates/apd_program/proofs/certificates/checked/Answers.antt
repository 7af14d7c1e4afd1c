use Rattle.std.proofs.Common.{ℕ, sym, subst}
use Rattle.bpf_decode.specs.Program.{Code}
use Rattle.bpf_model.specs.Run.{Safe}
use Rattle.bpf_cert.specs.Certified.{Covered}
use Rattle.apd_program.specs.Certifying.{Shown}
use Rattle.apd_program.proofs.Said.{IsChecked-refused}
use Rattle.apd_program.proofs.certificates.checked.Goals as goal

pub returns-in-Ok-clause-checked : goal.returns-in-Ok-clause-checked
returns-in-Ok-clause-checked c =
    let h = c.in-Ok.ensures.ok in
    let Within : ℕ → Type 0 = λ b. Covered c.args.program c.args.inquiry.hook c.args.inquiry.bytes.now b in
    let OfCode : Code → Type 0 = λ p. Safe p.slots p.shapes c.budget.result in
    Shown c.budget.result (subst Within (sym c.budget.ensures.is) h.covered) (subst OfCode h.code c.budget.ensures.safe)

pub returns-in-Err-clause-checked : goal.returns-in-Err-clause-checked
returns-in-Err-clause-checked c = IsChecked-refused c.args.inquiry.hook c.args.inquiry.bytes.now c.args.inquiry.work c.args.program c.unaccepted.result c.in-Err.fault c.in-Err.ensures.err c.unaccepted.ensures.fault
