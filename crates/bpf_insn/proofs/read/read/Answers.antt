use Rattle.std.proofs.Common.{subst, sym, ◌∙◌}
use Rattle.bpf_insn.specs.Faults.{IsLeast}
use Rattle.bpf_insn.specs.Reading.{InKind}
use Rattle.bpf_insn.proofs.read.read.Goals as goal

pub returns-in-Some-first_fault-clause-err : goal.returns-in-Some-first_fault-clause-err
returns-in-Some-first_fault-clause-err c =
    let known = sym c.kind_of.ensures ∙ c.in-Some.is in
    subst (λ o. IsLeast (λ e. InKind o c.args.fields c.args.half e) c.in-Some-first_fault.fault) (sym known) c.in-Some-first_fault.ensures.some
