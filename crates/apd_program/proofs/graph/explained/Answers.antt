use Rattle.std.proofs.Common.{ℕ, None, Result, IfOk, subst}
use Rattle.std.specs.Result.{IfErr}
use Rattle.bpf_verifier.specs.Admission.{IsSafeBudget, IsRefusalWithin}
use Rattle.bpf_verifier.specs.declared.refusal.Refusal.{Refusal}
use Rattle.apd_program.proofs.graph.explained.Goals as goal

pub returns-in-Ok-clause-drawing : goal.returns-in-Ok-clause-drawing
returns-in-Ok-clause-drawing c =
    let P : Result ℕ Refusal → Type 0 = λ v. IfOk v (IsSafeBudget c.args.program.now c.nearest.result) in
    let safe = subst P c.in-Ok.is c.in_ok-verdict.ensures.budget in
    (c.in-Ok.field-0, subst (λ (n : ℕ). IsSafeBudget c.args.program.now n c.in-Ok.field-0) c.nearest.ensures.value safe, (c.as_slice-visits.result.now, c.as_slice-budgets.result.now, c.in_ok-text.ensures.is))

pub refused_graph-requires : goal.refused_graph-requires
refused_graph-requires c =
    let P : Result ℕ Refusal → Type 0 = λ v. IfErr v (IsRefusalWithin c.args.program.now (record { states = c.nearest.result; work = None })) in
    let refused = subst P c.in-Err.is c.in_ok-verdict.ensures.refused in
    record {
      refused = subst (λ (n : ℕ). IsRefusalWithin c.args.program.now (record { states = n; work = None }) c.in-Err.refusal) c.nearest.ensures.value refused;
      explored = (c.as_slice-visits.result.now, c.as_slice-budgets.result.now, c.in_ok-text.ensures.is);
    }
