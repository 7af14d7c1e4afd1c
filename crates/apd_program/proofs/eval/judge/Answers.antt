use Rattle.std.proofs.Common.{ℕ, List, Option, Some, Vec, option_map, IfOk, sym, ap, subst}
use Rattle.std.specs.declared.alloc.Global.{Global}
use Rattle.apd_program.specs.Evaluating.{AreJudged, replayed_by}
use Rattle.apd_program.specs.Verifying.{within}
use Rattle.apd_program.proofs.eval.judge.Goals as goal

pub returns-in-Some-clause-verdicts : goal.returns-in-Some-clause-verdicts
returns-in-Some-clause-verdicts c =
    let P : Option (List ℕ) → Type 0 = λ o. IfOk c.examine_against.result (AreJudged (within c.args.exam.terms.states c.args.exam.terms.work) (replayed_by c.args.exam) o c.args.code.now c.args.exam.shapes.now) in
    let here : P (Some c.in-Some.in_force.items) = subst (λ (l : List ℕ). P (Some l)) c.as_slice.ensures.value c.examine_against.ensures.verdicts in
    subst P (sym (ap (λ (o : Option (Vec ℕ Global)). option_map (λ code. code.items) o) c.in-Some.is)) here
