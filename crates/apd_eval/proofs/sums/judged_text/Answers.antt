use Rattle.std.proofs.Common.{◌≡◌, ◌∙◌, ℕ, List, refl, subst, IfOk}
use Rattle.std.specs.String.{string_bytes}
use Rattle.apd_eval.specs.Sums.{totals_in, counts_text, steps_text}
use Rattle.apd_eval.proofs.Lines.{same_line}
use Rattle.apd_eval.proofs.sums.judged_text.Goals as goal

pub returns : goal.returns
returns c =
    let course = c.args.course in
    let tally = c.args.tally in
    let judged : tally.rows ≡ tally.rows = refl in
    let counts : c.as_str-counts.result.now ≡ counts_text course.hook (totals_in tally) = c.as_str-counts.ensures.value ∙ c.in_ok-counts.ensures.is in
    let steps : c.as_str-steps.result.now ≡ steps_text tally.most course.budget = c.as_str-steps.ensures.value ∙ c.in_ok-steps.ensures.is in
    let same = same_line judged c.count-packets.ensures.is counts steps in
    record { is = subst (λ (l : List ℕ). IfOk c.judged_line.result (λ text. string_bytes text ≡ l)) same c.judged_line.ensures.is }
