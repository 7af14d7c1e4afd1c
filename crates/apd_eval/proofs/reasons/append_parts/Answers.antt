use Rattle.std.proofs.Common.{◌∙◌, ℕ, List, ap, ap₂}
use Rattle.std.specs.Prelude.{codes}
use Rattle.apd_eval.specs.Unjudged.{with_part}
use Rattle.apd_eval.proofs.reasons.append_parts.Goals as goal

pub returns : goal.returns
returns c =
    let r = c.args.reasons in
    let two = c.in_ok-append_part-2.ensures.ok ∙ ap₂ (λ (t w : List ℕ). with_part t r.other w) c.in_ok-append_part.ensures.ok c.other_kind.ensures.is in
    let three = c.in_ok-append_part-3.ensures.ok ∙ ap (λ (t : List ℕ). with_part t r.elsewhere (codes "to another address")) two in
    let four = c.in_ok-append_part-4.ensures.ok ∙ ap (λ (t : List ℕ). with_part t r.encrypted (codes "encrypted")) three in
    record { ok = c.in_ok-append_part-5.ensures.ok ∙ ap (λ (t : List ℕ). with_part t r.refused (codes "refused before any program")) four }
