use Rattle.std.proofs.Common.{◌≡◌, ◌+◌, ◌-◌, ◌^◌, ◌∙◌, ap, sym, subst, refl, arith}
use Rattle.std.proofs.lemmas.Grind.{common_steps}
use Rattle.ap_locked.specs.Accounts.{Account, AreMade, ArePowers}
use Rattle.ap_locked.specs.Pages.{new_pages}
use Rattle.ap_locked.proofs.Signing.{marks_left, new_made, new_powers, new_rest, weighs_new_marks, weighs_new_sizes}
use Rattle.ap_locked.proofs.pages.Pages.split_page.Goals as goal

pub invariant_of-self : goal.invariant_of-self
invariant_of-self g c =
    let count = c.args.count in
    let was = c.self.inside.pages in
    let seen = c.self.inside.seen.entries in
    let new : was ≡ new_pages count = ap (λ (a : Account). a.pages) c.self.view_is ∙ c.requires.new in
    let rest : c.split_first.new.self ≡ new_pages (count - 1) = c.split_first.ensures.others ∙ new_rest count was c.requires.some new in
    let given : c.split_off-2.result.amount ≡ 2 ^ (count - 1) = grind (arith, common_steps) in
    let sizes = c.self.invariant.3 in
    let marks = c.self.invariant.4 in
    let all = weighs_new_sizes count count 0 was new refl refl in
    let fewer : count - 1 + 1 ≡ count = omega (arith, c.requires.some) in (
      c.self.invariant.0,
      subst (AreMade seen) (sym rest) (new_made (count - 1) seen),
      subst ArePowers (sym rest) (new_powers (count - 1)),
      weighs_new_sizes (count - 1) _ _ c.split_first.new.self rest (omega (arith, c.split_off.ensures.parts_left, sizes.one_each, all.one_each, fewer)) (omega (arith, c.split_off.ensures.amount_left, sizes.sum, all.sum)),
      weighs_new_marks (count - 1) _ _ c.split_first.new.self rest (omega (arith, c.split_off-2.ensures.parts_left, marks.one_each, all.one_each, fewer))
          (marks_left count _ _ was c.requires.some new marks.sum (omega (arith, c.split_off-2.ensures.amount_left, c.split_off-2.ensures.amount, given))),
    )
