use Rattle.std.proofs.Common.{◌≡◌, ◌+◌, ◌^◌, ◌∙◌, ap, sym, subst, arith}
use Rattle.std.proofs.lemmas.Grind.{common_steps}
use Rattle.ap_locked.specs.Accounts.{AreMade, ArePowers}
use Rattle.ap_locked.specs.Pages.{new_pages}
use Rattle.ap_locked.proofs.Signing.{new_made, new_powers, weighs_new_marks, weighs_new_sizes}
use Rattle.ap_locked.proofs.pages.Pages.open.Goals as goal

pub invariant_of-pages : goal.invariant_of-pages
invariant_of-pages g c =
    let n = g.B.Ledgers.shares in
    let pages = c.of-pages.result in
    let new : pages ≡ new_pages n = c.of-pages.ensures ∙ ap new_pages c.requires.pages.count_is in
    let ones : c.add.new.share.amount + 1 ≡ 2 ^ n = grind (arith, common_steps) in (
      ap (λ k. k.journal) c.again.ensures ∙ c.requires.journal,
      subst (AreMade c.again.result.entries) (sym new) (new_made n c.again.result.entries),
      subst ArePowers (sym new) (new_powers n),
      weighs_new_sizes n _ _ pages new c.open-made.ensures.parts c.open-made.ensures.amount,
      weighs_new_marks n _ _ pages new (c.add.ensures.parts ∙ c.open-marks.ensures.parts) ones,
    )
