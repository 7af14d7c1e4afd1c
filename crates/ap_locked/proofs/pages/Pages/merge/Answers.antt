use Rattle.std.proofs.Common.{◌≡◌, ◌++◌, ◌∙◌, sym, subst}
use Rattle.ap_locked.specs.Accounts.{AreMade, ArePowers, mark_of, size_of}
use Rattle.ap_locked.proofs.Signing.{both_made, both_powers, made_longer, weighs_both}
use Rattle.ap_locked.proofs.pages.Pages.merge.Goals as goal

pub invariant_of-self : goal.invariant_of-self
invariant_of-self g c =
    let mine = c.self.invariant in
    let theirs = c.other.invariant in
    let ps = c.self.inside.pages in
    let qs = c.other.inside.pages in
    let seen = c.longer.result.entries in
    let longer = c.longer.ensures in
    let all : c.append.new.self ≡ ps ++ qs = c.append.ensures in (
      longer.this.same_journal ∙ mine.0,
      subst (AreMade seen) (sym all) (both_made ps qs seen (made_longer ps c.self.inside.seen.entries seen longer.this.has_all mine.1) (made_longer qs c.other.inside.seen.entries seen longer.that.has_all theirs.1)),
      subst ArePowers (sym all) (both_powers ps qs mine.2 theirs.2),
      weighs_both size_of _ _ _ _ _ _ ps qs c.append.new.self mine.3 theirs.3 c.merge.ensures.parts c.merge.ensures.amount all,
      weighs_both mark_of _ _ _ _ _ _ ps qs c.append.new.self mine.4 theirs.4 c.merge-2.ensures.parts c.merge-2.ensures.amount all,
    )
