use Rattle.std.proofs.Common.{◌∙◌, ap, length, subst, sym}
use Rattle.ap_shards.specs.Pages.{HasPages}
use Rattle.ap_shards.proofs.Counted.{both_long}
use Rattle.ap_shards.proofs.pages.AllPages.merge.Goals as goal

pub returns-clause-count : goal.returns-clause-count
returns-clause-count g c = λ m n p q.
    let mine = subst (HasPages m) (sym c.self.view_is) p in
    let theirs = subst (HasPages n) (sym c.other.view_is) q in (
      ap length c.merge.ensures ∙ both_long m n _ _ mine.0 theirs.0,
      ap length c.merge-2.ensures ∙ both_long m n _ _ mine.1 theirs.1,
      ap length c.merge-3.ensures ∙ both_long m n _ _ mine.2 theirs.2,
      ap length c.merge-4.ensures ∙ both_long m n _ _ mine.3 theirs.3,
      ap length c.merge-5.ensures ∙ both_long m n _ _ mine.4 theirs.4,
      ap length c.merge-6.ensures ∙ both_long m n _ _ mine.5 theirs.5,
      ap length c.merge-7.ensures ∙ both_long m n _ _ mine.6 theirs.6,
      ap length c.merge-8.ensures ∙ both_long m n _ _ mine.7 theirs.7,
    )
