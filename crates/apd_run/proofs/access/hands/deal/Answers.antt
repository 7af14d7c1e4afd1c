use Rattle.std.proofs.Common.{subst, sym, ◌∙◌}
use Rattle.apd_run.specs.Hands.{AreUnused}
use Rattle.apd_run.proofs.Returning.{rest_unused}
use Rattle.apd_run.proofs.access.hands.deal.Goals as goal

pub returns-clause-unused : goal.returns-clause-unused
returns-clause-unused g c =
    subst AreUnused (sym (c.in_ok-token.ensures.pages ∙ c.into_all-hoard.ensures.pages)) (rest_unused _ c.give_rights.new.left.shards c.give_rights.new.left.pages (subst AreUnused (sym c.in-Ok.ensures.pages) c.requires.unwritten) c.into_all-hoard.ensures.new)
