use Rattle.std.proofs.Common.{◌<◌, sym, subst, ◌∙◌, ap, List}
use Rattle.ap_model.specs.Runs.{Entry}
use Rattle.ap_books.specs.Counts.{Portion, counts_in}
use Rattle.ap_locked.specs.Pages.{entries_of, first_page}
use Rattle.ap_locked.specs.Tokens.{IsAmong}
use Rattle.ap_locked.proofs.Among.{none_among}
use Rattle.ap_locked.proofs.Signing.{ends_none}
use Rattle.ap_locked.proofs.token.ShardToken.renew.Goals as goal

pub invariant_of-self : goal.invariant_of-self
invariant_of-self g c = (
  c.self.invariant.0,
  record {
    some = subst (λ (p : Portion). 0 < p.parts) (sym c.replace.ensures.after) c.requires.some;
    handled = c.self.invariant.1.handled;
    among = subst (λ (own : List Entry). IsAmong own (entries_of c.self.inside.pages.seen)) (sym c.new.ensures) (none_among (entries_of c.self.inside.pages.seen));
    counted = ap (λ (p : Portion). p.counts) c.replace.ensures.after ∙ (c.requires.nothing ∙ ap counts_in (sym c.new.ensures));
    on_page = ends_none (first_page c.self.inside.pages.pages).made c.new.result c.new.ensures;
  },
)
