use Rattle.std.proofs.Common.{◌≤◌, length, ap, ◌∙◌, sym, subst}
use Rattle.ap_core.proofs.Lists.{length-rates_text}
use Rattle.ap_core.proofs.management.response.Goals as goal

pub returns-then-asked-clause-short : goal.returns-then-asked-clause-short
returns-then-asked-clause-short c =
    subst (λ t. length t ≤ 12) (sym (ap (λ f. f.tail) c.reassociation_response.ensures ∙ c.requires.rates)) (length-rates_text c.args.config.now.rates c.requires.few)

pub returns-clause-short : goal.returns-clause-short
returns-clause-short c =
    subst (λ t. length t ≤ 12) (sym (ap (λ f. f.tail) c.association_response.ensures ∙ c.requires.rates)) (length-rates_text c.args.config.now.rates c.requires.few)
