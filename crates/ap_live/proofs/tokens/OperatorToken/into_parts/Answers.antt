use Rattle.std.proofs.Common.{refl, subst, sym}
use Rattle.ap_shards.specs.Pages.{HasPages}
use Rattle.ap_live.proofs.tokens.OperatorToken.into_parts.Goals as goal

pub returns-clause-count : goal.returns-clause-count
returns-clause-count g c = subst (HasPages 1) (sym c.into_parts.ensures.pages) (refl, refl, refl, refl, refl, refl, refl, refl)
