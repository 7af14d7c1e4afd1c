use Rattle.std.proofs.Common.{[], ◌∷◌, ◌∙◌, ap}
use Rattle.ap_core.proofs.management.refuse.Goals as goal

pub returns : goal.returns
returns c = λ shard. c.send.ensures ∙ ap (λ e. e ∷ []) (c.response-answer.ensures.is shard)
