use Rattle.std.proofs.Common.{[], ◌∷◌, ◌∙◌, ap}
use Rattle.ap_core.proofs.setups.decline.Goals as goal

pub returns : goal.returns
returns c = λ shard. c.send.ensures ∙ ap (λ e. e ∷ []) (c.answer-answer.ensures.is shard)
