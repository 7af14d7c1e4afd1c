use Rattle.std.proofs.Common.{ap, sym, subst, ◌∙◌}
use Rattle.ap_books.specs.Holdings.{HasParts}
use Rattle.ap_shards.specs.Tokens.{holding_of}
use Rattle.ap_live.specs.Tokens.{Worker}
use Rattle.live_scenes.proofs.hands.Hand.give_back.Goals as goal

pub take-requires : goal.take-requires
take-requires g c = subst (HasParts 1) (ap (λ (t : Worker). holding_of t.shards) (sym c.into_inner.ensures) ∙ sym c.into_parts-shares.ensures.shares) c.args.self.is_hand.part
