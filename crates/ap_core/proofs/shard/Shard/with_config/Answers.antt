use Rattle.ap_core.proofs.Pasts.{begun}
use Rattle.ap_core.proofs.shard.Shard.with_config.Goals as goal

pub invariant_of-result : goal.invariant_of-result
invariant_of-result c = record { history = begun _ _ c.opened-state.ensures.opening }
