use Rattle.std.proofs.Common.{arith}
use Rattle.ap_core.proofs.shard.Shard.on_tick.Goals as goal

pub tick-requires-clause-outs : goal.tick-requires-clause-outs
tick-requires-clause-outs c = omega (arith, c.most_outs-most.ensures, c.in_ok-outs.ensures.exact, c.in_ok-outs.ensures.len, c.in_ok-outs.outs.small)
