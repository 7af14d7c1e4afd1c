use Rattle.apd_policies.proofs.Either.{first_holds, test_is_left}
use Rattle.apd_policies.proofs.graph.blocks.is_first.Goals as goal

pub returns-then-is_target : goal.returns-then-is_target
returns-then-is_target c = record { is = first_holds _ _ _ c.is_target.ensures.is c.if-is_target.true }

pub returns-else-is_target : goal.returns-else-is_target
returns-else-is_target c = record { is = test_is_left _ _ _ _ c.is_target.ensures.is c.if-is_target.false c.turned_before.ensures.is }
