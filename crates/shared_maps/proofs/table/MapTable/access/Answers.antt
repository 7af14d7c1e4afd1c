use Rattle.shared_maps.proofs.Histories.{answers_in_range}
use Rattle.shared_maps.proofs.table.MapTable.access.Goals as goal

pub returns-clause-in_range : goal.returns-clause-in_range
returns-clause-in_range c = rw (← c.self.view_is) (answers_in_range c.self.inside.shape _ c.args.word c.args.operation c.step.result _ c.step.ensures.made c.step.ensures.in_range)
