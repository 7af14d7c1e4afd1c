use Rattle.apd_run.proofs.Keeping.{served_worker}
use Rattle.apd_run.proofs.access.worker.LiveWorkerServing.serve.Goals as goal

pub invariant_of-self : goal.invariant_of-self
invariant_of-self g c = served_worker _ _ _ _ _ c.serve.ensures.own c.serve.ensures.number c.serve.ensures.served c.self.invariant

pub invariant_of-self-2 : goal.invariant_of-self-2
invariant_of-self-2 g c = served_worker _ _ _ _ _ c.serve.ensures.own c.serve.ensures.number c.serve.ensures.served c.self.invariant
