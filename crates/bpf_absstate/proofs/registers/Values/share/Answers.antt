use Rattle.bpf_absstate.proofs.Pointers.{held-set}
use Rattle.bpf_absstate.proofs.registers.Values.share.Goals as goal

pub returns : goal.returns
returns c = record { is = held-set _ _ _ _ _ c.self.view_is c.in_ok-held.ensures.cases }
