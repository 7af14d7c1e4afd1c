use Rattle.std.proofs.Common.{◌∙◌}
use Rattle.bpf_absstate.proofs.Pointers.{held-copies}
use Rattle.bpf_absstate.proofs.registers.ValuesClone.clone.Goals as goal

pub returns : goal.returns
returns c = record { cases = held-copies _ _ c.in_ok-values.ensures.cases.whole ∙ c.self.view_is }
