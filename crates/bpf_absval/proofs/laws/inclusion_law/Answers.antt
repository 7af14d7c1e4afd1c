use Rattle.bpf_absval.proofs.Keeps.{value_keeps, slot_keeps}
use Rattle.bpf_absval.proofs.laws.inclusion_law.Goals as goal

pub returns : goal.returns
returns c = record { value = value_keeps; slot = slot_keeps }
