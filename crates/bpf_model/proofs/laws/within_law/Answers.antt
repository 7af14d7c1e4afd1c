use Rattle.bpf_model.proofs.Within.{Safe-from_within}
use Rattle.bpf_model.proofs.laws.within_law.Goals as goal

pub returns : goal.returns
returns c = Safe-from_within
