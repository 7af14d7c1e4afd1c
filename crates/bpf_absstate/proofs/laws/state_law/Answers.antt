use Rattle.bpf_absstate.proofs.Kept.{inclusion_keeps, entry_contains}
use Rattle.bpf_absstate.proofs.laws.state_law.Goals as goal

pub returns : goal.returns
returns c = record { included = inclusion_keeps; entry = entry_contains }
