use Rattle.bpf_prune.proofs.Keeping.{keeps_newest, leaves_out}
use Rattle.bpf_prune.proofs.laws.keeping_law.Goals as goal

pub returns : goal.returns
returns c = record { newest = keeps_newest; left_out = leaves_out }
