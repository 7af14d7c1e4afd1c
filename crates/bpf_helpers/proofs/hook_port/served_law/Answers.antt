use Rattle.bpf_helpers.proofs.Asked.{served}
use Rattle.bpf_helpers.proofs.hook_port.served_law.Goals as goal

pub returns : goal.returns
returns c = record { served = served }
