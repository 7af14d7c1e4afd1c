use Rattle.bpf_sound_flow.proofs.Flow.{flow_covers}
use Rattle.bpf_sound_flow.proofs.laws.flow_law.Goals as goal

pub returns : goal.returns
returns c = flow_covers
