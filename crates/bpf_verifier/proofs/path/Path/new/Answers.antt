use Rattle.bpf_verifier.proofs.Folding.{nothing}
use Rattle.bpf_verifier.proofs.path.Path.new.Goals as goal

pub returns : goal.returns
returns c = record { is = nothing c.new.result.items c.new-3.result.items c.new-4.result.items c.new-2.result.items c.new.ensures.items c.new-2.ensures.items c.new-3.ensures.items c.new-4.ensures.items }
