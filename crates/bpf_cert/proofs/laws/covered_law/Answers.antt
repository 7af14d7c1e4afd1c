use Rattle.bpf_cert.proofs.Safely.{covered_is_safe}
use Rattle.bpf_cert.proofs.laws.covered_law.Goals as goal

pub returns : goal.returns
returns c = record { safe = covered_is_safe }
