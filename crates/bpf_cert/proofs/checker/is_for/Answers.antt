use Rattle.std.proofs.Common.{rules}
use Rattle.bpf_cert.proofs.Spelled.{one_text}
use Rattle.bpf_cert.proofs.checker.is_for.Goals as goal

pub returns : goal.returns
returns c = search (rules, one_text)
