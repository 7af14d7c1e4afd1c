use Rattle.std.proofs.Common.{ℕ, ◌<◌, get_or}
use Rattle.bpf_cert_format.specs.Views.{EntryView}
use Rattle.bpf_cert.specs.Certified.{StandsWell}
use Rattle.bpf_cert.proofs.checker.all_stand.Given as goal

abbrev pub invariant-loop-leaf : goal.invariant-loop-leaf
invariant-loop-leaf l = (k : ℕ) (d : EntryView) → k < l.leaf-index → StandsWell l.program (get_or l.entries k d)
