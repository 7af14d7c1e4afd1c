use Rattle.std.proofs.Common.{◌∙◌, ap}
use Rattle.bpf_absval.specs.Marked.{seen}
use Rattle.bpf_absval.specs.Unlabelled.{bare}
use Rattle.bpf_absstate.proofs.Pointers.{held-copies}
use Rattle.bpf_absstate.proofs.registers.KeptClone.clone.Goals as goal

pub returns : goal.returns
returns c =
    record { cases = ap (seen bare c.self.inside.marks.bits 0) (held-copies _ _ c.in_ok-values.ensures.cases.whole) ∙ c.self.view_is }
