use Rattle.std.proofs.Common.{◌∙◌, ap, map}
use Rattle.bpf_absval.specs.Marked.{seen}
use Rattle.bpf_absval.specs.Unlabelled.{unlabelled, bare}
use Rattle.bpf_absstate.proofs.Pointers.{held-copies}
use Rattle.bpf_absstate.proofs.registers.Kept.without_label.Goals as goal

pub returns : goal.returns
returns c =
    record {
      is = ap (seen bare c.forgotten-marks.result.bits 0) (held-copies _ _ c.in_ok-values.ensures.cases.whole) ∙ c.forgotten-marks.ensures
          ∙ ap (map (unlabelled c.args.label)) c.self.view_is;
    }
