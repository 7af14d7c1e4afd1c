use Rattle.std.proofs.Common.{◌∙◌, sym, arith}
use Rattle.bpf_values.proofs.OneByte.{with_number-step, with_number-zero}
use Rattle.bpf_values.proofs.bytes.write_number.Goals as goal

pub bytes-preserved : goal.bytes-preserved
bytes-preserved c =
    record {
      same = sym (with_number-step c.bytes.bytes c.bytes.place c.bytes.left c.bytes.rest (omega arith)) ∙ c.bytes.invariant.same;
      inside = omega arith;
    }

pub returns : goal.returns
returns c = sym (with_number-zero c.bytes.bytes c.bytes.place c.bytes.left c.bytes.rest (omega arith)) ∙ c.bytes.invariant.same
