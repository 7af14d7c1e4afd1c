use Rattle.std.proofs.Common.{◌∙◌, sym, arith}
use Rattle.bpf_values.proofs.OneByte.{without-step, without-zero}
use Rattle.bpf_values.proofs.bytes.clear_bytes.Goals as goal

pub bytes-preserved : goal.bytes-preserved
bytes-preserved c =
    record {
      same = sym (without-step c.bytes.bytes c.bytes.place c.bytes.left (omega arith)) ∙ c.bytes.invariant.same;
      inside = omega arith;
    }

pub returns : goal.returns
returns c = sym (without-zero c.bytes.bytes c.bytes.place c.bytes.left (omega arith)) ∙ c.bytes.invariant.same
