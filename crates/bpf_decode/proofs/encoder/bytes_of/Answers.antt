use Rattle.std.proofs.Common.{◌∙◌}
use Rattle.bpf_decode.proofs.Bytes.{take_slot}
use Rattle.bpf_decode.proofs.encoder.bytes_of.Goals as goal

pub loop-at-preserved : goal.loop-at-preserved
loop-at-preserved c = λ bytes table.
    c.in_ok-extend_from_slice.ensures.items ∙ take_slot bytes c.loop-at.bytes.items c.slot_bytes.result c.loop-at.at (c.loop-at.invariant bytes table) (c.slot_bytes.ensures.is bytes table)
