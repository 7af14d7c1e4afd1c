use Rattle.std.proofs.Common.{◌≡◌, Some, ◌∙◌}
use Rattle.std.specs.Prelude.{slice_get}
use Rattle.bpf_decode.proofs.Bytes.{index_get, first_bytes}
use Rattle.bpf_decode.proofs.encoder.slot_bytes.Goals as goal

pub returns-in-Some : goal.returns-in-Some
returns-in-Some c =
    let here : slice_get c.args.slots.now c.args.at ≡ Some (Some c.in-Some.insn) = index_get c.args.slots.now c.args.at _ _ c.requires.place c.in-Some.is in
    record { is = λ bytes table. c.to_slots.ensures.first ∙ first_bytes bytes c.args.slots.now c.args.at c.in-Some.insn table here }
