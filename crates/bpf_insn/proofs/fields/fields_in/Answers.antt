use Rattle.std.proofs.Common.{arith, ◌∙◌, ap, sym}
use Rattle.bpf_insn.specs.Slot.{slot_of}
use Rattle.bpf_insn.proofs.Slots.{slot_back, read_fields}
use Rattle.bpf_insn.proofs.fields.fields_in.Goals as goal

pub returns-clause-exact : goal.returns-clause-exact
returns-clause-exact c =
    read_fields c.args.slot.now c.read_i16.result c.read_i32.result (record { sfits = c.read_i16.type_inv }) (record { sfits = c.read_i32.type_inv }) c.read_i16.ensures c.read_i32.ensures

pub returns-clause-spelled : goal.returns-clause-spelled
returns-clause-spelled c =
    slot_back c.args.slot.now c.requires.eight (λ i. omega (arith, c.type_inv.slot i)) ∙ ap slot_of (sym (returns-clause-exact c))
