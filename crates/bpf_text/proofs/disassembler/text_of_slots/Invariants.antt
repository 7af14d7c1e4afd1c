use Rattle.std.proofs.Common.{◌≡◌, ◌++◌, drop}
use Rattle.std.specs.String.{string_bytes}
use Rattle.bpf_text.specs.Texts.{disassembled}
use Rattle.bpf_text.proofs.disassembler.text_of_slots.Given as goal

abbrev pub invariant-loop-slot : goal.invariant-loop-slot
invariant-loop-slot l = string_bytes l.text ++ disassembled (drop l.slot-index l.slots) ≡ disassembled l.slots
