use Rattle.std.proofs.Common.{Option, Some, None, refl}
use Rattle.std.specs.Prelude.{IfSome}
use Rattle.bpf_insn.specs.declared.fields.Fields.{Fields}
use Rattle.bpf_insn.specs.Slot.{FitsSlot}
use Rattle.bpf_insn.specs.Reading.{ReadAs}
use Rattle.bpf_insn.proofs.Found.{HalfFits}
use Rattle.bpf_insn.proofs.Codes.{least_fault, no_fault}
use Rattle.bpf_insn.proofs.Slotted.{read_spelled, spelled_read, ok_of, faultless_read}
use Rattle.bpf_insn.proofs.insn.Insn.from_slots.Goals as goal

half_fits : (g : Option Fields) → IfSome g FitsSlot → HalfFits g
half_fits None h = tt
half_fits (Some f) h = h

pub returns-clause-ok : goal.returns-clause-ok
returns-clause-ok c =
    let f = c.fields_in-fields.result in
    let g = c.half_of-half.result in
    λ i. (
      λ e. read_spelled f g i c.args.first c.args.second c.fields_in-fields.ensures.fits (half_fits g c.half_of-half.ensures.fits) c.fields_in-fields.ensures.spelled c.half_of-half.ensures.spelled (ok_of c.read.result i (ReadAs f g) e c.read.ensures.ok),
      λ s. spelled_read c.read.result f g i c.args.first c.args.second c.fields_in-fields.ensures.fits c.fields_in-fields.ensures.spelled c.half_of-half.ensures.exact c.read.ensures.ok c.read.ensures.err s,
    )

pub returns-clause-err : goal.returns-clause-err
returns-clause-err c =
    least_fault c.read.result c.fields_in-fields.result _ c.half_of-half.result _ c.fields_in-fields.ensures.exact c.half_of-half.ensures.exact c.fields_in-fields.ensures.fits.opcode c.read.ensures.err

pub returns-clause-faultless : goal.returns-clause-faultless
returns-clause-faultless c =
    no_fault c.read.result c.fields_in-fields.result _ c.half_of-half.result _ c.fields_in-fields.ensures.exact c.half_of-half.ensures.exact c.fields_in-fields.ensures.fits.opcode
    (faultless_read c.read.result c.fields_in-fields.result _ c.half_of-half.result _ refl refl c.read.ensures.ok)
