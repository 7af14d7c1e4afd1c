use Rattle.bpf_insn.proofs.Slots.{written}
use Rattle.bpf_insn.proofs.fields.slot_with.Goals as goal

pub returns : goal.returns
returns c = record { is = written c.args.fields _ _ c.requires.fits c.write_i16.ensures c.write_i32.ensures }
