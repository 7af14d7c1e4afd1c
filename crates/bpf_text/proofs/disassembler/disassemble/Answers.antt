use Rattle.bpf_text.proofs.Spelt.{assembled-disassembled}
use Rattle.bpf_text.proofs.disassembler.disassemble.Goals as goal

pub returns-clause-again : goal.returns-clause-again
returns-clause-again c = λ bytes s. rw (c.in_ok-text.ensures.ok, c.slots.ensures.is) (assembled-disassembled c.args.program.now bytes s)
