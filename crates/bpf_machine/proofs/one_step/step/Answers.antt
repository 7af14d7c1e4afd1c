use Rattle.std.proofs.Common.{[], sym, ap}
use Rattle.bpf_model.specs.Step.{next_at}
use Rattle.bpf_model.specs.Run.{setting}
use Rattle.bpf_tagged.specs.Took.{Performs, at}
use Rattle.bpf_tagged.proofs.Moving.{same}
use Rattle.bpf_machine.proofs.one_step.step.Goals as goal

pub returns-clause-performs : goal.returns-clause-performs
returns-clause-performs g c =
    let on_input : Performs g.P.Port.gives c.shapes.result.now (next_at (setting [] c.shapes.result.now c.args.frame.now c.args.context.now) c.insn_at-slot.result) c.perform_slot.result c.args.port.now c.perform_slot.new.port c.args.machine.now c.perform_slot.new.machine =
    c.perform_slot.ensures.performs in
    let performed : Performs g.P.Port.gives c.args.program.now.shapes (next_at (setting [] c.args.program.now.shapes c.args.frame.now c.args.context.now) c.insn_at-slot.result) c.perform_slot.result c.args.port.now c.perform_slot.new.port c.args.machine.now c.perform_slot.new.machine =
    rw c.shapes.ensures.is at on_input in
    same g.P.Port.gives c.args.program.now.shapes _ _ _ _ _ c.args.machine.now _
    (λ notes. ap (λ slot. next_at (setting [] c.args.program.now.shapes c.args.frame.now c.args.context.now) slot (at c.args.machine.now notes)) (sym c.insn_at-slot.ensures.is)) performed
