use Rattle.bpf_model.specs.Run.{AreBytes, Safe}
use Rattle.bpf_machine.proofs.one_step.safe_on.Goals as goal

pub returns : goal.returns
returns c =
    let frame : AreBytes c.args.frame.now = rw c.bytes.ensures.is at c.are_bytes.ensures.is in
    let context : AreBytes c.args.context.now = rw c.bytes-2.ensures.is at c.are_bytes-2.ensures.is in
    let safe : Safe c.args.accepted.now.code.slots c.args.accepted.now.code.shapes c.args.accepted.now.budget =
    rw c.program-program.ensures.is at c.program-program.ensures.safe in
    record { is = safe c.args.frame.now c.args.context.now c.bytes.ensures.short c.bytes-2.ensures.long frame context }
