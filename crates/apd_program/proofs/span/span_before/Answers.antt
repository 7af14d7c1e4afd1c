use Rattle.std.proofs.Common.{refl}
use Rattle.apd_program.proofs.Fronts.{IsSpan-before, no_capture}
use Rattle.apd_program.proofs.span.span_before.Goals as goal

pub returns-in_default-clause-fault : goal.returns-in_default-clause-fault
returns-in_default-clause-fault c = no_capture c.args.file.now c.args.fault _ c.requires.refused c.of_capture.ensures.memory

pub returns-in-Err-clause-fault : goal.returns-in-Err-clause-fault
returns-in-Err-clause-fault c = no_capture c.args.file.now c.args.fault _ c.requires.refused c.of_capture-in-Err.ensures.memory

pub returns-then-is_before-clause-span : goal.returns-then-is_before-clause-span
returns-then-is_before-clause-span c =
    IsSpan-before c.args.file.now c.in-Some.front.now c.in-Some.ensures.is.0 c.in-Ok.recording.bytes.now _ c.args.fault c.is_before.result c.requires.refused c.in-Some.ensures.is.1
    c.in-Ok.ensures.same c.in-Ok.ensures.held c.in-Ok.recording.counted refl refl c.is_before.ensures.is c.if-is_before.true

pub returns-clause-fault : goal.returns-clause-fault
returns-clause-fault c = no_capture c.args.file.now c.args.fault _ c.requires.refused c.of_capture-2.ensures.memory
