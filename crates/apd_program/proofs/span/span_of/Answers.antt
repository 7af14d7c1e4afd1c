use Rattle.std.proofs.Common.{refl}
use Rattle.apd_program.proofs.Fronts.{IsSpan-whole}
use Rattle.apd_program.proofs.span.span_of.Goals as goal

pub returns-in-Ok-clause-span : goal.returns-in-Ok-clause-span
returns-in-Ok-clause-span c =
    IsSpan-whole c.args.file.now c.in-Ok.recording.bytes.now _ c.in-Ok.ensures.same c.in-Ok.ensures.held c.in-Ok.recording.counted refl refl
