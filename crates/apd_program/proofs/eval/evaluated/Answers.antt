use Rattle.std.proofs.Common.{rules}
use Rattle.std.specs.Result.{IfErr}
use Rattle.std.proofs.lemmas.Result.{IfErr-weaker}
use Rattle.capture.specs.Walks.{packets_in}
use Rattle.apd_program.specs.Captured.{IsNoCapture}
use Rattle.apd_program.specs.Faults.{IsMemoryOr}
use Rattle.apd_program.proofs.Evaluated.{IsEvaluatedWith-of, bad_capture}
use Rattle.apd_program.proofs.Fronts.{IsCaptured-recorded}
use Rattle.apd_program.proofs.eval.evaluated.Goals as goal

pub returns-in_err-span-clause-fault : goal.returns-in_err-span-clause-fault
returns-in_err-span-clause-fault g c =
    let bad : IfErr c.from_residual-in_err-span.result (IsMemoryOr (IsNoCapture c.as_slice-file.result.now)) = search rules in
    IfErr-weaker c.from_residual-in_err-span.result _ _ (λ e h. bad_capture (g.F.Files.held c.args.files.now) _ _ _ _ e _ _ c.in_ok-setting.ensures.material.there c.as_slice-file.ensures.value h) bad

pub returns-clause-verdicts : goal.returns-clause-verdicts
returns-clause-verdicts g c =
    IsEvaluatedWith-of (g.F.Files.held c.args.files.now) _ _ _ _ _ _ _ _ c.in_ok-span.span.cut (packets_in c.recording_in.result.bytes.now) c.judge.result c.in_ok-setting.ensures.material
    (IsCaptured-recorded _ _ _ c.in_ok-span.span c.as_slice-file.ensures.value c.in_ok-span.ensures.span c.recording_in.ensures.bytes)
    (rw c.as_slice.ensures.value at c.judge.ensures.verdicts)
