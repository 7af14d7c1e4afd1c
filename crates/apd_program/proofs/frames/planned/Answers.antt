use Rattle.std.proofs.Common.{rules, Option, List, ℕ, subst}
use Rattle.std.specs.Result.{IfErr}
use Rattle.std.proofs.lemmas.Result.{IfErr-weaker}
use Rattle.capture.specs.Walks.{packets_in}
use Rattle.apd_program.specs.Captured.{IsNoCapture}
use Rattle.apd_program.specs.Faults.{IsMemoryOr}
use Rattle.apd_program.specs.Scripts.{IsFor, IsUnclear}
use Rattle.apd_program.proofs.Scripted.{capture_unscripted, span_unclear}
use Rattle.apd_program.proofs.frames.planned.Goals as goal

pub returns-in_err-span-clause-fault : goal.returns-in_err-span-clause-fault
returns-in_err-span-clause-fault c =
    let bad : IfErr c.from_residual.result (IsMemoryOr (IsNoCapture c.args.file.now)) = search rules in
    IfErr-weaker c.from_residual.result _ _ (λ e h. capture_unscripted c.args.plan.choice c.args.file.now e h) bad

pub returns-in_err-manner-clause-fault : goal.returns-in_err-manner-clause-fault
returns-in_err-manner-clause-fault c =
    let bad : IfErr c.from_residual-in_err-manner.result (IsMemoryOr (IsUnclear c.args.plan.choice (packets_in c.recording_in.result.bytes.now))) = search rules in
    IfErr-weaker c.from_residual-in_err-manner.result _ _ (λ e h. span_unclear c.args.plan.choice c.args.file.now c.recording_in.result.bytes.now c.in_ok-span.span e c.in_ok-span.ensures.span c.recording_in.ensures.bytes h) bad

pub returns-clause-planned : goal.returns-clause-planned
returns-clause-planned c =
    let P : List ℕ → Type 0 = λ l. IsFor (packets_in l) c.args.plan.choice c.in_ok-manner.manner.bssid in
    record {
      span = c.in_ok-span.ensures.span;
      ticks = c.in_ok-manner.ensures.ticks;
      is_for = subst P c.recording_in.ensures.bytes c.in_ok-manner.ensures.bssid;
    }
