use Rattle.std.proofs.Common.{rules, inr}
use Rattle.std.specs.Result.{IfErr}
use Rattle.std.proofs.lemmas.Result.{IfErr-weaker, IfOk-weaker}
use Rattle.apd_program.specs.declared.fault.ProgramFault.TheVariants.{LongFrame}
use Rattle.apd_program.specs.Faults.{IsMemoryOr, IsGiven, IsNoFrame, TooLong}
use Rattle.apd_program.specs.Setups.{IsFrame}
use Rattle.apd_program.specs.Verifying.{IsRunWithin}
use Rattle.apd_words.specs.Asked.{text_of}
use Rattle.apd_program.proofs.Faulty.{HasNoTrial-word, HasNoTrial-given, too_long}
use Rattle.apd_program.proofs.KeptCode.{IsOfCode-loaded}
use Rattle.apd_program.proofs.program.trace.Goals as goal

pub returns-in_err-bytes-clause-fault : goal.returns-in_err-bytes-clause-fault
returns-in_err-bytes-clause-fault g c =
    let bad : IfErr c.from_residual-in_err-bytes.result (IsMemoryOr (IsNoFrame c.args.trial.frame.now)) = search rules in
    IfErr-weaker c.from_residual-in_err-bytes.result _ _ (λ e h. HasNoTrial-word _ c.args.trial.subject.source _ _ _ _ e c.in_ok-code.ensures.loaded h) bad

pub returns-in_default-clause-fault : goal.returns-in_default-clause-fault
returns-in_default-clause-fault g c =
    let long = too_long c.as_slice.result.now c.in_ok-bytes.bytes.items c.as_slice.ensures.value c.in_default.ensures.valid.1 in
    HasNoTrial-word _ c.args.trial.subject.source _ _ _ _ LongFrame c.in_ok-code.ensures.loaded (inr (TooLong c.in_ok-bytes.bytes.items c.in_ok-bytes.ensures.frame long))

pub returns-in_err-context-clause-fault : goal.returns-in_err-context-clause-fault
returns-in_err-context-clause-fault g c =
    let bad : IfErr c.from_residual-in_err-context.result (IsMemoryOr (IsGiven (text_of c.args.trial.given.context) c.args.trial.given.from_frame)) = search rules in
    IfErr-weaker c.from_residual-in_err-context.result _ _ (λ e h. HasNoTrial-given _ c.args.trial.subject.source _ _ _ e h) bad

pub returns-clause-run : goal.returns-clause-run
returns-clause-run g c =
    let spelled : IsFrame c.args.trial.frame.now c.in-Some.frame = search rules in
    let said = IsOfCode-loaded (λ setup. IsRunWithin c.args.trial.subject.terms c.in-Some.frame c.in_ok-context.context setup.draw) _ c.args.trial.subject.source _ c.trace-answer.result c.in_ok-code.ensures.loaded
    (rw c.as_slice-3.ensures.value at c.trace-answer.ensures.run) in
    IfOk-weaker c.trace-answer.result _ _ (λ a h. record { frame = c.in-Some.frame; spelled = spelled; context = c.in_ok-context.context; told = c.in_ok-context.ensures.context; said = h }) said
