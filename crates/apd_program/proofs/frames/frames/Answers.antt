use Rattle.std.proofs.Common.{rules, refl}
use Rattle.std.specs.Result.{IfErr}
use Rattle.std.proofs.lemmas.Result.{IfErr-weaker}
use Rattle.apd_files.specs.Held.{Lacks}
use Rattle.apd_files.specs.declared.inputs.files.FileKind.TheVariants.{Capture}
use Rattle.apd_words.specs.Asked.{text_of}
use Rattle.apd_program.specs.Faults.{IsMemoryOr}
use Rattle.apd_program.specs.Scripts.{IsUnscripted}
use Rattle.apd_program.proofs.Scripted.{no_file, no_script, scripted}
use Rattle.apd_program.proofs.frames.frames.Goals as goal

pub returns-in_err-file-clause-fault : goal.returns-in_err-file-clause-fault
returns-in_err-file-clause-fault g c =
    let bad : IfErr c.from_residual-in_err-file.result (IsMemoryOr (Lacks Capture (g.F.Files.held c.args.files.now) c.args.asked.capture.now)) = search rules in
    IfErr-weaker c.from_residual-in_err-file.result _ _ (λ e h. no_file (g.F.Files.held c.args.files.now) c.args.asked.capture.now (text_of c.args.asked.bssid) c.args.asked.all e h) bad

pub returns-in_err-answer-clause-fault : goal.returns-in_err-answer-clause-fault
returns-in_err-answer-clause-fault g c =
    let bad : IfErr c.from_residual-in_err-answer.result (IsMemoryOr (IsUnscripted c.in_ok-choice.choice c.in_ok-file.file.items)) = search rules in
    IfErr-weaker c.from_residual-in_err-answer.result _ _ (λ e h. no_script (g.F.Files.held c.args.files.now) c.args.asked.capture.now (text_of c.args.asked.bssid) c.args.asked.all c.in_ok-choice.choice _ _ e refl c.in_ok-choice.ensures.choice c.in_ok-file.ensures.there h) bad

pub returns-clause-script : goal.returns-clause-script
returns-clause-script g c = scripted (g.F.Files.held c.args.files.now) c.args.asked.capture.now (text_of c.args.asked.bssid) c.args.asked.all c.args.asked.ticks c.in_ok-choice.choice _ _ c.in_ok-answer.answer refl c.in_ok-choice.ensures.choice c.in_ok-file.ensures.there c.in_ok-answer.ensures.script
