use Rattle.std.proofs.Common.{List, Option, inr, refl, ℕ}
use Rattle.apd_words.specs.Asked.{text_of}
use Rattle.apd_program.specs.Verifying.{within}
use Rattle.apd_run.specs.NewRuns.{NotRead, RunsScript}
use Rattle.apd_entry.specs.Captured.{AreWritten}
use Rattle.apd_entry.specs.Forms.{in_lines}
use Rattle.apd_entry.proofs.Recorded.{beside_them, in_their_place, keeps_under, written_known}
use Rattle.apd_entry.proofs.entry.run_script.Goals as goal

pub returns-then-is_in_place : goal.returns-then-is_in_place
returns-then-is_in_place g c =
    let asked = c.args.asked in
    let P : Option (List ℕ) → Option (List ℕ) → Type 0 = λ o n. RunsScript (g.F.Files.held c.args.files.now) (within asked.states asked.work) asked.config.now asked.script.now (in_lines asked.strict) o n c.run_watched-out.result.1 in
    record {
      runs = in_their_place P (text_of asked.capture.path) (g.O.Write.contents c.args.out) (g.O.Write.contents c.run_watched-out.result.0.capture.tape) c.if-is_in_place.ensures.is c.run_watched-out.ensures.runs;
      captures = λ few is. rw (← c.in_place-out.ensures.tape)
          (keeps_under (g.F.Files.held c.args.files.now) asked.script.now _ (AreWritten g.O.Write.contents) (in_lines asked.strict) _ _ _ _
          (λ written d. written_known _ _ (written d.capture.tape)) c.in_place-out.ensures.time (c.run_watched-out.ensures.keeps few));
    }

pub returns-in-Ok : goal.returns-in-Ok
returns-in-Ok g c =
    let asked = c.args.asked in
    let P : Option (List ℕ) → Option (List ℕ) → Type 0 = λ o n. RunsScript (g.F.Files.held c.args.files.now) (within asked.states asked.work) asked.config.now asked.script.now (in_lines asked.strict) o n c.run_watched-out-in-Ok.result.1 in
    record {
      runs = beside_them P (text_of asked.capture.path) (g.O.Write.contents c.args.out) (g.O.Write.contents c.run_watched-out-in-Ok.result.0.lines) c.if-is_in_place.ensures.is (rw c.in-Ok.ensures.lines at c.run_watched-out-in-Ok.ensures.runs);
      captures = λ few is. let f = c.if-is_in_place.ensures.is in absurd (cc);
    }

pub returns-in-Err : goal.returns-in-Err
returns-in-Err g c = record {
  runs = rw c.in-Err.ensures.same (NotRead _ refl (inr c.complain.ensures.is));
  captures = λ few is. let f = c.if-is_in_place.ensures.is in absurd (cc);
}
