use Rattle.std.proofs.Common.{inr}
use Rattle.apd_words.specs.Asked.{text_of}
use Rattle.apd_entry.specs.Captured.{AreWritten, lines_known}
use Rattle.apd_entry.specs.Forms.{RunsLive, form_named}
use Rattle.apd_entry.proofs.Formed.{lives_nothing}
use Rattle.apd_entry.proofs.Recorded.{beside_them, formed_under, in_their_place, written_known}
use Rattle.apd_entry.proofs.entry.run_input.Goals as goal

pub returns-then-is_in_place : goal.returns-then-is_in_place
returns-then-is_in_place g c =
    record {
      runs = in_their_place (λ o n. RunsLive (g.F.Files.held c.args.files.now) c.args.asked.states c.args.asked.work c.args.asked.config.now c.args.streams.shown c.args.asked.strict (text_of c.args.asked.events) (text_of c.args.asked.color) o n c.run_live-out.result.1) (text_of c.args.asked.capture.path) (g.O.Write.contents c.args.streams.out) (g.O.Write.contents c.run_live-out.result.0.capture.tape) c.if-is_in_place.ensures.is c.run_live-out.ensures.runs;
      captures = λ few is. rw (← c.in_place.ensures.tape)
          (formed_under (form_named c.args.streams.shown (text_of c.args.asked.events) (text_of c.args.asked.color)) _ (AreWritten g.O.Write.contents) _ _ _ _
          (λ written d. written_known _ _ (written d.capture.tape)) c.in_place.ensures.time (c.run_live-out.ensures.keeps few));
    }

pub returns-in-Ok : goal.returns-in-Ok
returns-in-Ok g c =
    record {
      runs = beside_them (λ o n. RunsLive (g.F.Files.held c.args.files.now) c.args.asked.states c.args.asked.work c.args.asked.config.now c.args.streams.shown c.args.asked.strict (text_of c.args.asked.events) (text_of c.args.asked.color) o n c.run_live-out-in-Ok.result.1) (text_of c.args.asked.capture.path) (g.O.Write.contents c.args.streams.out) (g.O.Write.contents c.run_live-out-in-Ok.result.0.lines) c.if-is_in_place.ensures.is (rw c.in-Ok.ensures.lines at c.run_live-out-in-Ok.ensures.runs);
      captures = λ few is. let f = c.if-is_in_place.ensures.is in absurd (cc);
    }

pub returns-in-Err : goal.returns-in-Err
returns-in-Err g c = record {
  runs = rw c.in-Err.ensures.same (lives_nothing (g.F.Files.held c.args.files.now) c.args.asked.states c.args.asked.work c.args.asked.config.now c.args.streams.shown c.args.asked.strict (text_of c.args.asked.events) (text_of c.args.asked.color) (lines_known (text_of c.args.asked.capture.path) (g.O.Write.contents c.args.streams.out)) _ (inr c.complain.ensures.is));
  captures = λ few is. let f = c.if-is_in_place.ensures.is in absurd (cc);
}
