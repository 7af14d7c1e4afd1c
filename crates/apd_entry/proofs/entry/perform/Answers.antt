use Rattle.std.proofs.Common.{subst}
use Rattle.apd_words.specs.Asked.{Wanted}
use Rattle.apd_entry.specs.Captured.{AreWritten, CapturesInPlace}
use Rattle.apd_entry.specs.Fulfilled.{Fulfils}
use Rattle.apd_entry.proofs.Fulfilling.{Fulfils-told, told_in_vain}
use Rattle.apd_entry.proofs.entry.perform.Goals as goal

pub returns-in-Ok-Run : goal.returns-in-Ok-Run
returns-in-Ok-Run g c = record {
  fulfils = λ w spelled.
      let P : Wanted → Type 0 = λ v. Fulfils c.args.streams.shown (g.F.Files.held c.args.files.now) v (g.O.Write.contents c.args.streams.out) (g.O.Write.contents c.run_script.result.0) c.run_script.result.1 in
      subst P ((rw c.in-Ok-Run.field-0-is at c.in-Ok-Run.ensures.spelled) w spelled) (rw c.output_of-out.ensures.is at c.run_script.ensures.runs);
  captures = λ w spelled few.
      let P : Wanted → Type 0 = λ v. CapturesInPlace c.args.streams.shown (AreWritten g.O.Write.contents) (g.F.Files.held c.args.files.now) v (g.O.Write.contents c.args.streams.out) (g.O.Write.contents c.run_script.result.0) in
      subst P ((rw c.in-Ok-Run.field-0-is at c.in-Ok-Run.ensures.spelled) w spelled) (rw c.output_of-out.ensures.is at (c.run_script.ensures.captures few));
}

pub returns-in-Ok-Live : goal.returns-in-Ok-Live
returns-in-Ok-Live g c = record {
  fulfils = λ w spelled.
      let P : Wanted → Type 0 = λ v. Fulfils c.args.streams.shown (g.F.Files.held c.args.files.now) v (g.O.Write.contents c.args.streams.out) (g.O.Write.contents c.run_input.result.0) c.run_input.result.1 in
      subst P ((rw c.in-Ok-Live.field-0-is at c.in-Ok-Live.ensures.spelled) w spelled) c.run_input.ensures.runs;
  captures = λ w spelled few.
      let P : Wanted → Type 0 = λ v. CapturesInPlace c.args.streams.shown (AreWritten g.O.Write.contents) (g.F.Files.held c.args.files.now) v (g.O.Write.contents c.args.streams.out) (g.O.Write.contents c.run_input.result.0) in
      subst P ((rw c.in-Ok-Live.field-0-is at c.in-Ok-Live.ensures.spelled) w spelled) (c.run_input.ensures.captures few);
}

pub returns-in-Ok-Answer : goal.returns-in-Ok-Answer
returns-in-Ok-Answer g c = record {
  fulfils = λ w spelled.
      let P : Wanted → Type 0 = λ v. Fulfils c.args.streams.shown (g.F.Files.held c.args.files.now) v (g.O.Write.contents c.args.streams.out) (g.O.Write.contents c.respond-status.new.out) c.respond-status.result in
      subst P ((rw c.in-Ok-Answer.field-0-is at c.in-Ok-Answer.ensures.spelled) w spelled) (rw c.output_of-out-in-Ok-Answer.ensures.is at c.respond-status.ensures.is);
  captures = λ w spelled few.
      let P : Wanted → Type 0 = λ v. CapturesInPlace c.args.streams.shown (AreWritten g.O.Write.contents) (g.F.Files.held c.args.files.now) v (g.O.Write.contents c.args.streams.out) (g.O.Write.contents c.respond-status.new.out) in
      subst P ((rw c.in-Ok-Answer.field-0-is at c.in-Ok-Answer.ensures.spelled) w spelled) tt;
}

pub returns-in-Ok-Test : goal.returns-in-Ok-Test
returns-in-Ok-Test g c = record {
  fulfils = λ w spelled.
      let P : Wanted → Type 0 = λ v. Fulfils c.args.streams.shown (g.F.Files.held c.args.files.now) v (g.O.Write.contents c.args.streams.out) (g.O.Write.contents c.judge_cases-status.new.out) c.judge_cases-status.result in
      subst P ((rw c.in-Ok-Test.field-0-is at c.in-Ok-Test.ensures.spelled) w spelled) (rw c.output_of-out-in-Ok-Test.ensures.is at (rw c.as_slice.ensures.value at c.judge_cases-status.ensures.is));
  captures = λ w spelled few.
      let P : Wanted → Type 0 = λ v. CapturesInPlace c.args.streams.shown (AreWritten g.O.Write.contents) (g.F.Files.held c.args.files.now) v (g.O.Write.contents c.args.streams.out) (g.O.Write.contents c.judge_cases-status.new.out) in
      subst P ((rw c.in-Ok-Test.field-0-is at c.in-Ok-Test.ensures.spelled) w spelled) tt;
}

pub returns-in-Err : goal.returns-in-Err
returns-in-Err g c = record {
  fulfils = λ w spelled. Fulfils-told c.args.streams.shown _ w _ _ _ _ (c.in-Err.ensures.spelled w spelled) (rw c.output_of-out-in-Err.ensures.is at c.tell-status.ensures.is);
  captures = λ w spelled few. absurd (told_in_vain _ _ _ _ (c.in-Err.ensures.spelled w spelled) c.tell-status.ensures.is few);
}
