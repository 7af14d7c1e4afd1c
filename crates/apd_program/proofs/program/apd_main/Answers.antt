use Rattle.std.proofs.Common.{inl, refl, subst}
use Rattle.apd_words.specs.Asked.{Wanted, texts_of, wanted_answer, wanted_run, wanted_live, wanted_test}
use Rattle.apd_program.specs.Program.{Responds, Performed}
use Rattle.apd_program.proofs.Performing.{Responds-status, Responds-memory, Responds-told, Does-told}
use Rattle.apd_program.proofs.program.apd_main.Goals as goal

pub returns-in-Ok-Answer-clause-status : goal.returns-in-Ok-Answer-clause-status
returns-in-Ok-Answer-clause-status g c = Responds-status _ (wanted_answer c.in-Ok-Answer.query) _ _ _ c.respond.ensures.is

pub returns-in-Ok-Answer-clause-memory : goal.returns-in-Ok-Answer-clause-memory
returns-in-Ok-Answer-clause-memory g c = Responds-memory _ (wanted_answer c.in-Ok-Answer.query) _ _ _ c.respond.ensures.is

pub returns-in-Ok-Answer-clause-runs : goal.returns-in-Ok-Answer-clause-runs
returns-in-Ok-Answer-clause-runs g c =
    let reads = rw c.in-Ok-Answer.field-0-is at c.in-Ok-Answer.ensures.reads in
    record {
      hooks = reads.hooks;
      numbers = reads.numbers;
      takes_hooks = reads.takes_hooks;
      takes_numbers = reads.takes_numbers;
      does = Performed (wanted_answer c.in-Ok-Answer.query) _ reads.at c.respond.ensures.is;
    }

pub returns-in-Ok-Answer-clause-spelled : goal.returns-in-Ok-Answer-clause-spelled
returns-in-Ok-Answer-clause-spelled g c = λ w spelled.
    let P : Wanted → Type 0 = λ v. Responds (g.F.Files.held c.args.files.now) v (g.O.Write.contents c.args.out.now) (g.O.Write.contents c.respond.new.out) c.respond.result in
    subst P ((rw c.in-Ok-Answer.field-0-is at c.in-Ok-Answer.ensures.spelled) w spelled) c.respond.ensures.is

pub returns-in-Ok-Test-clause-status : goal.returns-in-Ok-Test-clause-status
returns-in-Ok-Test-clause-status g c = Responds-status _ (wanted_test (texts_of c.as_slice.result.now)) _ _ _ c.judge_cases.ensures.is

pub returns-in-Ok-Test-clause-memory : goal.returns-in-Ok-Test-clause-memory
returns-in-Ok-Test-clause-memory g c = Responds-memory _ (wanted_test (texts_of c.as_slice.result.now)) _ _ _ c.judge_cases.ensures.is

pub returns-in-Ok-Test-clause-runs : goal.returns-in-Ok-Test-clause-runs
returns-in-Ok-Test-clause-runs g c =
    let reads = rw c.in-Ok-Test.field-0-is at c.in-Ok-Test.ensures.reads in
    record {
      hooks = reads.hooks;
      numbers = reads.numbers;
      takes_hooks = reads.takes_hooks;
      takes_numbers = reads.takes_numbers;
      does = Performed (wanted_test (texts_of c.in-Ok-Test.paths.items)) _ reads.at (rw c.as_slice.ensures.value at c.judge_cases.ensures.is);
    }

pub returns-in-Ok-Test-clause-spelled : goal.returns-in-Ok-Test-clause-spelled
returns-in-Ok-Test-clause-spelled g c = λ w spelled.
    let P : Wanted → Type 0 = λ v. Responds (g.F.Files.held c.args.files.now) v (g.O.Write.contents c.args.out.now) (g.O.Write.contents c.judge_cases.new.out) c.judge_cases.result in
    subst P ((rw c.in-Ok-Test.field-0-is at c.in-Ok-Test.ensures.spelled) w spelled) (rw c.as_slice.ensures.value at c.judge_cases.ensures.is)

pub returns-in-Ok-Run-clause-runs : goal.returns-in-Ok-Run-clause-runs
returns-in-Ok-Run-clause-runs g c =
    let reads = rw c.in-Ok-Run.field-0-is at c.in-Ok-Run.ensures.reads in
    record {
      hooks = reads.hooks;
      numbers = reads.numbers;
      takes_hooks = reads.takes_hooks;
      takes_numbers = reads.takes_numbers;
      does = Performed (wanted_run c.in-Ok-Run.field-0-0) _ reads.at (refl, inl c.complain.ensures.is);
    }

pub returns-in-Ok-Run-clause-spelled : goal.returns-in-Ok-Run-clause-spelled
returns-in-Ok-Run-clause-spelled g c = λ w spelled.
    let P : Wanted → Type 0 = λ v. Responds (g.F.Files.held c.args.files.now) v (g.O.Write.contents c.args.out.now) (g.O.Write.contents c.args.out.now) c.complain.result in
    subst P ((rw c.in-Ok-Run.field-0-is at c.in-Ok-Run.ensures.spelled) w spelled) (refl, inl c.complain.ensures.is)

pub returns-in-Ok-Live-clause-runs : goal.returns-in-Ok-Live-clause-runs
returns-in-Ok-Live-clause-runs g c =
    let reads = rw c.in-Ok-Live.field-0-is at c.in-Ok-Live.ensures.reads in
    record {
      hooks = reads.hooks;
      numbers = reads.numbers;
      takes_hooks = reads.takes_hooks;
      takes_numbers = reads.takes_numbers;
      does = Performed (wanted_live c.in-Ok-Live.field-0-0) _ reads.at (refl, inl c.complain-in-Ok-Live.ensures.is);
    }

pub returns-in-Ok-Live-clause-spelled : goal.returns-in-Ok-Live-clause-spelled
returns-in-Ok-Live-clause-spelled g c = λ w spelled.
    let P : Wanted → Type 0 = λ v. Responds (g.F.Files.held c.args.files.now) v (g.O.Write.contents c.args.out.now) (g.O.Write.contents c.args.out.now) c.complain-in-Ok-Live.result in
    subst P ((rw c.in-Ok-Live.field-0-is at c.in-Ok-Live.ensures.spelled) w spelled) (refl, inl c.complain-in-Ok-Live.ensures.is)

pub returns-in-Err-clause-runs : goal.returns-in-Err-clause-runs
returns-in-Err-clause-runs g c =
    let reads = c.in-Err.ensures.reads in
    record {
      hooks = reads.hooks;
      numbers = reads.numbers;
      takes_hooks = reads.takes_hooks;
      takes_numbers = reads.takes_numbers;
      does = Does-told _ _ _ _ _ _ _ _ reads.at c.tell.ensures.is;
    }

pub returns-in-Err-clause-spelled : goal.returns-in-Err-clause-spelled
returns-in-Err-clause-spelled g c = λ w spelled. Responds-told _ w _ _ _ _ (c.in-Err.ensures.spelled w spelled) c.tell.ensures.is
