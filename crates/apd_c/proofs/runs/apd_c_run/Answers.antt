use Rattle.std.proofs.Common.{rules, ◌≡◌, Option, Some, sym, subst}
use Rattle.apd_c.specs.declared.handle.Content.{Content}
use Rattle.apd_c.specs.Held.{held}
use Rattle.apd_c.specs.Lending.{with_content}
use Rattle.apd_c.specs.Runs.{RunsCode}
use Rattle.apd_c.proofs.runs.apd_c_run.Goals as goal

pub returns-clause-run : goal.returns-clause-run
returns-clause-run c = λ done.
    let frame = c.args.frame.now in
    let given = c.args.given.now in
    let report = c.run_contents-number.new.report in
    let code : held c.args.code.now ≡ Some c.in-Some.program.now = search rules in
    let before : held c.args.maps.now ≡ Some c.in-Some-lent.words.now = search rules in
    let after : held (with_content c.args.maps.now c.run_contents-number.new.words) ≡ Some c.run_contents-number.new.words = search rules in
    let h =
    subst (λ (o : Option Content). RunsCode o (held c.args.maps.now) frame given report (held (with_content c.args.maps.now c.run_contents-number.new.words))) (sym code)
    (subst (λ (o : Option Content). RunsCode (Some c.in-Some.program.now) o frame given report (held (with_content c.args.maps.now c.run_contents-number.new.words))) (sym before)
    (subst (λ (o : Option Content). RunsCode (Some c.in-Some.program.now) (Some c.in-Some-lent.words.now) frame given report o) (sym after) (c.run_contents-number.ensures.run done))) in (
      h.0,
      h.1,
      (
        h.2.0,
        h.2.1,
        h.2.2,
        h.2.3,
        record {
          outcome = h.2.4.outcome;
          ran = h.2.4.ran;
          within = h.2.4.within;
          r0 = h.2.4.r0;
          steps = h.2.4.steps;
          notes = h.2.4.notes;
          shapes = h.2.4.shapes;
          tables = h.2.4.tables;
          hand = h.2.4.hand;
        },
      ),
    )
