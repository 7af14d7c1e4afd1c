use Rattle.std.proofs.Common.{◌≡◌, ◌∙◌, ℕ, List, ap, ap₂, length, refl, ◌++◌}
use Rattle.std.proofs.lemmas.Result.{IfOk-weaker}
use Rattle.std.specs.String.{string_bytes}
use Rattle.capture.specs.Walks.{packets_in}
use Rattle.apd_eval.specs.Again.{frame_at}
use Rattle.apd_eval.specs.Evaluated.{judged_by}
use Rattle.apd_eval.specs.Repeated.{figures_below, figures_text}
use Rattle.apd_eval.specs.Sums.{Totals, sums_text}
use Rattle.apd_eval.specs.Table.{table_text}
use Rattle.apd_eval.specs.Tabled.{TakesRow}
use Rattle.apd_eval.specs.declared.rounds.Queries.{Queries}
use Rattle.apd_eval.proofs.Tabling.{whole, finished, course_is}
use Rattle.apd_eval.proofs.rounds.repeated_text.Goals as goal

pub returns : goal.returns
returns g c =
    let v = c.args.accepted in
    let packets = packets_in c.args.replay.recording.bytes.now in
    let taken = c.in_ok-programs.ensures.rows in
    let t = c.evaluate.new.sink in
    let all = whole (λ (s : Queries) row frame (t : Queries). TakesRow s.table row t.table) (λ (q : Queries). q.table) (λ s row frame t h. h) (frame_at packets) c.args.json taken.rows _ t c.in_ok-new.ensures.begun taken.taken in
    let table = finished c.args.json taken.rows t.table _ (judged_by v c.args.replay.link.now packets) _ all (course_is v c.args.replay.link.now packets _ _ c.hook-hook.ensures.is c.budget-budget.ensures.is) refl in
    let many : t.table.tally.rows ≡ length taken.rows = ap (λ (x : Totals). x.rows) all.counted in
    let measured = c.in_ok-line.ensures.measured in
    let line : string_bytes c.in_ok-line.line ≡ figures_text taken.rows c.args.rounds.now.count measured.figures c.args.json = measured.is
    ∙ ap (λ n. figures_below n c.args.rounds.now.count measured.figures c.args.json) many in
    record {
      is = IfOk-weaker c.finish_above.result _ _ (λ text h. record {
        rows = taken.rows;
        evaluated = taken.evaluated;
        figures = measured.figures;
        told = measured.told;
        is = h ∙ ap₂ (λ (a b : List ℕ). a ++ b) table (c.as_str.ensures.value ∙ line);
      }) c.finish_above.ensures.is;
    }
