use Rattle.std.proofs.Common.{◌≡◌, ◌∙◌, ap}
use Rattle.std.proofs.lemmas.Result.{IfOk-weaker}
use Rattle.capture.specs.Walks.{packets_in}
use Rattle.apd_eval.specs.Again.{frame_at}
use Rattle.apd_eval.specs.Evaluated.{judged_by}
use Rattle.apd_eval.specs.Sums.{Judged}
use Rattle.apd_eval.specs.Tabled.{TakesRow}
use Rattle.apd_eval.specs.declared.row.Row.{Row}
use Rattle.apd_eval.specs.declared.table.Table.{Table}
use Rattle.apd_eval.proofs.Tabling.{whole, finished, course_is}
use Rattle.apd_eval.proofs.evaluation.evaluation_text.Goals as goal

pub returns : goal.returns
returns c =
    let v = c.args.accepted in
    let packets = packets_in c.args.replay.recording.bytes.now in
    let taken = c.in_ok-evaluate.ensures.rows in
    let all = whole (λ s row frame t. TakesRow s row t) (λ (t : Table). t) (λ s row frame t h. h) (frame_at packets) c.args.json taken.rows c.in_ok-table.table c.evaluate.new.sink c.in_ok-table.ensures.begun taken.taken in
    record {
      is = IfOk-weaker c.finish.result _ _ (λ text h. record {
        rows = taken.rows;
        evaluated = taken.evaluated;
        is = finished c.args.json taken.rows c.evaluate.new.sink _ (judged_by v c.args.replay.link.now packets) _ all (course_is v c.args.replay.link.now packets _ _ c.hook.ensures.is c.budget.ensures.is) h;
      }) c.finish.ensures.is;
    }
