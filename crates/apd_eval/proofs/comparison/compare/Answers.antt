use Rattle.std.proofs.Common.{◌≡◌, ◌∙◌, ◌++◌, nat_lt, sym, subst, ap}
use Rattle.std.specs.String.{string_bytes}
use Rattle.capture.specs.Walks.{packets_in}
use Rattle.apd_eval.specs.Changes.{change_sums}
use Rattle.apd_eval.specs.Told.{IsUntold}
use Rattle.apd_eval.specs.declared.changes.Changes.{Changes}
use Rattle.apd_eval.proofs.Telling.{comparison}
use Rattle.apd_eval.proofs.comparison.compare.Goals as goal

pub returns : goal.returns
returns c =
    let config = c.args.replay.link.now in
    let packets = packets_in c.args.replay.recording.bytes.now in
    let t = c.in_ok-changes.ensures.contrasted in
    let untold = subst (λ (x : Changes). IsUntold c.args.json x) (sym t.begun) c.in_ok-untold.ensures.untold in
    let differs = ap (λ (x : Changes). nat_lt 0 x.changed) t.is in
    let text = subst (λ (x : Changes). string_bytes c.in_ok-text.text ≡ string_bytes x.text ++ change_sums c.hook-hook.result config.bssid packets x.judged x.changed x.json) t.is c.in_ok-text.ensures.is in
    record {
      is = comparison c.args.in_force c.args.tried c.args.replay.draw config packets c.args.json t.before t.after c.hook-hook.result _ _
          (t.programs ∙ c.in_ok-tested.ensures.programs) (t.drawn ∙ c.in_ok-tested.ensures.draw) untold t.taken c.hook-hook.ensures.is differs text;
    }
