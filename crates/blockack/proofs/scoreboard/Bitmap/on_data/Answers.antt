use Rattle.std.proofs.Common.{arith, ◌≡◌, ◌+◌, ◌-◌, ap, ◌∙◌, cond}
use Rattle.std.specs.Prelude.{◌==◌}
use Rattle.std.specs.Int.{bit_at}
use Rattle.blockack.specs.Ring.{ahead}
use Rattle.blockack.proofs.ScoreboardLaws.{data_marks}
use Rattle.blockack.proofs.scoreboard.Bitmap.on_data.Goals as goal

pub returns-clause-step : goal.returns-clause-step
returns-clause-step c =
    let by : c.saturating_sub-by.result ≡ ahead c.args.self.now.start c.args.number + 1 - c.args.size = omega arith in
    data_marks c.args.self.now.start c.args.self.now.bits c.args.size c.args.number c.saturating_sub-by.result c.marked-self.result c.requires.number_fits c.requires.some_size (omega arith) by
    (λ i. c.marked-self.ensures.bits i ∙ ap (λ x. cond (i == x - c.saturating_sub-by.result) 1 (bit_at c.shifted.result i)) c.distance-ahead.ensures ∙ ap (λ b. cond (i == ahead c.args.self.now.start c.args.number - c.saturating_sub-by.result) 1 b) (c.shifted.ensures.bits i))
