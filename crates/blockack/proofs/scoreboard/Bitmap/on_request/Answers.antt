use Rattle.std.proofs.Common.{arith, ◌+◌, ap, ◌∙◌}
use Rattle.std.specs.Int.{bit_at}
use Rattle.blockack.proofs.ScoreboardLaws.{request_begins}
use Rattle.blockack.proofs.scoreboard.Bitmap.on_request.Goals as goal

pub returns-clause-step : goal.returns-clause-step
returns-clause-step c =
    request_begins c.args.self.now.start c.args.self.now.bits c.args.size c.args.number c.shifted-self.result c.requires.number_fits c.requires.some_size (omega arith) (omega arith) (λ i. c.shifted-self.ensures.bits i ∙ ap (λ x. bit_at c.args.self.now.bits (x + i)) c.distance-ahead.ensures)
