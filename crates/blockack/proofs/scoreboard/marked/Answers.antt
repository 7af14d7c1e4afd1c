use Rattle.blockack.proofs.ScoreboardLaws.{mark_bit, mark_fits}
use Rattle.blockack.proofs.scoreboard.marked.Goals as goal

pub returns-clause-fits : goal.returns-clause-fits
returns-clause-fits c = λ size fits within. mark_fits c.args.bits c.args.at size fits within

pub returns-clause-bits : goal.returns-clause-bits
returns-clause-bits c = λ i. mark_bit c.args.bits c.args.at i c.requires
