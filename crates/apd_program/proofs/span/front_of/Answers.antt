use Rattle.apd_program.proofs.Fronts.{joined}
use Rattle.apd_program.proofs.span.front_of.Goals as goal

pub returns : goal.returns
returns c =
    let split = c.in_ok-front.ensures.cases in
    record { is = (c.in_ok-front.field-0-1.now, joined _ _ _ _ split.1 split.2) }
