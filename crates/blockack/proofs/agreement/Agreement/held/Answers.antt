use Rattle.std.proofs.Common.{◌∙◌, sym, ap, arith}
use Rattle.blockack.specs.Reading.{numbers_held}
use Rattle.blockack.proofs.SlotLaws.{held_le}
use Rattle.blockack.proofs.HeldLaws.{held_in_all}
use Rattle.blockack.proofs.agreement.Agreement.held.Goals as goal

pub returns-clause-is : goal.returns-clause-is
returns-clause-is g c =
    c.from.ensures ∙ c.self.invariant.2
    ∙ sym (held_in_all c.self.inside.ring.slots c.self.inside.start c.self.invariant.0.long c.self.inside.size c.self.inside.scoreboard)
    ∙ ap (λ v. numbers_held v) c.self.view_is

pub returns-clause-fits : goal.returns-clause-fits
returns-clause-fits g c =
    omega (arith, c.from.ensures, c.self.invariant.2, c.self.invariant.0.long, held_le c.self.inside.ring.slots)
