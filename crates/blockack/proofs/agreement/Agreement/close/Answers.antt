use Rattle.std.proofs.Common.{◌∙◌, sym, ap, subst, arith}
use Rattle.blockack.specs.Reading.{Reading, EndPassesUp, numbers_held}
use Rattle.blockack.specs.Ring.{ring_at}
use Rattle.blockack.proofs.ReadingLaws.{held_seen, does_end, seen}
use Rattle.blockack.proofs.HeldLaws.{held_in_all}
use Rattle.blockack.proofs.agreement.Agreement.close.Goals as goal

pub returns-clause-passes : goal.returns-clause-passes
returns-clause-passes g c =
    let sound = c.self.invariant.0 in
    let Q : Reading g.row.F.Denot → Type 0 = λ v. EndPassesUp v c.skip-passed.new.out.items in
    subst Q c.self.view_is
    (does_end (ring_at c.self.inside.ring.slots c.self.inside.start) (seen c.self.inside.ring.slots c.self.inside.start c.self.inside.size c.self.inside.scoreboard) c.self.inside.size c.skip-passed.result c.skip-passed.new.out.items
    (held_seen c.self.inside.ring.slots c.self.inside.start c.self.inside.size c.self.inside.scoreboard) sound.past c.skip-passed.ensures.next c.skip-passed.ensures.frames)

pub returns-clause-few : goal.returns-clause-few
returns-clause-few g c =
    let held = sym (ap (λ v. numbers_held v) c.self.view_is) ∙ held_in_all c.self.inside.ring.slots c.self.inside.start c.self.invariant.0.long c.self.inside.size c.self.inside.scoreboard in
    omega (arith, held, c.skip-passed.ensures.few)
