use Rattle.std.proofs.Common.{arith, refl, ◌<◌, ◌≤◌, true}
use Rattle.blockack.specs.Ring.{ahead}
use Rattle.blockack.proofs.ReadingLaws.{wants_law, wanted_in, free_in}
use Rattle.blockack.proofs.agreement.Agreement.wants.Goals as goal

pub returns-then-ahead-self-clause-reading : goal.returns-then-ahead-self-clause-reading
returns-then-ahead-self-clause-reading g c =
    let near : ahead c.self.inside.start c.args.number < 2048 = omega arith in
    let far : c.self.inside.size ≤ ahead c.self.inside.start c.args.number = omega arith in
    let w = wanted_in c.self.inside.ring.slots c.self.inside.start c.self.inside.size c.self.inside.scoreboard c.args.number c.self.invariant.0 c.requires near (λ lt. absurd (omega arith)) in
    rw (← c.self.view_is) (λ t. w, λ x. refl)

pub returns-then-ahead-self-clause-window : goal.returns-then-ahead-self-clause-window
returns-then-ahead-self-clause-window g c = wants_law c.args.self.now c.args.number true c.requires (returns-then-ahead-self-clause-reading g c)

pub returns-clause-reading : goal.returns-clause-reading
returns-clause-reading g c =
    let near : ahead c.self.inside.start c.args.number < 2048 = omega arith in
    let lt : ahead c.self.inside.start c.args.number < c.self.inside.size = omega arith in
    rw (← c.self.view_is) (
      λ t. wanted_in c.self.inside.ring.slots c.self.inside.start c.self.inside.size c.self.inside.scoreboard c.args.number c.self.invariant.0 c.requires near (λ l. c.is_free.ensures.0 t),
      λ x. c.is_free.ensures.1 (free_in c.self.inside.ring.slots c.self.inside.start c.self.inside.size c.self.inside.scoreboard c.args.number c.self.invariant.0 c.requires lt x),
    )

pub returns-clause-window : goal.returns-clause-window
returns-clause-window g c = wants_law c.args.self.now c.args.number c.is_free.result c.requires (returns-clause-reading g c)
