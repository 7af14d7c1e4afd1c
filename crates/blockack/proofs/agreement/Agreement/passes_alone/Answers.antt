use Rattle.std.proofs.Common.{◌≡◌, ◌+◌, ◌%◌, true, arith}
use Rattle.std.specs.Prelude.{◌==◌}
use Rattle.std.proofs.lemmas.Bool.Decides.{nat_tests}
use Rattle.blockack.specs.Ring.{held_count}
use Rattle.blockack.proofs.SlotLaws.{none_held}
use Rattle.blockack.proofs.AloneLaws.{alone_in, alone_of}
use Rattle.blockack.proofs.agreement.Agreement.passes_alone.Goals as goal

pub returns-then-self-eq0 : goal.returns-then-self-eq0
returns-then-self-eq0 g c =
    let first : c.args.number ≡ c.self.inside.start = omega (arith, c.if-number-self.true) in
    let none : c.self.inside.ring.count ≡ 0 = omega (arith, c.if-self-eq0.true) in
    let test : (c.self.inside.ring.count == 0) ≡ true = grind (arith, nat_tests) in
    let nothing : held_count c.self.inside.ring.slots ≡ 0 = omega (arith, c.self.invariant.2, none) in
    rw (← c.self.view_is) (
      λ t. alone_in c.self.inside.ring.slots c.self.inside.start c.self.inside.size c.self.invariant.0 c.args.number first c.self.inside.scoreboard (none_held c.self.inside.ring.slots ((c.args.number + 1) % 64) nothing),
      λ x. test,
    )

pub returns-else-self-eq0 : goal.returns-else-self-eq0
returns-else-self-eq0 g c =
    let first : c.args.number ≡ c.self.inside.start = omega (arith, c.if-number-self.true) in
    rw (← c.self.view_is) (
      λ t. alone_in c.self.inside.ring.slots c.self.inside.start c.self.inside.size c.self.invariant.0 c.args.number first c.self.inside.scoreboard (c.is_free.ensures.0 t),
      λ x. c.is_free.ensures.1 (alone_of c.self.inside.ring.slots c.self.inside.start c.self.inside.size c.self.invariant.0 c.args.number first c.self.inside.scoreboard x),
    )
