use Rattle.std.proofs.Common.{arith, refl, ap, ◌<◌, ◌≤◌, ◌+◌, ◌%◌, ℕ, sym, ◌∙◌, subst}
use Rattle.std.proofs.lemmas.List.{nil_from_length}
use Rattle.blockack.specs.Window.{IsNextFree}
use Rattle.blockack.specs.Reading.{Reading, RequestMovesWindow, numbers_held}
use Rattle.blockack.specs.Ring.{ahead, ring_at}
use Rattle.blockack.proofs.MoveLaws.{sound_moved, short_moved}
use Rattle.blockack.proofs.ReadingLaws.{held_seen, does_move, does_stay, seen}
use Rattle.blockack.proofs.HeldLaws.{held_in_all}
use Rattle.blockack.proofs.agreement.Agreement.on_bar.Goals as goal

pub overflow_add-self : goal.overflow_add-self
overflow_add-self g c =
    let short = short_moved c.self.inside.ring.slots c.self.inside.start c.distance-ahead.result c.skip-passed.result c.if-ahead-ge-HALF.false c.skip-passed.ensures.next in
    let fits = c.self.invariant.0.start_fits in
    omega (arith, short, fits)

pub invariant_of-self-2 : goal.invariant_of-self-2
invariant_of-self-2 g c = (sound_moved c.self.inside.ring.slots c.skip-passed.new.self.slots c.self.inside.start c.self.inside.size c.distance-ahead.result c.skip-passed.result c.self.invariant.0 c.skip-passed.ensures.long c.skip-passed.ensures.next c.skip-passed.ensures.rest, c.on_request.ensures.sound, c.skip-passed.ensures.held)

pub returns-clause-window : goal.returns-clause-window
returns-clause-window g c =
    let now : Reading g.row.F.Denot = seen c.self.inside.ring.slots c.self.inside.start c.self.inside.size c.self.inside.scoreboard in
    let after : Reading g.row.F.Denot = seen c.skip-passed.new.self.slots ((c.self.inside.start + c.skip-passed.result) % 4096) c.self.inside.size c.on_request.new.self in
    let near : ahead c.self.inside.start c.args.start < 2048 = omega arith in
    let P : ℕ → Type 0 = λ m. IsNextFree (ring_at c.self.inside.ring.slots c.self.inside.start) m c.skip-passed.result in
    let Q : Reading g.row.F.Denot → Type 0 = λ v. RequestMovesWindow c.args.start v after c.skip-passed.new.out.items in
    subst Q c.self.view_is
    (does_move (ring_at c.self.inside.ring.slots c.self.inside.start) now after c.args.start c.skip-passed.result c.skip-passed.new.out.items
    (held_seen c.self.inside.ring.slots c.self.inside.start c.self.inside.size c.self.inside.scoreboard)
    c.requires.start_fits near c.self.invariant.0.front (subst P c.distance-ahead.ensures c.skip-passed.ensures.next)
    (λ i. held_seen c.skip-passed.new.self.slots ((c.self.inside.start + c.skip-passed.result) % 4096) c.self.inside.size c.on_request.new.self i ∙ c.skip-passed.ensures.rest i)
    refl c.skip-passed.ensures.frames)

pub returns-clause-scoreboard : goal.returns-clause-scoreboard
returns-clause-scoreboard g c = rw (← c.self.view_is) c.on_request.ensures.step

pub returns-then-ahead-ge-HALF-clause-window : goal.returns-then-ahead-ge-HALF-clause-window
returns-then-ahead-ge-HALF-clause-window g c =
    let now : Reading g.row.F.Denot = seen c.self.inside.ring.slots c.self.inside.start c.self.inside.size c.self.inside.scoreboard in
    let after : Reading g.row.F.Denot = seen c.self.inside.ring.slots c.self.inside.start c.self.inside.size c.on_request.new.self in
    let far : 2048 ≤ ahead c.self.inside.start c.args.start = omega arith in
    let Q : Reading g.row.F.Denot → Type 0 = λ v. RequestMovesWindow c.args.start v after c.args.out.now.items in
    subst Q c.self.view_is
    (does_stay now after c.args.start c.args.out.now.items c.requires.start_fits far
    (λ i. held_seen c.self.inside.ring.slots c.self.inside.start c.self.inside.size c.on_request.new.self i ∙ sym (held_seen c.self.inside.ring.slots c.self.inside.start c.self.inside.size c.self.inside.scoreboard i))
    refl (nil_from_length c.args.out.now.items c.requires.empty))

pub returns-then-ahead-ge-HALF-clause-scoreboard : goal.returns-then-ahead-ge-HALF-clause-scoreboard
returns-then-ahead-ge-HALF-clause-scoreboard g c = rw (← c.self.view_is) c.on_request.ensures.step

pub returns-clause-few : goal.returns-clause-few
returns-clause-few g c =
    let held = sym (ap (λ v. numbers_held v) c.self.view_is) ∙ held_in_all c.self.inside.ring.slots c.self.inside.start c.self.invariant.0.long c.self.inside.size c.self.inside.scoreboard in
    omega (arith, held, c.skip-passed.ensures.few)
