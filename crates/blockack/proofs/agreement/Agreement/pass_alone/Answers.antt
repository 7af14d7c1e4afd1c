use Rattle.std.proofs.Common.{◌≡◌, ◌+◌, ◌%◌, Option, sym, ap, ◌∙◌, subst, None, Some, true, ℕ}
use Rattle.blockack.specs.Reading.{Reading, IsAlone, DataMovesWindow}
use Rattle.blockack.specs.Passed.{frame_of}
use Rattle.blockack.specs.Ring.{ring_at, IsSoundRing}
use Rattle.blockack.proofs.MoveLaws.{sound_after}
use Rattle.blockack.proofs.ReadingLaws.{held_seen, does_take, seen}
use Rattle.blockack.proofs.AloneLaws.{alone_next, alone_rest, alone_frames}
use Rattle.blockack.proofs.agreement.Agreement.pass_alone.Goals as goal

pub invariant_of-self : goal.invariant_of-self
invariant_of-self g c =
    let P : Reading g.row.F.Denot → Type 0 = λ v. IsAlone v c.args.number in
    let alone = subst P (sym c.self.view_is) c.requires.alone in
    let behind : ring_at c.self.inside.ring.slots c.self.inside.start 1 ≡ None = sym (held_seen c.self.inside.ring.slots c.self.inside.start c.self.inside.size c.self.inside.scoreboard 1) ∙ alone.next in
    let first : c.args.number ≡ c.self.inside.start = alone.first in
    let e : (c.self.inside.start + 1) % 4096 ≡ (c.args.number + 1) % 4096 = ap (λ n. (n + 1) % 4096) (sym first) in
    let none : Option g.row.F.Denot = None in
    let R : ℕ → Type 0 = λ s. IsSoundRing c.self.inside.ring.slots s c.self.inside.size in (
      subst R e (sound_after c.self.inside.ring.slots c.self.inside.ring.slots c.self.inside.start c.self.inside.size c.args.number 1 none c.self.invariant.0 c.self.invariant.0.long
          (alone_next c.self.inside.ring.slots c.self.inside.start c.self.inside.size c.self.invariant.0 c.args.number first none behind)
          (alone_rest c.self.inside.ring.slots c.self.inside.start c.self.inside.size c.self.invariant.0 c.args.number first none)),
      c.on_data.ensures.sound,
      c.self.invariant.2,
    )

pub returns-clause-window : goal.returns-clause-window
returns-clause-window g c = λ item.
    let P : Reading g.row.F.Denot → Type 0 = λ v. IsAlone v c.args.number in
    let alone = subst P (sym c.self.view_is) c.requires.alone in
    let behind : ring_at c.self.inside.ring.slots c.self.inside.start 1 ≡ None = sym (held_seen c.self.inside.ring.slots c.self.inside.start c.self.inside.size c.self.inside.scoreboard 1) ∙ alone.next in
    let first : c.args.number ≡ c.self.inside.start = alone.first in
    let e : (c.args.number + 1) % 4096 ≡ (c.self.inside.start + 1) % 4096 = ap (λ n. (n + 1) % 4096) first in
    let now : Reading g.row.F.Denot = seen c.self.inside.ring.slots c.self.inside.start c.self.inside.size c.self.inside.scoreboard in
    let after : Reading g.row.F.Denot = seen c.self.inside.ring.slots ((c.args.number + 1) % 4096) c.self.inside.size c.on_data.new.self in
    let Q : Reading g.row.F.Denot → Type 0 = λ v. DataMovesWindow true c.args.number item v after (frame_of c.args.number (Some item)) in
    subst Q c.self.view_is
    (does_take (ring_at c.self.inside.ring.slots c.self.inside.start) now after c.args.number 1 item (frame_of c.args.number (Some item))
    (held_seen c.self.inside.ring.slots c.self.inside.start c.self.inside.size c.self.inside.scoreboard)
    c.requires.number_fits c.self.invariant.0.some_size alone.wanted
    (alone_next c.self.inside.ring.slots c.self.inside.start c.self.inside.size c.self.invariant.0 c.args.number first item behind)
    (λ i. held_seen c.self.inside.ring.slots ((c.args.number + 1) % 4096) c.self.inside.size c.on_data.new.self i ∙ ap (λ s. ring_at c.self.inside.ring.slots s i) e ∙ alone_rest c.self.inside.ring.slots c.self.inside.start c.self.inside.size c.self.invariant.0 c.args.number first item i)
    e (alone_frames c.self.inside.ring.slots c.self.inside.start c.self.inside.size c.self.invariant.0 c.args.number first item))
