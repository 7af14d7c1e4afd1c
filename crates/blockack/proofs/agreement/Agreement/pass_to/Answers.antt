use Rattle.std.proofs.Common.{arith, rules, refl, ◌≡◌, ◌≤◌, ◌+◌, ◌%◌, sym, ap, ◌∙◌, subst, None}
use Rattle.blockack.specs.Reading.{Reading, IsWanted, numbers_held}
use Rattle.blockack.specs.Ring.{ahead, ring_at, held_count, gathered, stored}
use Rattle.blockack.specs.Sinks.{DataPassesTo}
use Rattle.blockack.proofs.MoveLaws.{sound_after, short_after}
use Rattle.blockack.proofs.ReadingLaws.{held_seen, does_take, seen}
use Rattle.blockack.proofs.HeldLaws.{few_passed, held_in_all}
use Rattle.blockack.proofs.agreement.Agreement.pass_to.Goals as goal

pub store-passed-requires : goal.store-passed-requires
store-passed-requires g c =
    let now : Reading g.row.F.Denot = seen c.self.inside.ring.slots c.self.inside.start c.self.inside.size c.self.inside.scoreboard in
    let P : Reading g.row.F.Denot → Type 0 = λ v. IsWanted v c.args.number in
    let wanted : IsWanted now c.args.number = subst P (sym c.self.view_is) c.requires.wanted in
    let near = wanted.near in
    let free : ring_at c.self.inside.ring.slots c.self.inside.start (ahead c.self.inside.start c.args.number) ≡ None =
    sym (held_seen c.self.inside.ring.slots c.self.inside.start c.self.inside.size c.self.inside.scoreboard (ahead c.self.inside.start c.args.number)) ∙ wanted.free in
    let sound = c.self.invariant.0 in
    let held = c.self.invariant.2 in
    let all = sym (ap (λ v. numbers_held v) c.self.view_is) ∙ held_in_all c.self.inside.ring.slots c.self.inside.start sound.long c.self.inside.size c.self.inside.scoreboard in
    let room : held_count c.self.inside.ring.slots + 1 ≤ g.S.Sink.room c.args.out.now = omega (arith, all, c.requires.room) in
    search rules

pub overflow_add-self : goal.overflow_add-self
overflow_add-self g c =
    let now : Reading g.row.F.Denot = seen c.self.inside.ring.slots c.self.inside.start c.self.inside.size c.self.inside.scoreboard in
    let P : Reading g.row.F.Denot → Type 0 = λ v. IsWanted v c.args.number in
    let wanted : IsWanted now c.args.number = subst P (sym c.self.view_is) c.requires.wanted in
    let short = short_after c.self.inside.ring.slots c.self.inside.start c.self.inside.size c.args.number c.store-passed.result c.args.item c.self.invariant.0 wanted.near c.store-passed.ensures.next in
    let fits = c.self.invariant.0.start_fits in
    omega (arith, short, fits)

pub invariant_of-self : goal.invariant_of-self
invariant_of-self g c = (
  sound_after c.self.inside.ring.slots c.store-passed.new.self.slots c.self.inside.start c.self.inside.size c.args.number c.store-passed.result c.args.item c.self.invariant.0 c.store-passed.ensures.long c.store-passed.ensures.next c.store-passed.ensures.rest,
  c.on_data.ensures.sound,
  c.store-passed.ensures.held,
)

pub returns-clause-window : goal.returns-clause-window
returns-clause-window g c =
    let slots = c.self.inside.ring.slots in
    let start = c.self.inside.start in
    let size = c.self.inside.size in
    let now : Reading g.row.F.Denot = seen slots start size c.self.inside.scoreboard in
    let after : Reading g.row.F.Denot = seen c.store-passed.new.self.slots ((start + c.store-passed.result) % 4096) size c.on_data.new.self in
    let passed = gathered (stored slots start c.args.number c.args.item) start c.store-passed.result in
    let P : Reading g.row.F.Denot → Type 0 = λ v. IsWanted v c.args.number in
    let wanted : IsWanted now c.args.number = subst P (sym c.self.view_is) c.requires.wanted in
    let Q : Reading g.row.F.Denot → Type 0 = λ v. DataPassesTo g.S.Sink.receives c.args.number c.args.item v after c.args.out.now c.store-passed.new.out in
    subst Q c.self.view_is
    (record {
      passed = passed;
      moves =
          does_take (ring_at slots start) now after c.args.number c.store-passed.result c.args.item passed
          (held_seen slots start size c.self.inside.scoreboard) c.requires.number_fits c.self.invariant.0.some_size wanted c.store-passed.ensures.next
          (λ i. held_seen c.store-passed.new.self.slots ((start + c.store-passed.result) % 4096) size c.on_data.new.self i ∙ c.store-passed.ensures.rest i)
          refl refl;
      few =
          few_passed slots start size c.args.number c.args.item c.self.invariant.0 c.self.inside.scoreboard c.store-passed.result passed
          c.store-passed.ensures.next refl c.store-passed.ensures.few;
      received = c.store-passed.ensures.frames;
    })

pub returns-clause-scoreboard : goal.returns-clause-scoreboard
returns-clause-scoreboard g c = rw (← c.self.view_is) c.on_data.ensures.step
