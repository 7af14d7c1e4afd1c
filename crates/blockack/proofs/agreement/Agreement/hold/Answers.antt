use Rattle.std.proofs.Common.{arith, rules, [], zero-add, sym, ap, ◌∙◌, subst, true}
use Rattle.blockack.specs.Window.{with_item}
use Rattle.blockack.specs.Reading.{Reading, IsWaiting, DataMovesWindow}
use Rattle.blockack.specs.Ring.{ahead, ring_at}
use Rattle.blockack.proofs.SlotLaws.{gathered_none}
use Rattle.blockack.proofs.ReadingLaws.{held_seen, does_take, free_in, seen}
use Rattle.blockack.proofs.HeldLaws.{waits_within, waits_free, waiting_ring, waiting_sound}
use Rattle.blockack.proofs.agreement.Agreement.hold.Goals as goal

pub put-requires : goal.put-requires
put-requires g c =
    let now : Reading g.row.F.Denot = seen c.self.inside.ring.slots c.self.inside.start c.self.inside.size c.self.inside.scoreboard in
    let P : Reading g.row.F.Denot → Type 0 = λ v. IsWaiting v c.args.number in
    let waits : IsWaiting now c.args.number = subst P (sym c.self.view_is) c.requires.waits in
    let within = (waits_within now c.args.number waits.none).1 in
    let free = free_in c.self.inside.ring.slots c.self.inside.start c.self.inside.size c.self.inside.scoreboard c.args.number c.self.invariant.0 c.requires.number_fits within waits.wanted in
    let held = c.self.invariant.2 in
    search rules

pub invariant_of-self : goal.invariant_of-self
invariant_of-self g c =
    let now : Reading g.row.F.Denot = seen c.self.inside.ring.slots c.self.inside.start c.self.inside.size c.self.inside.scoreboard in
    let P : Reading g.row.F.Denot → Type 0 = λ v. IsWaiting v c.args.number in
    let waits : IsWaiting now c.args.number = subst P (sym c.self.view_is) c.requires.waits in
    let both = waits_within now c.args.number waits.none in (
      waiting_sound c.self.inside.ring.slots c.self.inside.start c.self.inside.size c.args.number c.args.item c.self.invariant.0 c.put.new.self.slots c.requires.number_fits c.put.ensures.slots both.0 both.1,
      c.on_data.ensures.sound,
      c.put.ensures.held,
    )

pub returns-clause-window : goal.returns-clause-window
returns-clause-window g c =
    let slots = c.self.inside.ring.slots in
    let start = c.self.inside.start in
    let size = c.self.inside.size in
    let fits = c.self.invariant.0.start_fits in
    let now : Reading g.row.F.Denot = seen slots start size c.self.inside.scoreboard in
    let after : Reading g.row.F.Denot = seen c.put.new.self.slots start size c.on_data.new.self in
    let P : Reading g.row.F.Denot → Type 0 = λ v. IsWaiting v c.args.number in
    let waits : IsWaiting now c.args.number = subst P (sym c.self.view_is) c.requires.waits in
    let both = waits_within now c.args.number waits.none in
    let items = with_item (ring_at slots start) (ahead start c.args.number) c.args.item in
    let Q : Reading g.row.F.Denot → Type 0 = λ v. DataMovesWindow true c.args.number c.args.item v after [] in
    subst Q c.self.view_is
    (does_take (ring_at slots start) now after c.args.number 0 c.args.item []
    (held_seen slots start size c.self.inside.scoreboard) c.requires.number_fits c.self.invariant.0.some_size waits.wanted
    (waits_free slots start size c.args.number c.args.item c.self.invariant.0 both.0 both.1)
    (λ i. held_seen c.put.new.self.slots start size c.on_data.new.self i
    ∙ waiting_ring slots start size c.args.number c.args.item c.self.invariant.0 c.put.new.self.slots c.requires.number_fits c.put.ensures.slots both.0 both.1 i
    ∙ ap items (sym (zero-add i)))
    (omega (arith, fits)) (sym (gathered_none items start)))

pub returns-clause-scoreboard : goal.returns-clause-scoreboard
returns-clause-scoreboard g c = rw (← c.self.view_is) c.on_data.ensures.step
