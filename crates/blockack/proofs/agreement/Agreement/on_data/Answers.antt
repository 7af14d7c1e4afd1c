use Rattle.std.proofs.Common.{arith, rules, refl, ◌≡◌, ◌≤◌, ◌+◌, ◌-◌, ◌++◌, List, ℕ, length, sym, ap, ◌∙◌, subst, true, false}
use Rattle.std.proofs.lemmas.List.{nil_from_length}
use Rattle.arrayvec.specs.ArrayVec.{array_vec_len}
use Rattle.blockack.specs.Reading.{Reading, IsWanted, DataMovesWindow, numbers_held, most_passed}
use Rattle.blockack.proofs.ReadingLaws.{held_seen, does_leave, seen}
use Rattle.blockack.proofs.HeldLaws.{room_for_one}
use Rattle.blockack.proofs.SinkLaws.{received_items}
use Rattle.blockack.proofs.agreement.Agreement.on_data.Goals as goal

pub returns-then-not-wants-clause-window : goal.returns-then-not-wants-clause-window
returns-then-not-wants-clause-window g c =
    let now : Reading g.row.F.Denot = seen c.self.inside.ring.slots c.self.inside.start c.self.inside.size c.self.inside.scoreboard in
    let after : Reading g.row.F.Denot = seen c.self.inside.ring.slots c.self.inside.start c.self.inside.size c.on_data.new.self in
    let P : Reading g.row.F.Denot → Type 0 = λ v. IsWanted v c.args.number → ⊥ in
    let not : IsWanted now c.args.number → ⊥ = subst P (sym c.self.view_is) (λ w. let t : c.wants.result ≡ true = c.wants.ensures.reading.1 w in let f = c.if-not-wants.true in cc) in
    let Q : Reading g.row.F.Denot → Type 0 = λ v. DataMovesWindow false c.args.number c.args.item v after c.args.out.now.items in
    subst Q c.self.view_is
    (does_leave now after c.args.number c.args.item c.args.out.now.items c.requires.number_fits not
    (λ i. held_seen c.self.inside.ring.slots c.self.inside.start c.self.inside.size c.on_data.new.self i ∙ sym (held_seen c.self.inside.ring.slots c.self.inside.start c.self.inside.size c.self.inside.scoreboard i))
    refl (nil_from_length c.args.out.now.items c.requires.empty))

pub returns-then-not-wants-clause-scoreboard : goal.returns-then-not-wants-clause-scoreboard
returns-then-not-wants-clause-scoreboard g c = rw (← c.self.view_is) c.on_data.ensures.step

pub pass_to-requires : goal.pass_to-requires
pass_to-requires g c =
    let t : c.wants.result ≡ true = search rules in
    let wanted = c.wants.ensures.reading.0 t in
    let one = room_for_one c.self.inside.ring.slots c.self.inside.start c.self.inside.size c.self.inside.scoreboard c.self.invariant.0 in
    let room : numbers_held c.args.self.now + 1 ≤ 64 - array_vec_len c.args.out.now = omega (arith, ap (λ v. numbers_held v) c.self.view_is, one, c.requires.empty) in
    search rules

-- the list has the frames that were passed up
items_are : (g : _) (c : goal.After-pass_to g) → c.pass_to.new.out.items ≡ c.pass_to.ensures.window.passed
items_are g c =
    received_items (λ v. v.items) _ (λ v w n f e. e) c.pass_to.ensures.window.passed c.args.out.now c.pass_to.new.out c.pass_to.ensures.window.received
    ∙ ap (λ xs. xs ++ c.pass_to.ensures.window.passed) (nil_from_length c.args.out.now.items c.requires.empty)

pub returns-clause-window : goal.returns-clause-window
returns-clause-window g c =
    subst (λ (xs : List (ℕ × g.row.F.Denot)). DataMovesWindow true c.args.number c.args.item c.args.self.now c.pass_to.new.self xs) (sym (items_are g c)) c.pass_to.ensures.window.moves

pub returns-clause-few : goal.returns-clause-few
returns-clause-few g c =
    subst (λ (xs : List (ℕ × g.row.F.Denot)). length xs ≤ most_passed c.args.self.now c.args.number) (sym (items_are g c)) c.pass_to.ensures.window.few
