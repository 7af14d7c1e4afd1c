use Rattle.std.proofs.Common.{◌≡◌, ℕ, ◌+◌, ◌-◌, ◌%◌, ◌<◌, ◌≤◌, ◌++◌, Option, List, length, length-append, None, arith, rules, sym, ap, ◌∙◌, subst}
use Rattle.blockack.specs.Window.{IsNextFree, with_item}
use Rattle.blockack.specs.Ring.{ring_at, held_count, gathered, ahead, stored, IsSoundRing}
use Rattle.blockack.specs.Sinks.{ReceivesAll}
use Rattle.blockack.proofs.MoveLaws.{Between, between, run_short, both_next, both_gathered}
use Rattle.blockack.proofs.SinkLaws.{received_both}
use Rattle.blockack.proofs.ring.Ring.store.Goals as goal

module _ {F : Type 0} (slots slots1 : List (Option (Option F))) (start size number least j : ℕ) (item : Option F) (sound : IsSoundRing slots start size) (fits : number < 4096)
    (is : least ≡ ahead start number + 1 - size) (next : IsNextFree (ring_at slots start) least j) where
  -- the first move is as far as the item needs
  next_is : IsNextFree (ring_at slots start) (ahead start number + 1 - size) j
  next_is = let P : ℕ → Type 0 = λ m. IsNextFree (ring_at slots start) m j in subst P is next

  -- the ring after it, and the item's slot there
  facts_of : length slots1 ≡ 64 → ring_at slots start (ahead start number) ≡ None → ((i : ℕ) → ring_at slots1 ((start + j) % 4096) i ≡ ring_at slots start (j + i)) → Between slots slots1 start size number j item
  facts_of len free rest = between slots slots1 start size number j item sound.start_fits fits sound.some_size sound.size_fits len free next_is rest

pub put-requires : goal.put-requires
put-requires g c =
    let least = c.saturating_sub-least.ensures ∙ ap (λ x. x + 1 - c.args.size) c.distance.ensures in
    let first = c.advance-passed.ensures in
    let facts =
    facts_of c.args.self.now.slots c.advance-passed.new.self.slots c.args.start c.args.size c.args.number c.saturating_sub-least.result c.advance-passed.result c.args.item
    c.requires.sound c.requires.number_fits least first.next first.long c.requires.free first.rest in
    let free = facts.free in
    let held = first.held in
    search rules

pub advance-requires : goal.advance-requires
advance-requires g c =
    let start : (c.args.start + c.advance-passed.result) % 4096 < 4096 = omega arith in
    let held = c.put.ensures.held in
    let room : held_count c.put.new.self.slots ≤ g.S.Sink.room c.advance-passed.new.out = omega (arith, c.put.ensures.more, c.advance-passed.ensures.room, c.requires.room) in
    search rules

first_next : (g : _) (c : goal.After-advance g) → IsNextFree (ring_at c.args.self.now.slots c.args.start) (ahead c.args.start c.args.number + 1 - c.args.size) c.advance-passed.result
first_next g c =
    let least = c.saturating_sub-least.ensures ∙ ap (λ x. x + 1 - c.args.size) c.distance.ensures in
    next_is c.args.self.now.slots c.advance-passed.new.self.slots c.args.start c.args.size c.args.number c.saturating_sub-least.result c.advance-passed.result c.args.item
    c.requires.sound c.requires.number_fits least c.advance-passed.ensures.next

facts : (g : _) (c : goal.After-advance g) → Between c.args.self.now.slots c.advance-passed.new.self.slots c.args.start c.args.size c.args.number c.advance-passed.result c.args.item
facts g c =
    let least = c.saturating_sub-least.ensures ∙ ap (λ x. x + 1 - c.args.size) c.distance.ensures in
    let first = c.advance-passed.ensures in
    facts_of c.args.self.now.slots c.advance-passed.new.self.slots c.args.start c.args.size c.args.number c.saturating_sub-least.result c.advance-passed.result c.args.item
    c.requires.sound c.requires.number_fits least first.next first.long c.requires.free first.rest

-- the ring after the item was stored
put_is : (g : _) (c : goal.After-advance g) (i : ℕ) → ring_at c.put.new.self.slots ((c.args.start + c.advance-passed.result) % 4096) i ≡ stored c.args.self.now.slots c.args.start c.args.number c.args.item (c.advance-passed.result + i)
put_is g c i = ap (λ s. ring_at s ((c.args.start + c.advance-passed.result) % 4096) i) c.put.ensures.slots ∙ (facts g c).put i

pub overflow_add-result : goal.overflow_add-result
overflow_add-result g c =
    let before = (facts g c).before in
    let short : c.advance.result ≤ 64 = run_short _ _ c.advance.result c.advance.ensures.next in
    omega (arith, before, short)

pub returns-clause-next : goal.returns-clause-next
returns-clause-next g c =
    both_next (ring_at c.args.self.now.slots c.args.start) _ (ahead c.args.start c.args.number + 1 - c.args.size) (ahead c.args.start c.args.number) c.advance-passed.result c.advance.result c.args.item
    (first_next g c) (put_is g c) c.advance.ensures.next

pub returns-clause-rest : goal.returns-clause-rest
returns-clause-rest g c = λ i.
    let e : ((c.args.start + c.advance-passed.result) % 4096 + c.advance.result) % 4096 ≡ (c.args.start + (c.advance-passed.result + c.advance.result)) % 4096 = omega arith in
    let a : c.advance-passed.result + (c.advance.result + i) ≡ c.advance-passed.result + c.advance.result + i = omega arith in
    ap (λ x. ring_at c.advance.new.self.slots x i) (sym e) ∙ c.advance.ensures.rest i ∙ put_is g c (c.advance.result + i) ∙ ap (with_item (ring_at c.args.self.now.slots c.args.start) (ahead c.args.start c.args.number) c.args.item) a

-- all frames: those of the first move, then those of the second
frames_are : (g : _) (c : goal.After-advance g) →
    gathered (stored c.args.self.now.slots c.args.start c.args.number c.args.item) c.args.start (c.advance-passed.result + c.advance.result)
    ≡ gathered (ring_at c.args.self.now.slots c.args.start) c.args.start c.advance-passed.result
    ++ gathered (ring_at c.put.new.self.slots ((c.args.start + c.advance-passed.result) % 4096)) ((c.args.start + c.advance-passed.result) % 4096) c.advance.result
frames_are g c =
    both_gathered (ring_at c.args.self.now.slots c.args.start) _ c.args.start (ahead c.args.start c.args.number) c.advance-passed.result c.advance.result c.args.item (facts g c).before (put_is g c)

pub returns-clause-frames : goal.returns-clause-frames
returns-clause-frames g c =
    let first = gathered (ring_at c.args.self.now.slots c.args.start) c.args.start c.advance-passed.result in
    let more = gathered (ring_at c.put.new.self.slots ((c.args.start + c.advance-passed.result) % 4096)) ((c.args.start + c.advance-passed.result) % 4096) c.advance.result in
    subst (λ xs. ReceivesAll g.S.Sink.receives c.args.out.now xs c.advance.new.out) (sym (frames_are g c))
    (received_both g.S.Sink.receives first more c.args.out.now c.advance-passed.new.out c.advance.new.out c.advance-passed.ensures.frames c.advance.ensures.frames)

pub returns-clause-few : goal.returns-clause-few
returns-clause-few g c =
    let first = gathered (ring_at c.args.self.now.slots c.args.start) c.args.start c.advance-passed.result in
    let more = gathered (ring_at c.put.new.self.slots ((c.args.start + c.advance-passed.result) % 4096)) ((c.args.start + c.advance-passed.result) % 4096) c.advance.result in
    omega (arith, ap length (frames_are g c), length-append first more, c.advance-passed.ensures.few, c.put.ensures.more, c.advance.ensures.few)
