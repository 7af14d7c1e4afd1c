use Rattle.std.proofs.Common.{◌≡◌, ◌+◌, ◌%◌, ◌<◌, ◌≤◌, ◌++◌, ◌⊎◌, inl, inr, ⊎_elim, length, None, Some, get_or, rules, arith, refl, sym, ap, subst, ◌∙◌, zero-add}
use Rattle.std.specs.Prelude.{IsSome, is_some, slice_set}
use Rattle.std.proofs.lemmas.List.{length-set}
use Rattle.blockack.specs.Passed.{frame_of}
use Rattle.blockack.specs.Ring.{ring_at, held_count, gathered}
use Rattle.blockack.specs.Sinks.{ReceivesAll}
use Rattle.blockack.proofs.SlotLaws.{gathered_none, ring_step, held_set, read_is, mod_next, weight, front_is, some_below, none_from, full_more, gathered_next, held_less, few_more}
use Rattle.blockack.proofs.SinkLaws.{received_frame, received_none}
use Rattle.blockack.proofs.ring.Ring.advance.Goals as goal
use Rattle.blockack.proofs.ring.Ring.advance.Goals.{in-Some-Some, in-Some-None, in-None, then-moved-least, else-moved-least+then-is_some}

pub offset_bounds-self-at-in-loop-moved : goal.offset_bounds-self-at-in-loop-moved
offset_bounds-self-at-in-loop-moved g c = let lt : c.loop-moved.at % 64 < 64 = omega arith in search rules

pub loop-moved-init : goal.loop-moved-init
loop-moved-init g c =
    record {
      bound = omega arith;
      at = omega arith;
      len = search rules;
      full = λ k h lt. absurd (omega arith);
      rest = λ i. ap (ring_at c.args.self.now.slots c.args.start) (sym (zero-add i));
      frames = subst (λ xs. ReceivesAll g.S.Sink.receives c.args.out.now xs c.args.out.now) (sym (gathered_none (ring_at c.args.self.now.slots c.args.start) c.args.start)) refl;
      held = c.requires.held;
      room = omega arith;
      few = (let none = ap length (gathered_none (ring_at c.args.self.now.slots c.args.start) c.args.start) in omega (arith, none));
    }

-- a slot that is emptied is one of those held
pub receive-requires-clause-capacity : goal.receive-requires-clause-capacity
receive-requires-clause-capacity g c =
    let lt : c.loop-moved.at % 64 < length c.loop-moved.self.slots = omega arith in
    let here : get_or c.loop-moved.self.slots (c.loop-moved.at % 64) None ≡ c.take.result = read_is c.loop-moved.self.slots (c.loop-moved.at % 64) c.index-self-at-in-loop-moved.result lt c.index-self-at-in-loop-moved.is ∙ c.index-self-at-in-loop-moved.is ∙ sym c.take.ensures.value in
    let one : weight (get_or c.loop-moved.self.slots (c.loop-moved.at % 64) None) ≡ 1 = ap weight (here ∙ c.in-Some-Some.is) in
    let count = held_set c.loop-moved.self.slots (c.loop-moved.at % 64) None lt in
    omega (arith, count, one, c.loop-moved.invariant.room, c.requires.room)

pub overflow_sub-self : goal.overflow_sub-self
overflow_sub-self g c =
    let lt : c.loop-moved.at % 64 < length c.loop-moved.self.slots = omega arith in
    let here : get_or c.loop-moved.self.slots (c.loop-moved.at % 64) None ≡ c.take.result = read_is c.loop-moved.self.slots (c.loop-moved.at % 64) c.index-self-at-in-loop-moved.result lt c.index-self-at-in-loop-moved.is ∙ c.index-self-at-in-loop-moved.is ∙ sym c.take.ensures.value in
    let one : weight (get_or c.loop-moved.self.slots (c.loop-moved.at % 64) None) ≡ 1 = ap weight (here ∙ c.in-Some-Some.is) in
    let count = held_set c.loop-moved.self.slots (c.loop-moved.at % 64) None lt in
    omega (arith, count, one, c.loop-moved.invariant.held)

pub overflow_sub-self-in-Some-None : goal.overflow_sub-self-in-Some-None
overflow_sub-self-in-Some-None g c =
    let lt : c.loop-moved.at % 64 < length c.loop-moved.self.slots = omega arith in
    let here : get_or c.loop-moved.self.slots (c.loop-moved.at % 64) None ≡ c.take.result = read_is c.loop-moved.self.slots (c.loop-moved.at % 64) c.index-self-at-in-loop-moved.result lt c.index-self-at-in-loop-moved.is ∙ c.index-self-at-in-loop-moved.is ∙ sym c.take.ensures.value in
    let one : weight (get_or c.loop-moved.self.slots (c.loop-moved.at % 64) None) ≡ 1 = ap weight (here ∙ c.in-Some-None.is) in
    let count = held_set c.loop-moved.self.slots (c.loop-moved.at % 64) None lt in
    omega (arith, count, one, c.loop-moved.invariant.held)

-- the loop goes on for one of two reasons
goes : (g : _) (c : goal.Joined-take g) → (c.loop-moved.moved < c.args.least) ⊎ IsSome (ring_at c.args.self.now.slots c.args.start c.loop-moved.moved)
goes g c =
    let front = front_is c.loop-moved.self.slots c.args.self.now.slots c.loop-moved.at c.args.start c.loop-moved.moved c.loop-moved.invariant.rest in
    let lt : c.loop-moved.at % 64 < length c.loop-moved.self.slots = omega arith in
    elim c.if-moved-least.branch [
      | then-moved-least w ↦ inl w.if-moved-least.true
      | else-moved-least+then-is_some w ↦ inr (ap is_some (front ∙ read_is c.loop-moved.self.slots (c.loop-moved.at % 64) w.index-self-at.result lt w.index-self-at.is ∙ w.index-self-at.is) ∙ sym w.is_some.ensures ∙ w.if-is_some.true)
    ]

-- the slots after this iteration
slots_are : (g : _) (c : goal.Joined-take g) → c.match-take.self.slots ≡ slice_set c.loop-moved.self.slots (c.loop-moved.at % 64) c.take.new.self
slots_are g c =
    elim c.match-take.branch [
      | in-Some-Some w ↦ ap (λ v. v.slots) w.self-is
      | in-Some-None w ↦ ap (λ v. v.slots) w.self-is
      | in-None w ↦ ap (λ v. v.slots) w.self-is
    ]

here : (g : _) (c : goal.Joined-take g) → get_or c.loop-moved.self.slots (c.loop-moved.at % 64) None ≡ c.take.result
here g c =
    let lt : c.loop-moved.at % 64 < length c.loop-moved.self.slots = omega arith in
    read_is c.loop-moved.self.slots (c.loop-moved.at % 64) c.index-self-at-in-loop-moved.result lt c.index-self-at-in-loop-moved.is ∙ c.index-self-at-in-loop-moved.is ∙ sym c.take.ensures.value

less : (g : _) (c : goal.Joined-take g) → held_count (slice_set c.loop-moved.self.slots (c.loop-moved.at % 64) c.take.new.self) + weight c.take.result ≡ held_count c.loop-moved.self.slots
less g c =
    let lt : c.loop-moved.at % 64 < length c.loop-moved.self.slots = omega arith in
    held_less c.loop-moved.self.slots (c.loop-moved.at % 64) c.take.result c.take.new.self lt (here g c) c.take.ensures.after

-- what this iteration passes to the sink
receives : (g : _) (c : goal.Joined-take g) →
    ReceivesAll g.S.Sink.receives c.args.out.now (gathered (ring_at c.args.self.now.slots c.args.start) c.args.start c.loop-moved.moved ++ frame_of c.loop-moved.at c.take.result) c.match-take.out
receives g c =
    let first = gathered (ring_at c.args.self.now.slots c.args.start) c.args.start c.loop-moved.moved in
    elim c.match-take.branch [
      | in-Some-Some w ↦
          received_frame g.S.Sink.receives first c.args.out.now c.loop-moved.out w.receive.new.self c.match-take.out c.loop-moved.at c.take.result w.in-Some-Some.frame c.loop-moved.invariant.frames
          (w.in-Some-Some.is ∙ ap Some w.in-Some-Some.field-0-is) w.receive.ensures.frame w.out-is
      | in-Some-None w ↦
          received_none g.S.Sink.receives first c.args.out.now c.loop-moved.out c.match-take.out c.loop-moved.at c.take.result c.loop-moved.invariant.frames
          (ap (frame_of c.loop-moved.at) (w.in-Some-None.is ∙ ap Some w.in-Some-None.field-0-is)) w.out-is
      | in-None w ↦
          received_none g.S.Sink.receives first c.args.out.now c.loop-moved.out c.match-take.out c.loop-moved.at c.take.result c.loop-moved.invariant.frames
          (ap (frame_of c.loop-moved.at) w.in-None.is) w.out-is
    ]

-- how many are held after this iteration
holds : (g : _) (c : goal.Joined-take g) → c.match-take.self.count ≡ held_count (slice_set c.loop-moved.self.slots (c.loop-moved.at % 64) c.take.new.self)
holds g c =
    let less = less g c in
    let before = c.loop-moved.invariant.held in
    elim c.match-take.branch [
      | in-Some-Some w ↦
          let one : weight c.take.result ≡ 1 = ap weight w.in-Some-Some.is in
          omega (arith, less, one, before, ap (λ v. v.count) w.self-is)
      | in-Some-None w ↦
          let one : weight c.take.result ≡ 1 = ap weight w.in-Some-None.is in
          omega (arith, less, one, before, ap (λ v. v.count) w.self-is)
      | in-None w ↦
          let none : weight c.take.result ≡ 0 = ap weight w.in-None.is in
          omega (arith, less, none, before, ap (λ v. v.count) w.self-is)
    ]

-- the sink's capacity after it
rooms : (g : _) (c : goal.Joined-take g) →
    held_count (slice_set c.loop-moved.self.slots (c.loop-moved.at % 64) c.take.new.self) + g.S.Sink.room c.args.out.now ≤ g.S.Sink.room c.match-take.out + held_count c.args.self.now.slots
rooms g c =
    let less = less g c in
    let before = c.loop-moved.invariant.room in
    elim c.match-take.branch [
      | in-Some-Some w ↦
          let one : weight c.take.result ≡ 1 = ap weight w.in-Some-Some.is in
          omega (arith, less, one, before, ap g.S.Sink.room w.out-is, w.receive.ensures.left)
      | in-Some-None w ↦ omega (arith, less, before, ap g.S.Sink.room w.out-is)
      | in-None w ↦ omega (arith, less, before, ap g.S.Sink.room w.out-is)
    ]

pub loop-moved-smaller : goal.loop-moved-smaller
loop-moved-smaller g c =
    let lt : c.loop-moved.moved < c.args.least + 64 =
    ⊎_elim (λ early. omega arith) (λ some. let below : c.loop-moved.moved < 64 = some_below c.args.self.now.slots c.args.start c.loop-moved.moved some in omega arith) (goes g c) in
    omega arith

pub loop-moved-preserved : goal.loop-moved-preserved
loop-moved-preserved g c =
    let lt : c.loop-moved.at % 64 < length c.loop-moved.self.slots = omega arith in
    let bound : c.loop-moved.moved < c.args.least + 64 =
    ⊎_elim (λ early. omega arith) (λ some. let below : c.loop-moved.moved < 64 = some_below c.args.self.now.slots c.args.start c.loop-moved.moved some in omega arith) (goes g c) in
    let here = here g c in
    let are = slots_are g c in
    let emptied : c.match-take.self.slots ≡ slice_set c.loop-moved.self.slots (c.loop-moved.at % 64) None = are ∙ ap (λ o. slice_set c.loop-moved.self.slots (c.loop-moved.at % 64) o) c.take.ensures.after in
    let front = front_is c.loop-moved.self.slots c.args.self.now.slots c.loop-moved.at c.args.start c.loop-moved.moved c.loop-moved.invariant.rest in
    let h = ring_at c.args.self.now.slots c.args.start in
    let next = gathered_next h c.args.start c.loop-moved.moved c.loop-moved.at c.take.result c.loop-moved.invariant.at (front ∙ here) in
    record {
      bound = omega arith;
      at = rw c.loop-moved.invariant.at (mod_next c.args.start c.loop-moved.moved);
      len = ap length are ∙ length-set c.loop-moved.self.slots (c.loop-moved.at % 64) c.take.new.self ∙ c.loop-moved.invariant.len;
      full = full_more h c.args.least c.loop-moved.moved c.loop-moved.invariant.full (goes g c);
      rest = λ i.
          ap (λ s. ring_at s ((c.loop-moved.at + 1) % 4096) i) emptied ∙
          ring_step c.loop-moved.self.slots c.loop-moved.at i c.loop-moved.invariant.len ∙
          c.loop-moved.invariant.rest (1 + i) ∙
          ap (ring_at c.args.self.now.slots c.args.start) (let e : c.loop-moved.moved + (1 + i) ≡ c.loop-moved.moved + 1 + i = omega arith in e);
      frames = subst (λ xs. ReceivesAll g.S.Sink.receives c.args.out.now xs c.match-take.out) next (receives g c);
      held = holds g c ∙ sym (ap (λ s. held_count s) are);
      room = subst (λ s. held_count s + g.S.Sink.room c.args.out.now ≤ g.S.Sink.room c.match-take.out + held_count c.args.self.now.slots) (sym are) (rooms g c);
      few = subst (λ s. length (gathered h c.args.start (c.loop-moved.moved + 1)) + held_count s ≤ held_count c.args.self.now.slots) (sym are)
          (few_more c.loop-moved.self.slots (c.loop-moved.at % 64) c.loop-moved.at (held_count c.args.self.now.slots) c.take.result c.take.new.self (gathered h c.args.start c.loop-moved.moved) (gathered h c.args.start (c.loop-moved.moved + 1)) lt here c.take.ensures.after (sym next) c.loop-moved.invariant.few);
    }

pub returns-clause-next : goal.returns-clause-next
returns-clause-next g c =
    let front = front_is c.loop-moved.self.slots c.args.self.now.slots c.loop-moved.at c.args.start c.loop-moved.moved c.loop-moved.invariant.rest in
    let lt : c.loop-moved.at % 64 < length c.loop-moved.self.slots = omega arith in
    record {
      above = c.if-moved-least.false;
      free = none_from (ring_at c.args.self.now.slots c.args.start c.loop-moved.moved) (ap is_some (front ∙ read_is c.loop-moved.self.slots (c.loop-moved.at % 64) c.index-self-at.result lt c.index-self-at.is ∙ c.index-self-at.is) ∙ sym c.is_some.ensures ∙ c.if-is_some.false);
      full = c.loop-moved.invariant.full;
    }
