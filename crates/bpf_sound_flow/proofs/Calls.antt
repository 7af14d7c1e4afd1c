-- The examinations of wide loads, calls and EXIT cover what the machine does.
use Rattle.std.proofs.Common.{◌≡◌, ◌+◌, ◌-◌, ◌<◌, ◌==◌, ℕ, List, length, All, Option, Some, None, Ok, Err, Bool, true, false, refl, sym, subst, inl, inr, slice_get, nat_lt, arith, if◌then◌else◌}
use Rattle.std.proofs.lemmas.Bool.{ltb-true, lt-ltb, eqb-true, eqb-false, cond_both}
use Rattle.std.proofs.lemmas.List.{nil_from_length}
use Rattle.std.proofs.lemmas.Option.{get_or_from_slice_get, slice_get_within, slice_get-get_or}
use Rattle.bpf_insn.specs.declared.insn.Insn.TheVariants as insn
use Rattle.bpf_insn.specs.declared.insn.Wide.{Wide}
use Rattle.bpf_insn.specs.declared.insn.Wide.TheVariants as wide
use Rattle.bpf_insn.specs.Spelled.{IsWide}
use Rattle.bpf_words.specs.Word.{word_of}
use Rattle.bpf_regions.specs.declared.memory.Value.{Value}
use Rattle.bpf_regions.specs.declared.memory.Value.TheVariants as value
use Rattle.bpf_regions.specs.declared.memory.Region.TheVariants as region
use Rattle.bpf_regions.specs.declared.maps.Shape.{Shape}
use Rattle.bpf_regions.specs.Maps.{IsShape, AreShapes}
use Rattle.bpf_decode.specs.Flow.{KnowsMap, HasByte}
use Rattle.bpf_model.specs.State as state
use Rattle.bpf_model.specs.State.{Setting, State, Next, Goes, on as on_state, reg}
use Rattle.bpf_model.specs.Alu.{wide_value as value_of}
use Rattle.bpf_model.specs.Step.{help, lookup, note, found, answered as answered_state, enter, caller_of, target, exit_number as exit_of, return}
use Rattle.bpf_model.specs.Run.{IsFine}
use Rattle.bpf_interval.specs.Interval.{bounds}
use Rattle.bpf_absnum.specs.Number.{Num, num_single, num_full}
use Rattle.bpf_absnum.specs.Transfer.{num_within}
use Rattle.bpf_absnum.proofs.Instructions.{within_keeps}
use Rattle.bpf_absnum.proofs.Rows.{full_keeps, single_keeps}
use Rattle.bpf_absval.specs.declared.value.AbsVal.{AbsVal}
use Rattle.bpf_absval.specs.declared.value.AbsVal.TheVariants.{Number, MapReference, Lookup}
use Rattle.bpf_absval.specs.declared.room.Room.{Room}
use Rattle.bpf_absval.specs.Meaning.{Labels, Holds, IsEntry}
use Rattle.bpf_absstate.specs.Contains.{Contains, HoldsIn}
use Rattle.bpf_absstate.specs.Laws.{entered}
use Rattle.bpf_absstate.specs.View.{View, register, called, returned}
use Rattle.bpf_absstate.proofs.Calls.{call_holds, return_holds}
use Rattle.bpf_absstate.proofs.Kept.{depths_agree, registers_hold}
use Rattle.bpf_rules.specs.declared.fault.Fault.TheVariants.{TooManyFrames}
use Rattle.bpf_rules.specs.declared.ways.Ways.TheVariants.{Nowhere, One}
use Rattle.bpf_rules.specs.Calls.{looked_up, helped, answered, call, exit_number}
use Rattle.bpf_rules.specs.Covers.{InWays}
use Rattle.bpf_rules.specs.Examined.{landing, exited}
use Rattle.bpf_rules.specs.Faults.{on}
use Rattle.bpf_rules.specs.Operands.{number, wide_value}
use Rattle.bpf_sound_flow.specs.Laws.{LoadWideCovers, CallCovers, CallLocalCovers, ExitCovers}
use Rattle.bpf_sound_flow.proofs.Alu.{number_held}
use Rattle.bpf_sound_flow.proofs.Helpers.{IsHelper, is_helper}
use Rattle.bpf_sound_flow.proofs.States.{answers}
use Rattle.bpf_rules.proofs.Outcomes.{refused-okay, okay-same, on_ok}
use Rattle.bpf_sound_flow.proofs.Steps.{okay, labels, covers, lands, lands_put, not_pointer, jump_is}

-- ---- wide loads

-- a map that has a byte has an entry 0
entry_zero : (shapes : List Shape) (m o : ℕ) → All IsShape shapes → HasByte shapes m o → IsEntry shapes m 0
entry_zero shapes m o each h =
    let is_shape = subst IsShape (get_or_from_slice_get shapes m h.0 h.0 h.1) (each m h.0 (slice_get_within shapes m h.0 h.1)) in
    record { shape = h.0; known = h.1; within = is_shape.some_entries }

wide_holds : (e : Labels) (rooms : List Room) (v : Wide) → IsWide v → AreShapes e.setting.shapes → KnowsMap e.setting.shapes (insn.LoadWide 0 v) →
    Holds e rooms (wide_value v) (value_of v)
wide_holds e rooms (wide.Number n) fits shapes k = single_keeps n fits
wide_holds e rooms (wide.Map m) fits shapes k = refl
wide_holds e rooms (wide.MapValue m o) fits shapes k = ((refl, entry_zero e.setting.shapes m o shapes.each k), single_keeps o (omega (arith, fits.1)))

pub load_wide_covers : LoadWideCovers
load_wide_covers dst v = covers (insn.LoadWide dst v) (λ c p a w s whole set at e base h.
    let fits = whole.insns a.pc (insn.LoadWide dst v) at in
    let there : KnowsMap p.shapes (insn.LoadWide 0 v) = subst (λ l. KnowsMap l (insn.LoadWide 0 v)) (sym set.shapes) (whole.maps a.pc (insn.LoadWide dst v) at) in
    lands_put p a a s w (labels p base) 2 dst (wide_value v) (value_of v) refl h refl (not_pointer c a.pc dst (insn.LoadWide dst v) whole at refl)
    (wide_holds (labels p base) a.rooms v fits.1 set.maps there) e)

-- ---- helpers

module _ (p : Setting) (base : ℕ → ℕ) (a : View) (s : State) (h : HoldsIn (labels p base) a s) where
  -- the state after the call
  answer_in : (v : AbsVal) (x : Value) (notes : List ℕ) → Holds (labels p base) a.rooms v x → Contains p (answered a v) (answered_state (record s { notes = notes }) x)
  answer_in v x notes k = record { base = base; holds = answers (labels p base) a s notes v x h k }

  found_holds : (map m index : ℕ) (o : Option Shape) → map ≡ m → slice_get p.shapes m ≡ o → Holds (labels p base) a.rooms (Lookup map) (found m index o)
  found_holds map m index None same e = refl
  found_holds map m index (Some shape) same e =
      cond_both (nat_lt index shape.entries) (value.Pointer (region.Entry m index) 0) (value.Number 0) (Holds (labels p base) a.rooms (Lookup map))
      (λ within. (same, record { shape = shape; known = e; within = ltb-true index shape.entries within }, refl))
      (λ outside. refl)

  looks_up : (map : ℕ) (index : Num) (x y : Value) → Holds (labels p base) a.rooms (MapReference map) x → Holds (labels p base) a.rooms (Number index) y →
      IsFine p.shapes (lookup p s x y) (Contains p (answered a (Lookup map)))
  looks_up map index (value.MapReference m) (value.Number i) hx hy = answer_in (Lookup map) (found m i (slice_get p.shapes m)) s.notes (found_holds map m i (slice_get p.shapes m) hx refl)
  looks_up map index (value.MapReference m) y hx hy = absurd hy
  looks_up map index x y hx hy = absurd hx

  lookups : (u t v : AbsVal) (x y : Value) → Holds (labels p base) a.rooms u x → Holds (labels p base) a.rooms t y → looked_up u t ≡ Ok v →
      IsFine p.shapes (lookup p s x y) (Contains p (answered a v))
  lookups (MapReference map) (Number index) v x y hx hy g = subst (λ v. IsFine p.shapes (lookup p s x y) (Contains p (answered a v))) (okay-same _ v g) (looks_up map index x y hx hy)
  lookups u t v x y hx hy g = absurd (refused-okay _ v g)

  notes : (n : Num) (x : Value) → Holds (labels p base) a.rooms (Number n) x → IsFine p.shapes (note s x) (Contains p (answered a (Number (num_single 0))))
  notes n (value.Number m) hx = answer_in (Number (num_single 0)) (value.Number 0) _ (single_keeps 0 (omega arith))
  notes n x hx = absurd hx

  abbrev Helps : AbsVal → ℕ → Type 0
  Helps v n = helped a n ≡ Ok v → IsFine p.shapes (help p s n) (Contains p (answered a v))

  noted : (v : AbsVal) → Helps v 5
  noted v g =
      let r = note_number (register a 1) v g in
      subst (λ v. IsFine p.shapes (note s (reg s 1)) (Contains p (answered a v))) r.2
      (notes r.0 (reg s 1) (subst (λ u. Holds (labels p base) a.rooms u (reg s 1)) r.1 (registers_hold (labels p base) a s 1 h)))
    where
      note_number : (u v : AbsVal) → on (number u) (λ x. Ok (Number (num_single 0))) ≡ Ok v → (n : Num) × (u ≡ Number n) × (Number (num_single 0) ≡ v)
      note_number (Number n) v g = (n, refl, okay-same _ v g)
      note_number u v g = absurd (refused-okay _ v g)

  helps : (v : AbsVal) (n : ℕ) → IsHelper n → Helps v n
  helps v n (inl is) = subst (Helps v) (sym is) (λ g. lookups (register a 1) (register a 2) v (reg s 1) (reg s 2) (registers_hold (labels p base) a s 1 h) (registers_hold (labels p base) a s 2 h) g)
  helps v n (inr (inl is)) = subst (Helps v) (sym is) (λ g b k. subst (λ v. Contains p (answered a v) (answered_state s (value.Number b))) (okay-same _ v g) (answer_in (Number num_full) (value.Number b) s.notes (full_keeps b k)))
  helps v n (inr (inr (inl is))) = subst (Helps v) (sym is) (λ g b k. subst (λ v. Contains p (answered a v) (answered_state s (value.Number b))) (okay-same _ v g)
      (answer_in (Number (num_within (bounds 0 2007))) (value.Number b) s.notes (within_keeps (bounds 0 2007) b (record { above = omega arith; below = k; fits = omega arith }))))
  helps v n (inr (inr (inr (inl is)))) = subst (Helps v) (sym is) (λ g b k. subst (λ v. Contains p (answered a v) (answered_state s (value.Number b))) (okay-same _ v g) (answer_in (Number num_full) (value.Number b) s.notes (full_keeps b k)))
  helps v n (inr (inr (inr (inr is)))) = subst (Helps v) (sym is) (noted v)

pub call_covers : CallCovers
call_covers helper = covers (insn.Call helper) (λ c p a w s whole set at e base h.
    let range = whole.helpers a.pc (insn.Call helper) at in
    let r = on_ok (helped a (word_of helper)) (λ v. okay (One (answered a v))) w e in
    subst (λ u. IsFine p.shapes (help p s (word_of helper)) (InWays p u)) (okay-same _ w r.2)
    (helps p base a s h r.0 (word_of helper) (is_helper helper range.0 range.1) r.1))

-- ---- local calls

call_is : (a b : View) (to : ℕ) → call a to ≡ Ok b → (length a.frames < 8) × (called a to (a.pc + 1) ≡ b)
call_is a b to e = by_count (nat_lt (length a.frames) 8) refl e
  where
    by_count : (t : Bool) → nat_lt (length a.frames) 8 ≡ t → (if t then Ok (called a to (a.pc + 1)) else Err TooManyFrames) ≡ Ok b →
        (length a.frames < 8) × (called a to (a.pc + 1) ≡ b)
    by_count true k e = (ltb-true (length a.frames) 8 k, okay-same _ b e)
    by_count false k e = absurd (refused-okay _ b e)

pub call_local_covers : CallLocalCovers
call_local_covers by = covers (insn.CallLocal by) (λ c p a w s whole set at e base h.
    let t = whole.jumps a.pc (insn.CallLocal by) by at refl in
    let r = on_ok (call a (landing a.pc by)) (λ b. okay (One b)) w e in
    let k = call_is a r.0 (landing a.pc by) r.1 in
    let few : nat_lt (length s.stack) 8 ≡ true = lt-ltb (length s.stack) 8 (subst (λ n. n < 8) (sym (depths_agree (labels p base) a s h).stacks) k.0) in
    subst (λ (b : Bool). IsFine p.shapes (if b then enter s (target s.pc by) else state.Fault 35) (InWays p w)) (sym few)
    (subst (λ o. IsFine p.shapes (enter s o) (InWays p w)) (sym (jump_is a s by t.0 h.pc t.1))
    (lands p r.0 w (entered s (landing a.pc by)) (labels p base) refl (subst (λ b. HoldsIn (labels p base) b (entered s (landing a.pc by))) k.1 (call_holds (labels p base) a s (landing a.pc by) h)) r.2)))

-- ---- EXIT

exit_is : (v : AbsVal) (n : Num) → exit_number v ≡ Ok n → v ≡ Number n
exit_is (Number m) n e = cc
exit_is v n e = absurd (cc)

exits : (p : Setting) (base : ℕ → ℕ) (a : View) (s : State) (h : HoldsIn (labels p base) a s) (r0 : ℕ) →
    IsFine p.shapes (return s r0 (slice_get s.callers (length s.callers - 1))) (InWays p (exited a))
exits p base a s h r0 = by_count (length a.frames == 1) refl
  where
    by_count : (t : Bool) → (length a.frames == 1) ≡ t → IsFine p.shapes (return s r0 (slice_get s.callers (length s.callers - 1))) (InWays p (if t then Nowhere else One (returned a)))
    by_count true one =
        let none : length s.callers ≡ 0 = omega (arith, (depths_agree (labels p base) a s h).callers, eqb-true (length a.frames) 1 one) in
        subst (λ l. IsFine p.shapes (return s r0 (slice_get l (length l - 1))) (InWays p Nowhere)) (sym (nil_from_length s.callers none)) tt
    by_count false more =
        let within : length s.callers - 1 < length s.callers = omega (arith, h.some, (depths_agree (labels p base) a s h).callers, eqb-false (length a.frames) 1 more) in
        let there = slice_get-get_or s.callers (length s.callers - 1) (caller_of s) within in
        subst (λ o. IsFine p.shapes (return s r0 o) (Contains p (returned a))) (sym there) (record { base = base; holds = return_holds (labels p base) a s _ h there })

pub exit_covers : ExitCovers
exit_covers = covers insn.Exit (λ c p a w s whole set at e base h.
    let r = on_ok (exit_number (register a 0)) (λ n. okay (exited a)) w e in
    let m = number_held (labels p base) a.rooms r.0 (reg s 0) (subst (λ v. Holds (labels p base) a.rooms v (reg s 0)) (exit_is (register a 0) r.0 r.1) (registers_hold (labels p base) a s 0 h)) in
    subst (λ u. IsFine p.shapes (on_state (exit_of (reg s 0)) (λ r0. return s r0 (slice_get s.callers (length s.callers - 1)))) (InWays p u)) (okay-same _ w r.2)
    (subst (λ x. IsFine p.shapes (on_state (exit_of x) (λ r0. return s r0 (slice_get s.callers (length s.callers - 1)))) (InWays p (exited a))) (sym m.1) (exits p base a s h m.0)))
