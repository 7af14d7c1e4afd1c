-- Reading bytes of a stack frame.
use Rattle.std.specs.Prelude.{◌==◌, ◌&&◌}
use Rattle.std.specs.Int.{bit_at}
use Rattle.std.proofs.Common.{ℕ, ◌≡◌, ◌+◌, ◌-◌, ◌*◌, ◌/◌, ◌%◌, ◌^◌, ◌<◌, ◌≤◌, ⊎_elim, Bool, true, false, not, cond, List, Some, None, Result, Ok, Err, refl, sym, ap, subst, ◌∙◌, arith, bit_and}
use Rattle.std.proofs.lemmas.Bool.{cases_Bool, and_parts, eqb-true, true≢false, cases_lt, not-true, eq-eqb}
use Rattle.std.proofs.lemmas.Option.{get_or_from_slice_get}
use Rattle.bpf_regions.specs.declared.memory.Value.{Value}
use Rattle.bpf_regions.specs.declared.memory.Value.TheVariants as value
use Rattle.bpf_model.specs.declared.StackFrame.{StackFrame}
use Rattle.bpf_model.specs.Alu.{is_unset}
use Rattle.bpf_model.specs.Memory.{set_bytes, spill_at, as_loaded, loaded_number, from_stack}
use Rattle.bpf_absval.specs.declared.value.AbsVal.{AbsVal}
use Rattle.bpf_absval.specs.declared.value.AbsVal.TheVariants as abs
use Rattle.bpf_absval.specs.declared.slot.AbsSlot.{AbsSlot}
use Rattle.bpf_absval.specs.declared.slot.AbsSlot.TheVariants as slot
use Rattle.bpf_absval.specs.declared.room.Room.{Room}
use Rattle.bpf_absval.specs.Meaning.{Labels, Holds, number_held, held, SlotHolds}
use Rattle.bpf_absval.specs.Inclusion.{bytes_set}
use Rattle.bpf_absstate.specs.declared.frames.CallFrame.{CallFrame}
use Rattle.bpf_absval.specs.Meaning.{IsStackFrame}
use Rattle.bpf_absstate.specs.Contains.{StackHolds}
use Rattle.bpf_rules.specs.declared.fault.Fault.{Fault}
use Rattle.bpf_rules.specs.declared.fault.Fault.TheVariants as fault
use Rattle.bpf_rules.specs.Operands.{is_unset as rules_unset}
use Rattle.bpf_rules.specs.Memory.{touched, slot_at, is_stored, bytes_fault, read_fault, loaded, loaded_bytes, loaded_whole, loaded_stack}
use Rattle.bpf_sound_memory.proofs.Bytes.{byte_at, IsSet}
use Rattle.bpf_sound_memory.proofs.StackFrames.{AreSpelled, spelled, small_byte, spilled_apart}
use Rattle.bpf_sound_memory.proofs.Held.{known_set}
use Rattle.bpf_sound_memory.proofs.Touched.{first_touched, second_touched, has_needed}
use Rattle.bpf_rules.proofs.Outcomes.{unless_ok, okay-same}
use Rattle.bpf_sound_memory.proofs.Outcomes.{worse_parts}
use Rattle.bpf_sound_memory.proofs.Offsets.{IsSize, loaded_holds}

needed_set : (s : AbsSlot) (needed : ℕ) → bytes_fault s needed ≡ None → bit_and (bytes_set s) needed ≡ needed
needed_set s needed h = eqb-true (bit_and (bytes_set s) needed) needed (by_test (bit_and (bytes_set s) needed == needed) (is_stored s) h)
  where
    by_test : (b c : Bool) → cond b None (cond c (Some fault.WrongOperand) (Some fault.Unset)) ≡ None → b ≡ true
    by_test true c h = refl
    by_test false true h = absurd (cc)
    by_test false false h = absurd (cc)

-- one byte of a slot
byte_read : (e : Labels) (rooms : List Room) (a : CallFrame) (f : StackFrame) (i j needed : ℕ) → StackHolds e rooms a f → i < 64 → j < 8 →
    bytes_fault (slot_at a.stack i) needed ≡ None → bit_at needed j ≡ 1 → IsSet (byte_at f.bytes (8 * i + j))
byte_read e rooms a f i j needed h low few none one =
    let s = slot_at a.stack i in
    let set = known_set e rooms s f i h.frame (h.slots i low) j few (has_needed (bytes_set s) needed j (needed_set s needed none) one) in
    let is = get_or_from_slice_get f.bytes (8 * i + j) (Some set.0) None set.1 in
    (set.0, is, small_byte f (8 * i + j) set.0 h.frame is)

-- bytes known to be set are set
pub read_spelled : (e : Labels) (rooms : List Room) (a : CallFrame) (f : StackFrame) (at n : ℕ) → StackHolds e rooms a f → n ≤ 8 → at + n ≤ 512 →
    read_fault a.stack at n ≡ None → AreSpelled f at n
read_spelled e rooms a f at n h size room none = λ k low high.
    let parts = worse_parts (bytes_fault (slot_at a.stack (at / 8)) (touched at n % 256)) (bytes_fault (slot_at a.stack (at / 8 + 1)) (touched at n / 256)) none in
    ⊎_elim
    (λ first.
    let place : 8 * (at / 8) + (k - 8 * (at / 8)) ≡ k = omega arith in
    subst (λ m. IsSet (byte_at f.bytes m)) place
    (byte_read e rooms a f (at / 8) (k - 8 * (at / 8)) (touched at n % 256) h (omega arith) (omega (arith, first)) parts.0
    (first_touched at n (k - 8 * (at / 8)) (omega (arith, first)) (omega arith) (omega arith))))
    (λ second.
    let place : 8 * (at / 8 + 1) + (k - 8 * (at / 8 + 1)) ≡ k = omega (arith, second) in
    subst (λ m. IsSet (byte_at f.bytes m)) place
    (byte_read e rooms a f (at / 8 + 1) (k - 8 * (at / 8 + 1)) (touched at n / 256) h (omega (arith, second)) (omega arith) parts.1
    (second_touched at n (k - 8 * (at / 8 + 1)) (omega arith) (omega (arith, second)))))
    (cases_lt k (8 * (at / 8) + 8))

-- ---- loads

-- the test for loading a slot's spill whole
abbrev comes_whole : StackFrame → ℕ → ℕ → Bool → Bool
comes_whole f at n signed = (n == 8) && (at % 8 == 0) && not (is_unset (spill_at f at)) && not signed

by_spelling : (f : StackFrame) (at n : ℕ) (signed : Bool) → comes_whole f at n signed ≡ false → from_stack f at n signed ≡ loaded_number signed n (set_bytes f at n)
by_spelling f at n signed h = ap (λ b. cond b (Ok (spill_at f at)) (loaded_number signed n (set_bytes f at n))) h

by_spill : (f : StackFrame) (at n : ℕ) (signed : Bool) → comes_whole f at n signed ≡ true → from_stack f at n signed ≡ Ok (spill_at f at)
by_spill f at n signed h = ap (λ b. cond b (Ok (spill_at f at)) (loaded_number signed n (set_bytes f at n))) h

-- set bytes aren't loaded as a spill
not_whole : (f : StackFrame) (at n : ℕ) (signed : Bool) → IsStackFrame f → AreSpelled f at n → at + n ≤ 512 → comes_whole f at n signed ≡ false
not_whole f at n signed h set room = ⊎_elim (λ t. absurd (clash t)) (λ t. t) (cases_Bool (comes_whole f at n signed))
  where
    clash : comes_whole f at n signed ≡ true → ⊥
    clash t =
        let outer = and_parts ((n == 8) && (at % 8 == 0) && not (is_unset (spill_at f at))) (not signed) t in
        let inner = and_parts ((n == 8) && (at % 8 == 0)) (not (is_unset (spill_at f at))) outer.0 in
        let tests = and_parts (n == 8) (at % 8 == 0) inner.0 in
        let eight : n ≡ 8 = eqb-true n 8 tests.0 in
        let even : at % 8 ≡ 0 = eqb-true (at % 8) 0 tests.1 in
        let place : 8 * (at / 8) + 0 ≡ at = omega arith in
        let empty : byte_at f.bytes (8 * (at / 8) + 0) ≡ None = spilled_apart f (at / 8) 0 h (omega arith) (omega arith) (not-true (is_unset (spill_at f at)) inner.1) in
        let first = set at (omega arith) (omega arith) in
        let same : byte_at f.bytes at ≡ None = subst (λ k. byte_at f.bytes k ≡ None) place empty in
        cc (same, first.1)

pub spelled_loads : (f : StackFrame) (at n : ℕ) (signed : Bool) → IsStackFrame f → AreSpelled f at n → at + n ≤ 512 →
    (x : ℕ) × (x < 2 ^ (8 * n)) × (from_stack f at n signed ≡ Ok (value.Number (as_loaded signed n x)))
spelled_loads f at n signed h set room =
    let x = spelled f at n set in
    (x.0, x.2, by_spelling f at n signed (not_whole f at n signed h set room) ∙ ap (loaded_number signed n) x.1)

pub held_loads : (f : StackFrame) (at : ℕ) → at % 8 ≡ 0 → is_unset (held f (at / 8)) ≡ false → from_stack f at 8 false ≡ Ok (held f (at / 8))
held_loads f at even h = by_cases (is_unset (spill_at f at)) refl
  where
    number_back : (r : Result ℕ ℕ) → is_unset (number_held r) ≡ false → loaded_number false 8 r ≡ Ok (number_held r)
    number_back (Ok x) t = refl
    number_back (Err c) t = absurd (true≢false t)

    off : (b : Bool) → ◌≡◌ {A = Result Value ℕ} (cond (b && false && true) (Ok (spill_at f at)) (loaded_number false 8 (set_bytes f at 8))) (loaded_number false 8 (set_bytes f at 8))
    off true = refl
    off false = refl

    by_cases : (u : Bool) → is_unset (spill_at f at) ≡ u → from_stack f at 8 false ≡ Ok (held f (at / 8))
    by_cases true t =
        let e : held f (at / 8) ≡ number_held (set_bytes f (8 * (at / 8)) 8) = ap (λ b. cond b (number_held (set_bytes f (8 * (at / 8)) 8)) (spill_at f at)) t in
        let place : 8 * (at / 8) ≡ at = omega arith in
        let e2 : held f (at / 8) ≡ number_held (set_bytes f at 8) = e ∙ ap (λ k. number_held (set_bytes f k 8)) place in
        ap (λ b. cond ((8 == 8) && (at % 8 == 0) && not b && not false) (Ok (spill_at f at)) (loaded_number false 8 (set_bytes f at 8))) t
        ∙ off ((8 == 8) && (at % 8 == 0))
        ∙ number_back (set_bytes f at 8) (sym (ap is_unset e2) ∙ h) ∙ ap Ok (sym e2)
    by_cases false t =
        let e : held f (at / 8) ≡ spill_at f at = ap (λ b. cond b (number_held (set_bytes f (8 * (at / 8)) 8)) (spill_at f at)) t in
        let zero : (at % 8 == 0) ≡ true = eq-eqb (at % 8) 0 even in
        ap (λ b. cond ((8 == 8) && (at % 8 == 0) && not b && not false) (Ok (spill_at f at)) (loaded_number false 8 (set_bytes f at 8))) t
        ∙ ap (λ b. cond ((8 == 8) && b && not false && not false) (Ok (spill_at f at)) (loaded_number false 8 (set_bytes f at 8))) zero
        ∙ ap Ok (sym e)

-- ---- what the rules say of a load

-- a value of a set abstract value is set
pub is_set : (e : Labels) (rooms : List Room) (v : AbsVal) (x : Value) → rules_unset v ≡ false → Holds e rooms v x → is_unset x ≡ false
is_set e rooms abs.Unset x t h = absurd (true≢false t)
is_set e rooms v value.Unset t h = absurd h
is_set e rooms v x t h = refl

-- a load from a stack gives what the rules say
abbrev pub Gives : Labels → List Room → StackFrame → ℕ → ℕ → Bool → AbsVal → Type 0
Gives e rooms f at n signed u = (y : Value) × (from_stack f at n signed ≡ Ok y) × Holds e rooms u y

bytes_give : (e : Labels) (rooms : List Room) (a : CallFrame) (f : StackFrame) (at n : ℕ) (signed : Bool) (u : AbsVal) → StackHolds e rooms a f → IsSize n → at + n ≤ 512 →
    loaded_bytes a.stack at n signed ≡ Ok u → Gives e rooms f at n signed u
bytes_give e rooms a f at n signed u h size room t =
    let parts = unless_ok (read_fault a.stack at n) (Ok (loaded signed n)) u t in
    let x = spelled_loads f at n signed h.frame (read_spelled e rooms a f at n h size.few room parts.0) room in (
      value.Number (as_loaded signed n x.0),
      x.2,
      subst (λ w. Holds e rooms w (value.Number (as_loaded signed n x.0))) (okay-same (loaded signed n) u parts.1) (loaded_holds e rooms signed n x.0 size x.1),
    )

whole_gives : (e : Labels) (rooms : List Room) (a : CallFrame) (f : StackFrame) (at : ℕ) (u : AbsVal) → StackHolds e rooms a f → IsSize 8 → at + 8 ≤ 512 → at % 8 ≡ 0 →
    loaded_whole (slot_at a.stack (at / 8)) (loaded_bytes a.stack at 8 false) ≡ Ok u → Gives e rooms f at 8 false u
whole_gives e rooms a f at u h size room even t = by_slot (slot_at a.stack (at / 8)) (h.slots (at / 8) (omega arith)) t
  where
    by_value : (v : AbsVal) (b : Bool) → rules_unset v ≡ b → Holds e rooms v (held f (at / 8)) → ◌≡◌ {A = Result AbsVal Fault} (cond b (Err fault.Unset) (Ok v)) (Ok u) → Gives e rooms f at 8 false u
    by_value v true is k t = absurd (cc)
    by_value v false is k t =
        (held f (at / 8), held_loads f at even (is_set e rooms v (held f (at / 8)) is k), subst (λ w. Holds e rooms w (held f (at / 8))) (okay-same v u t) k)

    by_slot : (s : AbsSlot) → SlotHolds e rooms s f (at / 8) → loaded_whole s (loaded_bytes a.stack at 8 false) ≡ Ok u → Gives e rooms f at 8 false u
    by_slot slot.Unset k t = bytes_give e rooms a f at 8 false u h size room t
    by_slot (slot.Stored v) k t = by_value v (rules_unset v) refl k t
    by_slot (slot.Bytes mask) k t = bytes_give e rooms a f at 8 false u h size room t

pub stack_gives : (e : Labels) (rooms : List Room) (a : CallFrame) (f : StackFrame) (at n : ℕ) (signed : Bool) (u : AbsVal) → StackHolds e rooms a f → IsSize n → at + n ≤ 512 →
    loaded_stack a.stack at n signed ≡ Ok u → Gives e rooms f at n signed u
stack_gives e rooms a f at n signed u h size room t = by_test (n == 8) (at % 8 == 0) signed refl refl refl t
  where
    whole : n ≡ 8 → at % 8 ≡ 0 → signed ≡ false → loaded_whole (slot_at a.stack (at / 8)) (loaded_bytes a.stack at n signed) ≡ Ok u → Gives e rooms f at n signed u
    whole eight even plain t =
        let size8 : IsSize 8 = subst IsSize eight size in
        let t8 = subst (λ k. loaded_whole (slot_at a.stack (at / 8)) (loaded_bytes a.stack at k signed) ≡ Ok u) eight t in
        let t8f = subst (λ b. loaded_whole (slot_at a.stack (at / 8)) (loaded_bytes a.stack at 8 b) ≡ Ok u) plain t8 in
        let r = whole_gives e rooms a f at u h size8 (subst (λ k. at + k ≤ 512) eight room) even t8f in
        subst (λ k. Gives e rooms f at k signed u) (sym eight) (subst (λ b. Gives e rooms f at 8 b u) (sym plain) r)

    by_test : (b c d : Bool) → (n == 8) ≡ b → (at % 8 == 0) ≡ c → signed ≡ d →
        cond (b && c && not d) (loaded_whole (slot_at a.stack (at / 8)) (loaded_bytes a.stack at n signed)) (loaded_bytes a.stack at n signed) ≡ Ok u → Gives e rooms f at n signed u
    by_test true true false p q r t = whole (eqb-true n 8 p) (eqb-true (at % 8) 0 q) r t
    by_test true true true p q r t = bytes_give e rooms a f at n signed u h size room t
    by_test true false d p q r t = bytes_give e rooms a f at n signed u h size room t
    by_test false c d p q r t = bytes_give e rooms a f at n signed u h size room t
