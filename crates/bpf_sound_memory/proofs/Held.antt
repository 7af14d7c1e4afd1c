-- What a slot of a stack frame holds, before and after a store.
use Rattle.std.proofs.Common.{ℕ, ◌≡◌, ◌≢◌, ◌+◌, ◌*◌, ◌/◌, ◌%◌, ◌^◌, ◌<◌, ◌≤◌, inl, true, false, cond, List, Result, Ok, Err, refl, ap, ◌∙◌, arith}
use Rattle.std.proofs.lemmas.Bool.{true≢false}
use Rattle.std.proofs.lemmas.List.{get_or-set_same, get_or-set_other}
use Rattle.std.proofs.lemmas.Nat.Bits.{bit_at-zero}
use Rattle.bpf_regions.specs.declared.memory.Value.{Value}
use Rattle.bpf_regions.specs.declared.memory.Value.TheVariants as value
use Rattle.bpf_model.specs.declared.StackFrame.{StackFrame}
use Rattle.bpf_model.specs.Alu.{is_unset}
use Rattle.bpf_model.specs.Memory.{set_bytes, number_stored, spilled}
use Rattle.bpf_absnum.specs.Number.{Num, InNum}
use Rattle.bpf_absval.specs.declared.value.AbsVal.{AbsVal}
use Rattle.bpf_absval.specs.declared.value.AbsVal.TheVariants as abs
use Rattle.bpf_absval.specs.declared.slot.AbsSlot.{AbsSlot}
use Rattle.bpf_absval.specs.declared.slot.AbsSlot.TheVariants as slot
use Rattle.bpf_absval.specs.declared.room.Room.{Room}
use Rattle.bpf_absval.specs.Meaning.{Labels, Holds, number_held, held, AreSet, SlotHolds}
use Rattle.bpf_absval.specs.Inclusion.{bytes_set}
use Rattle.bpf_absval.specs.Meaning.{is_number, IsStackFrame}
use Rattle.bpf_absstate.specs.Laws.{SameSlot}
use Rattle.bpf_sound_memory.proofs.StackFrames.{spill, byte_got, spelled_set, written_spelled, IsElsewhere, spill_elsewhere, spill_touched, number_elsewhere, without_elsewhere}

-- what is held, given the spill and the bytes
abbrev picked : Value → Result ℕ ℕ → Value
picked v r = cond (is_unset v) (number_held r) v

-- a slot that isn't touched
pub number_leaves : (f : StackFrame) (at n x i : ℕ) → 1 ≤ n → n ≤ 8 → IsElsewhere at n i → SameSlot f (number_stored f at n x) i
number_leaves f at n x i some size h = record { spill = spill_elsewhere f at n i h; bytes = λ j few. number_elsewhere f.bytes at n x i j few some size h }

pub spill_leaves : (f : StackFrame) (at : ℕ) (v : Value) (i : ℕ) → at % 8 ≡ 0 → i ≢ at / 8 → SameSlot f (spilled f at v) i
spill_leaves f at v i even h =
    record { spill = get_or-set_other f.spills (at / 8) i v value.Unset h; bytes = λ j few. without_elsewhere f.bytes at i j few even h }

-- ---- what was stored whole

pub number_is_held : (f : StackFrame) (at x : ℕ) → IsStackFrame f → at % 8 ≡ 0 → at + 8 ≤ 512 → x < 2 ^ 64 → held (number_stored f at 8 x) (at / 8) ≡ value.Number x
number_is_held f at x h even room fits =
    let g = number_stored f at 8 x in
    let place : 8 * (at / 8) ≡ at = omega arith in
    let whole : x % 2 ^ (8 * 8) ≡ x = omega arith in
    ap (λ v. picked v (set_bytes g (8 * (at / 8)) 8)) (spill_touched f at 8 (at / 8) (inl refl))
    ∙ ap (λ k. number_held (set_bytes g k 8)) place
    ∙ ap number_held (written_spelled g f.bytes at 8 x refl (omega (arith, h.bytes)) ∙ ap Ok whole)

pub spill_is_held : (f : StackFrame) (at : ℕ) (v : Value) → IsStackFrame f → at + 8 ≤ 512 → is_unset v ≡ false → held (spilled f at v) (at / 8) ≡ v
spill_is_held f at v h room set =
    let g = spilled f at v in
    ap (λ w. picked w (set_bytes g (8 * (at / 8)) 8)) (get_or-set_same f.spills (at / 8) v value.Unset (omega (arith, h.slots)))
    ∙ ap (λ b. cond b (number_held (set_bytes g (8 * (at / 8)) 8)) v) set

-- ---- which bytes of a slot are known to be set

-- a slot that holds a number has no spill, and its bytes spell the number
pub number_in : (f : StackFrame) (i x : ℕ) → IsStackFrame f → held f i ≡ value.Number x → (is_unset (spill f i) ≡ true) × (set_bytes f (8 * i) 8 ≡ Ok x)
number_in f i x h e = by_spill (spill f i) (set_bytes f (8 * i) 8) (h.references i) e
  where
    spelled_is : (r : Result ℕ ℕ) → number_held r ≡ value.Number x → r ≡ Ok x
    spelled_is (Ok y) e = cc
    spelled_is (Err c) e = absurd (cc)

    by_spill : (v : Value) (r : Result ℕ ℕ) → is_number v ≡ false → picked v r ≡ value.Number x → (is_unset v ≡ true) × (r ≡ Ok x)
    by_spill value.Unset r k e = (refl, spelled_is r e)
    by_spill (value.Number y) r k e = absurd (true≢false k)
    by_spill (value.Pointer at y) r k e = absurd (cc)
    by_spill value.FrameEnd r k e = absurd (cc)
    by_spill (value.MapReference m) r k e = absurd (cc)

-- an abstract number contains only numbers
pub is_a_number : (e : Labels) (rooms : List Room) (a : Num) (v : Value) → Holds e rooms (abs.Number a) v → (x : ℕ) × (v ≡ value.Number x) × InNum a x
is_a_number e rooms a (value.Number x) h = (x, refl, h)
is_a_number e rooms a value.Unset h = absurd h
is_a_number e rooms a (value.Pointer r x) h = absurd h
is_a_number e rooms a value.FrameEnd h = absurd h
is_a_number e rooms a (value.MapReference m) h = absurd h

none_set : (f : StackFrame) (i : ℕ) → AreSet 0 f i
none_set f i = λ j few one. absurd (omega (arith, one, bit_at-zero j))

stored_set : (e : Labels) (rooms : List Room) (a : AbsVal) (f : StackFrame) (i : ℕ) → IsStackFrame f → Holds e rooms a (held f i) → AreSet (bytes_set (slot.Stored a)) f i
stored_set e rooms (abs.Number a) f i h k = λ j few one.
    let is = is_a_number e rooms a (held f i) k in
    let set = spelled_set f (8 * i) 8 is.0 (number_in f i is.0 h is.1).1 (8 * i + j) (omega arith) (omega arith) in
    (set.0, byte_got f.bytes (8 * i + j) set.0 set.1)
stored_set e rooms a f i h k = none_set f i

pub known_set : (e : Labels) (rooms : List Room) (s : AbsSlot) (f : StackFrame) (i : ℕ) → IsStackFrame f → SlotHolds e rooms s f i → AreSet (bytes_set s) f i
known_set e rooms slot.Unset f i h k = none_set f i
known_set e rooms (slot.Stored a) f i h k = stored_set e rooms a f i h k
known_set e rooms (slot.Bytes mask) f i h k = k
