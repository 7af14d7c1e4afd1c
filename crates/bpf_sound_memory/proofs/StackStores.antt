-- Writing bytes of a stack frame.
use Rattle.std.specs.Prelude.{◌==◌, slice_get}
use Rattle.std.specs.Int.{bit_at}
use Rattle.std.proofs.Common.{ℕ, ◌≡◌, ◌+◌, ◌*◌, ◌/◌, ◌%◌, ◌^◌, ◌<◌, ◌≤◌, ◌⊎◌, inl, inr, ⊎_elim, Bool, true, false, cond, List, length, Some, None, refl, sym, subst, ◌∙◌, arith}
use Rattle.std.proofs.lemmas.Option.{get_or_from_slice_get}
use Rattle.bpf_regions.specs.declared.memory.Value.{Value}
use Rattle.bpf_regions.specs.declared.memory.Value.TheVariants as value
use Rattle.bpf_model.specs.declared.StackFrame.{StackFrame}
use Rattle.bpf_model.specs.Alu.{is_unset}
use Rattle.bpf_model.specs.State.{State}
use Rattle.bpf_model.specs.Memory.{with_number, number_stored, spilled, stored, with_frame}
use Rattle.bpf_model.specs.Memory as machine
use Rattle.bpf_absval.specs.declared.value.AbsVal.{AbsVal}
use Rattle.bpf_absval.specs.declared.value.AbsVal.TheVariants as abs
use Rattle.bpf_absval.specs.declared.slot.AbsSlot.{AbsSlot}
use Rattle.bpf_absval.specs.declared.slot.AbsSlot.TheVariants as slot
use Rattle.bpf_absval.specs.declared.room.Room.{Room}
use Rattle.bpf_absval.specs.Meaning.{Labels, Holds, IsStackFrame, is_number, SlotHolds}
use Rattle.bpf_absval.specs.Inclusion.{bytes_set}
use Rattle.bpf_absstate.specs.View.{View, stack_of, with_slot}
use Rattle.bpf_absstate.proofs.Followed.{slot_changes_hold, two_slots_hold}
use Rattle.bpf_absstate.proofs.Kept.{stacks_agree}
use Rattle.bpf_absstate.specs.Contains.{HoldsIn}
use Rattle.bpf_rules.specs.Operands.{is_unset as rules_unset}
use Rattle.bpf_rules.specs.Memory.{touched, slot_at, with_bytes, bytes_stored}
use Rattle.bpf_sound_memory.proofs.Bytes.{byte_at, number_within}
use Rattle.bpf_sound_memory.proofs.StackFrames.{byte_got, within_or, number_outside, number_keeps, spill_keeps}
use Rattle.bpf_sound_memory.proofs.Held.{known_set, number_leaves, spill_leaves, number_is_held, spill_is_held}
use Rattle.bpf_sound_memory.proofs.StackReads.{is_set}
use Rattle.bpf_sound_memory.proofs.Touched.{either_has, first_within, second_within, one_slot, two_slots}

-- ---- a value is stored whole

-- a number of a set abstract value is a word
number_fits : (e : Labels) (rooms : List Room) (v : AbsVal) (x : ℕ) → rules_unset v ≡ false → Holds e rooms v (value.Number x) → x < 2 ^ 64
number_fits e rooms abs.Unset x t h = absurd (cc)
number_fits e rooms (abs.Number a) x t h = h.known.is_word
number_fits e rooms (abs.Lookup m) x t h = omega (arith, h)
number_fits e rooms (abs.Frame offset l) x t h = absurd h
number_fits e rooms (abs.Pointer r offset) x t h = absurd h
number_fits e rooms abs.FrameEnd x t h = absurd h
number_fits e rooms (abs.MapReference m) x t h = absurd h

whole_number : (e : Labels) (a : View) (s : State) (k at : ℕ) (v : AbsVal) (x : ℕ) → HoldsIn e a s → k < length a.frames → at % 8 ≡ 0 → at + 8 ≤ 512 →
    rules_unset v ≡ false → Holds e a.rooms v (value.Number x) → HoldsIn e (with_slot a k (at / 8) (slot.Stored v)) (with_frame s k (number_stored (machine.frame_of s k) at 8 x))
whole_number e a s k at v x h low even room set is =
    let f = machine.frame_of s k in
    let well = (stacks_agree e a s k h low).frame in
    slot_changes_hold e a s k (at / 8) (slot.Stored v) (number_stored f at 8 x) h low (omega arith) (number_keeps f at 8 x well (omega arith) (omega arith) room)
    (λ j small other. number_leaves f at 8 x j (omega arith) (omega arith) (other, λ same. other (omega (arith, same))))
    (subst (Holds e a.rooms v) (sym (number_is_held f at x well even room (number_fits e a.rooms v x set is))) is)

whole_spill : (e : Labels) (a : View) (s : State) (k at : ℕ) (v : AbsVal) (x : Value) → HoldsIn e a s → k < length a.frames → at % 8 ≡ 0 → at + 8 ≤ 512 →
    is_number x ≡ false → is_unset x ≡ false → Holds e a.rooms v x → HoldsIn e (with_slot a k (at / 8) (slot.Stored v)) (with_frame s k (spilled (machine.frame_of s k) at x))
whole_spill e a s k at v x h low even room other set is =
    let f = machine.frame_of s k in
    let well = (stacks_agree e a s k h low).frame in
    slot_changes_hold e a s k (at / 8) (slot.Stored v) (spilled f at x) h low (omega arith) (spill_keeps f at x well even room other)
    (λ j small apart. spill_leaves f at x j even apart)
    (subst (Holds e a.rooms v) (sym (spill_is_held f at x well room set)) is)

pub whole_stored : (e : Labels) (a : View) (s : State) (k at : ℕ) (v : AbsVal) (x : Value) → HoldsIn e a s → k < length a.frames → at % 8 ≡ 0 → at + 8 ≤ 512 →
    rules_unset v ≡ false → Holds e a.rooms v x → HoldsIn e (with_slot a k (at / 8) (slot.Stored v)) (with_frame s k (stored (machine.frame_of s k) at 8 x))
whole_stored e a s k at v (value.Number x) h low even room set is = whole_number e a s k at v x h low even room set is
whole_stored e a s k at v x h low even room set is = whole_spill e a s k at v x h low even room refl (is_set e a.rooms v x set is) is

-- ---- bytes are set

-- the bytes set before, and those written
bytes_after : (e : Labels) (rooms : List Room) (known : AbsSlot) (mask : ℕ) (f : StackFrame) (at n x i : ℕ) → IsStackFrame f → i < 64 → at + n ≤ 512 → SlotHolds e rooms known f i →
    ((j : ℕ) → j < 8 → bit_at mask j ≡ 1 → (at ≤ 8 * i + j) × (8 * i + j < at + n)) → SlotHolds e rooms (with_bytes known mask) (number_stored f at n x) i
bytes_after e rooms known mask f at n x i well low room h written = λ j few one.
    ⊎_elim
    (λ old.
    let was = known_set e rooms known f i well h j few old in
    after j (within_or at n (8 * i + j)) (was.0, get_or_from_slice_get f.bytes (8 * i + j) (Some was.0) None was.1))
    (λ new.
    let set = number_within f.bytes at n x (8 * i + j) (written j few new).0 (written j few new).1 (omega (arith, well.bytes)) in
    (set.0, byte_got (with_number f.bytes at n x) (8 * i + j) set.0 set.1))
    (either_has (bytes_set known) mask j one)
  where
    after : (j : ℕ) → ((at ≤ 8 * i + j) × (8 * i + j < at + n)) ⊎ ((8 * i + j < at) ⊎ (at + n ≤ 8 * i + j)) → (b : ℕ) × (byte_at f.bytes (8 * i + j) ≡ Some b) →
        (b : ℕ) × (slice_get (with_number f.bytes at n x) (8 * i + j) ≡ Some (Some b))
    after j (inl p) was =
        let set = number_within f.bytes at n x (8 * i + j) p.0 p.1 (omega (arith, well.bytes)) in
        (set.0, byte_got (with_number f.bytes at n x) (8 * i + j) set.0 set.1)
    after j (inr p) was = (was.0, byte_got (with_number f.bytes at n x) (8 * i + j) was.0 (number_outside f.bytes at n x (8 * i + j) p ∙ was.1))

first_after : (e : Labels) (a : View) (s : State) (k at n x : ℕ) → HoldsIn e a s → k < length a.frames → at + n ≤ 512 → 1 ≤ n →
    SlotHolds e a.rooms (with_bytes (slot_at (stack_of a k) (at / 8)) (touched at n % 256)) (number_stored (machine.frame_of s k) at n x) (at / 8)
first_after e a s k at n x h low room some =
    let stack = stacks_agree e a s k h low in
    bytes_after e a.rooms (slot_at (stack_of a k) (at / 8)) (touched at n % 256) (machine.frame_of s k) at n x (at / 8) stack.frame (omega arith) room (stack.slots (at / 8) (omega arith))
    (λ j few one. let w = first_within at n j few one in (omega (arith, w), omega (arith, w)))

second_after : (e : Labels) (a : View) (s : State) (k at n x : ℕ) → HoldsIn e a s → k < length a.frames → at + n ≤ 512 → 8 < at % 8 + n →
    SlotHolds e a.rooms (with_bytes (slot_at (stack_of a k) (at / 8 + 1)) (touched at n / 256)) (number_stored (machine.frame_of s k) at n x) (at / 8 + 1)
second_after e a s k at n x h low room over =
    let stack = stacks_agree e a s k h low in
    bytes_after e a.rooms (slot_at (stack_of a k) (at / 8 + 1)) (touched at n / 256) (machine.frame_of s k) at n x (at / 8 + 1) stack.frame (omega arith) room (stack.slots (at / 8 + 1) (omega arith))
    (λ j few one. let w = second_within at n j one in (omega (arith, w), omega (arith, w)))

pub bytes_stored_hold : (e : Labels) (a : View) (s : State) (k at n x : ℕ) → HoldsIn e a s → k < length a.frames → 1 ≤ n → n ≤ 8 → at + n ≤ 512 →
    HoldsIn e (bytes_stored a k at n) (with_frame s k (number_stored (machine.frame_of s k) at n x))
bytes_stored_hold e a s k at n x h low some size room = by_test (touched at n / 256 == 0) refl
  where
    f : StackFrame
    f = machine.frame_of s k

    first : AbsSlot
    first = with_bytes (slot_at (stack_of a k) (at / 8)) (touched at n % 256)

    second : AbsSlot
    second = with_bytes (slot_at (stack_of a k) (at / 8 + 1)) (touched at n / 256)

    well : IsStackFrame f
    well = (stacks_agree e a s k h low).frame

    by_test : (b : Bool) → (touched at n / 256 == 0) ≡ b →
        HoldsIn e (cond b (with_slot a k (at / 8) first) (with_slot (with_slot a k (at / 8) first) k (at / 8 + 1) second)) (with_frame s k (number_stored f at n x))
    by_test true t =
        let within : at % 8 + n ≤ 8 = one_slot at n t in
        slot_changes_hold e a s k (at / 8) first (number_stored f at n x) h low (omega arith) (number_keeps f at n x well some size room)
        (λ j small other. number_leaves f at n x j some size (other, λ same. other (omega (arith, same, within))))
        (first_after e a s k at n x h low room some)
    by_test false t =
        let over : 8 < at % 8 + n = two_slots at n t in
        two_slots_hold e a s k (at / 8) (at / 8 + 1) first second (number_stored f at n x) h low (omega arith) (omega arith) (λ same. omega (arith, same)) (number_keeps f at n x well some size room)
        (λ j small other another. number_leaves f at n x j some size (other, λ same. another (omega (arith, same, over))))
        (first_after e a s k at n x h low room some)
        (second_after e a s k at n x h low room over)
