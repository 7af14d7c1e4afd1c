-- A slot whose bytes and spilled value are unchanged holds what it held.
use Rattle.std.proofs.Common.{◌≡◌, ◌<◌, ◌+◌, ◌*◌, ◌/◌, ℕ, zero, suc, List, [], ◌∷◌, refl, ap, ◌∙◌, arith, slice_index_or, Option, Some, None, add-zero, Err, cond}
use Rattle.std.specs.Prelude.{slice_get}
use Rattle.bpf_regions.specs.declared.memory.Value.TheVariants as value
use Rattle.bpf_model.specs.declared.StackFrame.{StackFrame}
use Rattle.bpf_model.specs.Alu.{is_unset}
use Rattle.bpf_model.specs.Memory.{joined, set_byte, set_bytes, spill_at}
use Rattle.bpf_absval.specs.declared.room.Room.{Room}
use Rattle.bpf_absval.specs.declared.slot.AbsSlot.{AbsSlot}
use Rattle.bpf_absval.specs.declared.slot.AbsSlot.TheVariants as slot
use Rattle.bpf_absval.specs.Meaning.{Labels, SlotHolds, held, number_held}
use Rattle.bpf_absstate.specs.Laws.{SameSlot}

-- a byte, with and without a default
some_get : {X : Type 0} (xs : List (Option X)) (i : ℕ) (b : X) → slice_index_or xs i None ≡ Some b → slice_get xs i ≡ Some (Some b)
some_get [] i b h = absurd (cc)
some_get (x ∷ xs) zero b h = ap Some h
some_get (x ∷ xs) (suc i) b h = some_get xs i b h

some_index : {X : Type 0} (xs : List (Option X)) (i : ℕ) (b : X) → slice_get xs i ≡ Some (Some b) → slice_index_or xs i None ≡ Some b
some_index [] i b h = absurd (cc)
some_index (x ∷ xs) zero b h = cc
some_index (x ∷ xs) (suc i) b h = some_index xs i b h

-- n bytes from `at` on, and the slots that have them, are unchanged
record SameBytes (f g : StackFrame) (at n : ℕ) : Type 0 where
  byte : (j : ℕ) → j < n → slice_index_or g.bytes (at + j) None ≡ slice_index_or f.bytes (at + j) None
  spill : (j : ℕ) → j < n → spill_at g (at + j) ≡ spill_at f (at + j)

same_byte_at : (f g : StackFrame) (at : ℕ) (b : Option ℕ) → spill_at g at ≡ spill_at f at → set_byte g at b ≡ set_byte f at b
same_byte_at f g at None spill = ap (λ v. Err (cond (is_unset v) 30 31)) spill
same_byte_at f g at (Some b) spill = refl

same_byte : (f g : StackFrame) (at : ℕ) → slice_index_or g.bytes at None ≡ slice_index_or f.bytes at None → spill_at g at ≡ spill_at f at →
    set_byte g at (slice_index_or g.bytes at None) ≡ set_byte f at (slice_index_or f.bytes at None)
same_byte f g at byte spill = rw byte (same_byte_at f g at (slice_index_or f.bytes at None) spill)

same_set : (f g : StackFrame) (at n : ℕ) → SameBytes f g at n → set_bytes g at n ≡ set_bytes f at n
unfolding set_bytes
same_set f g at zero same = refl
same_set f g at (suc n) same =
    let byte : slice_index_or g.bytes at None ≡ slice_index_or f.bytes at None = rw (add-zero at) at (same.byte 0 (omega arith)) in
    let spill : spill_at g at ≡ spill_at f at = rw (add-zero at) at (same.spill 0 (omega arith)) in
    let shift : (j : ℕ) → at + 1 + j ≡ at + suc j = λ j. omega arith in
    let more : set_bytes g (at + 1) n ≡ set_bytes f (at + 1) n =
    same_set f g (at + 1) n (record {
      byte = λ j l. rw (shift j) (same.byte (suc j) (omega (arith, l)));
      spill = λ j l. rw (shift j) (same.spill (suc j) (omega (arith, l)));
    }) in
    ap (joined (set_byte g at (slice_index_or g.bytes at None))) more ∙ ap (λ t. joined t (set_bytes f (at + 1) n)) (same_byte f g at byte spill)

slot_of : (i j : ℕ) → j < 8 → (8 * i + j) / 8 ≡ i
slot_of i j l = omega arith

same_bytes : (f g : StackFrame) (i : ℕ) → SameSlot f g i → SameBytes f g (8 * i) 8
same_bytes f g i same =
    record {
      byte = same.bytes;
      spill = λ j l. rw (slot_of i j l) same.spill;
    }

same_held : (f g : StackFrame) (i : ℕ) → SameSlot f g i → held g i ≡ held f i
same_held f g i same =
    ap (λ v. cond (is_unset v) (number_held (set_bytes g (8 * i) 8)) v) same.spill ∙
    ap (λ r. cond (is_unset (slice_index_or f.spills i value.Unset)) (number_held r) (slice_index_or f.spills i value.Unset)) (same_set f g (8 * i) 8 (same_bytes f g i same))

pub slot_stays : (e : Labels) (rooms : List Room) (f g : StackFrame) (i : ℕ) (a : AbsSlot) → SameSlot f g i → SlotHolds e rooms a f i → SlotHolds e rooms a g i
slot_stays e rooms f g i slot.Unset same h = tt
slot_stays e rooms f g i (slot.Stored v) same h = rw (same_held f g i same) h
slot_stays e rooms f g i (slot.Bytes mask) same h =
    λ j l set.
    let b = h j l set in
    (b.0, some_get g.bytes (8 * i + j) b.0 (same.bytes j l ∙ some_index f.bytes (8 * i + j) b.0 b.1))
