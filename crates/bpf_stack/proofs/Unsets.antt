-- Rows of unset slots, and rows without a label.
use Rattle.std.proofs.Common.{◌≡◌, ℕ, zero, suc, List, [], ◌∷◌, length, map, Some, None, true, false, ◌&&◌, refl, ap, arith, replicate}
use Rattle.std.specs.List.{list_all}
use Rattle.bpf_absval.specs.declared.slot.AbsSlot.{AbsSlot}
use Rattle.bpf_absval.specs.declared.slot.AbsSlot.TheVariants as cell
use Rattle.bpf_absval.specs.declared.value.AbsVal.TheVariants as abs
use Rattle.bpf_absval.specs.declared.room.Room.{Room}
use Rattle.bpf_absval.specs.Unlabelled.{slot_unlabelled, slot_has_label}
use Rattle.bpf_absval.specs.Inclusion.{slot_included}
use Rattle.bpf_absval.specs.WellFormed.{IsSlot}
use Rattle.bpf_stack.specs.Included.{slots_included}

pub unset_stay : (label n : ℕ) → map (slot_unlabelled label) (replicate n cell.Unset) ≡ replicate n cell.Unset
unset_stay label zero = refl
unset_stay label (suc n) = ap (λ (xs : List AbsSlot). cell.Unset ∷ xs) (unset_stay label n)

-- a slot without the label is unchanged
pub slot_stays : (label : ℕ) (s : AbsSlot) → slot_has_label label s ≡ false → slot_unlabelled label s ≡ s
slot_stays label cell.Unset h = refl
slot_stays label (cell.Bytes mask) h = refl
slot_stays label (cell.Stored (abs.Frame offset None)) h = refl
slot_stays label (cell.Stored (abs.Frame offset (Some l))) h = rw h refl
slot_stays label (cell.Stored v) h = refl

pub unset_include : (rooms others : List Room) (xs : List AbsSlot) (n : ℕ) → length xs ≡ n → true ≡ slots_included rooms others xs (replicate n cell.Unset)
unfolding slots_included
unset_include rooms others [] n h = rw (← h) refl
unset_include rooms others (x ∷ xs) zero h = absurd (omega (arith, h))
unset_include rooms others (x ∷ xs) (suc n) h = unset_include rooms others xs n (omega (arith, h))

-- each unset slot is included in an unset one
pub all_admit : (rooms others : List Room) (n : ℕ) → true ≡ list_all (slot_included rooms others cell.Unset) (replicate n cell.Unset)
all_admit rooms others zero = refl
all_admit rooms others (suc n) = all_admit rooms others n

pub unset_in : (rooms others : List Room) (xs : List AbsSlot) (n : ℕ) → n ≡ length xs
    → list_all (slot_included rooms others cell.Unset) xs ≡ slots_included rooms others (replicate n cell.Unset) xs
unfolding slots_included
unset_in rooms others [] n h = rw h refl
unset_in rooms others (x ∷ xs) zero h = absurd (omega (arith, h))
unset_in rooms others (x ∷ xs) (suc n) h = ap (λ t. slot_included rooms others cell.Unset x && t) (unset_in rooms others xs n (omega (arith, h)))

-- forgetting a label keeps a slot well formed
pub slot_whole : (label : ℕ) (s : AbsSlot) → IsSlot s → IsSlot (slot_unlabelled label s)
slot_whole label cell.Unset h = tt
slot_whole label (cell.Bytes mask) h = tt
slot_whole label (cell.Stored (abs.Frame offset l)) h = h
slot_whole label (cell.Stored v) h = h
