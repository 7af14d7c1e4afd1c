-- Inclusion of two rows, by halves.
use Rattle.std.proofs.Common.{◌≡◌, List, [], ◌∷◌, ◌++◌, length, Bool, true, false, ◌&&◌, refl, ap, arith, ◌∙◌, sym, length-append}
use Rattle.std.proofs.Math.Bool.{and_assoc}
use Rattle.bpf_absval.specs.declared.slot.AbsSlot.{AbsSlot}
use Rattle.bpf_absval.specs.declared.room.Room.{Room}
use Rattle.bpf_absval.specs.Inclusion.{slot_included}
use Rattle.bpf_stack.specs.Included.{slots_included}
use Rattle.bpf_stack.specs.Leaves.{IsEven}

pub both_sides : (rooms others : List Room) (l r l2 r2 : List AbsSlot) → length l ≡ length l2
    → slots_included rooms others (l ++ r) (l2 ++ r2) ≡ (slots_included rooms others l l2 && slots_included rooms others r r2)
unfolding slots_included
both_sides rooms others [] r [] r2 h = refl
both_sides rooms others [] r (y ∷ l2) r2 h = absurd (omega (arith, h))
both_sides rooms others (x ∷ l) r [] r2 h = absurd (omega (arith, h))
both_sides rooms others (x ∷ l) r (y ∷ l2) r2 h =
    ap (λ t. slot_included rooms others x y && t) (both_sides rooms others l r l2 r2 (omega (arith, h)))
    ∙ sym (and_assoc (slot_included rooms others x y) (slots_included rooms others l l2) (slots_included rooms others r r2))

-- if two rows are of equal length, so are their first halves, and the rows' test is that of both halves
pub told : (rooms others : List Room) (d l r d2 l2 r2 : List AbsSlot) → d ≡ l ++ r → IsEven l r → d2 ≡ l2 ++ r2 → IsEven l2 r2 → length d ≡ length d2
    → slots_included rooms others d d2 ≡ (slots_included rooms others l l2 && slots_included rooms others r r2)
told rooms others d l r d2 l2 r2 a even b even2 whole =
    let size = ap length a ∙ length-append l r in
    let size2 = ap length b ∙ length-append l2 r2 in
    rw (a, b) (both_sides rooms others l r l2 r2 (omega (arith, whole, size, size2, even.same, even2.same)))

pub not_one : (d l r d2 : List AbsSlot) (s : AbsSlot) → d ≡ l ++ r → IsEven l r → d2 ≡ s ∷ [] → length d ≡ length d2 → ⊥
not_one d l r d2 s a even b whole = omega (arith, whole, ap length a, length-append l r, ap length b, even.same, even.some)

is_and_true : (t : Bool) → t ≡ (t && true)
is_and_true true = refl
is_and_true false = refl

pub one_in_one : (rooms others : List Room) (a b : AbsSlot) → slot_included rooms others a b ≡ slots_included rooms others (a ∷ []) (b ∷ [])
unfolding slots_included
one_in_one rooms others a b = is_and_true (slot_included rooms others a b)
