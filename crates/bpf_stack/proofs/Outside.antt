-- An index at which one row of slots isn't included in another.
use Rattle.std.proofs.Common.{◌≡◌, ℕ, zero, suc, List, [], ◌∷◌, Option, Some, None, Bool, true, false, ◌&&◌, refl, ap, sym, ◌∙◌, slice_index_or}
use Rattle.std.specs.Prelude.{IfNone, IfSome, is_some, not}
use Rattle.std.proofs.Math.Bool.{and-false}
use Rattle.std.proofs.lemmas.Bool.{false≢true}
use Rattle.bpf_absval.specs.declared.slot.AbsSlot.{AbsSlot}
use Rattle.bpf_absval.specs.declared.slot.AbsSlot.TheVariants as cell
use Rattle.bpf_absval.specs.declared.room.Room.{Room}
use Rattle.bpf_absval.specs.Inclusion.{slot_included}
use Rattle.bpf_stack.specs.Included.{slots_included}

pub slots_excluded : (rooms others : List Room) (a b : List AbsSlot) (i : ℕ)
    → slot_included rooms others (slice_index_or a i cell.Unset) (slice_index_or b i cell.Unset) ≡ false → slots_included rooms others a b ≡ false
unfolding slots_included
slots_excluded rooms others [] [] i h = absurd (false≢true (sym h))
slots_excluded rooms others [] (y ∷ b) i h = refl
slots_excluded rooms others (x ∷ a) [] i h = refl
slots_excluded rooms others (x ∷ a) (y ∷ b) zero h = ap (λ t. t && slots_included rooms others a b) h
slots_excluded rooms others (x ∷ a) (y ∷ b) (suc i) h =
    ap (λ t. slot_included rooms others x y && t) (slots_excluded rooms others a b i h) ∙ and-false (slot_included rooms others x y)

-- what holds if there is none, for an equal test
pub if_none : {X : Type 0} → (o : Option X) (t u : Bool) → t ≡ u → IfNone o (t ≡ true) → IfNone o (u ≡ true)
if_none None t u same h = sym same ∙ h
if_none (Some x) t u same h = tt

-- what holds of one that there is, for a law of it
pub if_some : {X : Type 0} → (o : Option X) (P Q : X → Type 0) → ((x : X) → P x → Q x) → IfSome o P → IfSome o Q
if_some None P Q law h = tt
if_some (Some x) P Q law h = law x h

-- a test that is true if there is none, and false if there is one
pub told_by_none : {X : Type 0} → (P : X → Type 0) (o : Option X) (t r : Bool) → IfNone o (t ≡ true) → IfSome o P → ((x : X) → P x → t ≡ false) → is_some o ≡ not r → r ≡ t
told_by_none P None t true none some law is = sym none
told_by_none P None t false none some law is = absurd (false≢true is)
told_by_none P (Some x) t false none some law is = sym (law x some)
told_by_none P (Some x) t true none some law is = absurd (false≢true (sym is))
