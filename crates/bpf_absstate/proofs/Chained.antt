-- Lists of frames with one added at the end.
use Rattle.std.proofs.Common.{◌≡◌, ℕ, zero, suc, ◌<◌, List, [], ◌∷◌, ◌++◌, length, map, false, refl, sym, ◌∙◌, ap, arith, slice_index_or, slice_set}
use Rattle.std.specs.Prelude.{◌&&◌}
use Rattle.std.proofs.Math.Bool.{and-true, and-false, and_assoc}
use Rattle.std.proofs.lemmas.List.{length_push}
use Rattle.bpf_absval.specs.declared.room.Room.{Room}
use Rattle.bpf_absstate.specs.declared.frames.CallFrame.{CallFrame}
use Rattle.bpf_absstate.specs.Inclusion.{frame_included, frames_included}

module _ {X : Type 0} where
  pub get_before : (xs : List X) (x : X) (k : ℕ) (d : X) → k < length xs → slice_index_or (xs ++ x ∷ []) k d ≡ slice_index_or xs k d
  get_before [] x k d less = absurd (omega (arith, less))
  get_before (y ∷ xs) x zero d less = refl
  get_before (y ∷ xs) x (suc k) d less = get_before xs x k d (omega (arith, less))

  pub get_last : (xs : List X) (x : X) (k : ℕ) (d : X) → k ≡ length xs → slice_index_or (xs ++ x ∷ []) k d ≡ x
  get_last [] x zero d e = refl
  get_last [] x (suc k) d e = absurd (omega (arith, e))
  get_last (y ∷ xs) x zero d e = absurd (omega (arith, e))
  get_last (y ∷ xs) x (suc k) d e = get_last xs x k d (omega (arith, e))

  pub set_before : (xs : List X) (x : X) (k : ℕ) (v : X) → k < length xs → slice_set (xs ++ x ∷ []) k v ≡ slice_set xs k v ++ x ∷ []
  set_before [] x k v less = absurd (omega (arith, less))
  set_before (y ∷ xs) x zero v less = refl
  set_before (y ∷ xs) x (suc k) v less = ap (λ l. y ∷ l) (set_before xs x k v (omega (arith, less)))

  pub set_last : (xs : List X) (x : X) (k : ℕ) (v : X) → k ≡ length xs → slice_set (xs ++ x ∷ []) k v ≡ xs ++ v ∷ []
  set_last [] x zero v e = refl
  set_last [] x (suc k) v e = absurd (omega (arith, e))
  set_last (y ∷ xs) x zero v e = absurd (omega (arith, e))
  set_last (y ∷ xs) x (suc k) v e = ap (λ l. y ∷ l) (set_last xs x k v (omega (arith, e)))

  pub map_more : {Y : Type 0} → (f : X → Y) (xs : List X) (x : X) → map f (xs ++ x ∷ []) ≡ map f xs ++ f x ∷ []
  map_more f [] x = refl
  map_more f (y ∷ xs) x = ap (λ l. f y ∷ l) (map_more f xs x)

  pub not_empty : (xs : List X) (x : X) → xs ++ x ∷ [] ≡ [] → ⊥
  not_empty xs x e = let h = length_push xs x in let g = ap length e in omega (arith, h, g)

module _ (rooms others : List Room) where
  pub none_included : (gs : List CallFrame) (g : CallFrame) → frames_included rooms others [] (gs ++ g ∷ []) ≡ false
  unfolding frames_included
  none_included [] g = refl
  none_included (h ∷ gs) g = refl

  pub not_in_none : (fs : List CallFrame) (f : CallFrame) → frames_included rooms others (fs ++ f ∷ []) [] ≡ false
  unfolding frames_included
  not_in_none [] f = refl
  not_in_none (h ∷ fs) f = refl

  -- the test compares the newest frames, and the others
  pub included_more : (fs gs : List CallFrame) (f g : CallFrame) →
      frames_included rooms others (fs ++ f ∷ []) (gs ++ g ∷ []) ≡ (frames_included rooms others fs gs && frame_included rooms others f g)
  unfolding frames_included
  included_more [] [] f g = and-true _
  included_more [] (h ∷ gs) f g = ap (λ b. frame_included rooms others f h && b) (none_included gs g) ∙ and-false _
  included_more (h ∷ fs) [] f g = ap (λ b. frame_included rooms others h g && b) (not_in_none fs f) ∙ and-false _
  included_more (h ∷ fs) (k ∷ gs) f g = ap (λ b. frame_included rooms others h k && b) (included_more fs gs f g) ∙ sym (and_assoc (frame_included rooms others h k) (frames_included rooms others fs gs) (frame_included rooms others f g))
