-- Frames that a sink receives, one after another.
use Rattle.std.proofs.Common.{◌≡◌, ℕ, Option, Some, List, [], ◌∷◌, ◌++◌, sym, ap, ◌∙◌, subst, append_assoc}
use Rattle.std.proofs.lemmas.List.{append-nil}
use Rattle.blockack.specs.Passed.{frame_of}
use Rattle.blockack.specs.Sinks.{ReceivesAll}

module _ {S F : Type 0} (R : S → ℕ → F → S → Type 0) where
  -- one list of frames after another
  pub received_both : (first more : List (ℕ × F)) (s mid s2 : S) → ReceivesAll R s first mid → ReceivesAll R mid more s2 → ReceivesAll R s (first ++ more) s2
  received_both [] more s mid s2 p q = subst (λ (x : S). ReceivesAll R x more s2) p q
  received_both (f ∷ first) more s mid s2 p q = (p.0, p.1, received_both first more p.0 mid s2 p.2 q)

  -- the frame of one more slot
  pub received_frame : (first : List (ℕ × F)) (s mid last s2 : S) (n : ℕ) (o : Option (Option F)) (f : F) → ReceivesAll R s first mid → o ≡ Some (Some f) → R mid n f last → s2 ≡ last → ReceivesAll R s (first ++ frame_of n o) s2
  received_frame first s mid last s2 n o f p e r is =
      let P : Option (Option F) → Type 0 = λ x. ReceivesAll R s (first ++ frame_of n x) s2 in
      subst P (sym e) (received_both first ((n, f) ∷ []) s mid s2 p (last, r, is))

  -- a slot without a frame
  pub received_none : (first : List (ℕ × F)) (s mid s2 : S) (n : ℕ) (o : Option (Option F)) → ReceivesAll R s first mid → frame_of n o ≡ [] → s2 ≡ mid → ReceivesAll R s (first ++ frame_of n o) s2
  received_none first s mid s2 n o p e is =
      let P : List (ℕ × F) → Type 0 = λ xs. ReceivesAll R s (first ++ xs) s2 in
      subst P (sym e) (received_both first [] s mid s2 p is)

-- a sink that appends each frame to a list has appended all
pub received_items : {S F : Type 0} (items : S → List (ℕ × F)) (R : S → ℕ → F → S → Type 0) →
    ((s s2 : S) (n : ℕ) (f : F) → R s n f s2 → items s2 ≡ items s ++ (n, f) ∷ []) →
    (frames : List (ℕ × F)) (s s2 : S) → ReceivesAll R s frames s2 → items s2 ≡ items s ++ frames
received_items items R one [] s s2 p = ap items p ∙ sym (append-nil (items s))
received_items {S} {F} items R one (p ∷ frames) s s2 q =
    received_items items R one frames q.0 s2 q.2 ∙ ap (λ (xs : List (ℕ × F)). xs ++ frames) (one s q.0 p.0 p.1 q.1) ∙ append_assoc (items s) (p ∷ []) frames
