-- The frames below a window's start, which are passed up.
use Rattle.std.proofs.Common.{◌≡◌, ℕ, zero, suc, ◌<◌, ⊎_elim, Option, None, Some, List, [], ◌∷◌, ◌++◌, get_or, refl, sym, ap, ◌∙◌, subst, arith}
use Rattle.std.specs.Prelude.{AllPairs, Contains}
use Rattle.std.proofs.lemmas.Bool.{cases_lt}
use Rattle.std.proofs.lemmas.List.{append-nil}
use Rattle.std.proofs.lemmas.List.Elements.{Contains-append_left, Contains-append_right, Contains-append_cases, Contains-push, Contains-push_cases, Contains-get_or}
use Rattle.std.proofs.lemmas.List.Quantifiers.{all_pairs_push}
use Rattle.blockack.specs.Window.{Items}
use Rattle.blockack.specs.Passed.{frame_of, frames_below}

pub none_in_none : {X : Type 0} → (x : X) → Contains [] x → ⊥
none_in_none x c = let k : ℕ = c.0 in let lt : k < 0 = c.1 in absurd (omega arith)

module _ {F : Type 0} where
  -- the frame of an item, and no other
  pub frame_in : (n : ℕ) (o : Option (Option F)) (p : ℕ × F) → Contains (frame_of n o) p → (p.0 ≡ n) × (o ≡ Some (Some p.1))
  frame_in n None p c = absurd (none_in_none p c)
  frame_in n (Some None) p c = absurd (none_in_none p c)
  frame_in n (Some (Some frame)) p c =
      ⊎_elim (λ none. absurd (none_in_none p none)) (λ e. (sym (ap (λ x. x.0) e), ap (λ x. Some (Some x.1)) e)) (Contains-push_cases [] (n, frame) p c)

  -- what is passed up is below the window, and was taken
  pub in_below : (taken : Items F) (w : ℕ) (p : ℕ × F) → Contains (frames_below taken w) p → (p.0 < w) × (taken p.0 ≡ Some (Some p.1))
  in_below taken zero p c = absurd (none_in_none p c)
  in_below taken (suc w) p c =
      ⊎_elim
      (λ before. let ih = in_below taken w p before in let lt = ih.0 in (omega arith, ih.1))
      (λ last. let f = frame_in w (taken w) p last in let e = f.0 in (omega arith, ap taken f.0 ∙ f.1))
      (Contains-append_cases (frames_below taken w) (frame_of w (taken w)) p c)

  -- and all of that is passed up
  pub below_in : (taken : Items F) (w n : ℕ) (frame : F) → n < w → taken n ≡ Some (Some frame) → Contains (frames_below taken w) (n, frame)
  below_in taken zero n frame lt e = absurd (omega arith)
  below_in taken (suc w) n frame lt e =
      ⊎_elim
      (λ before. Contains-append_left (frames_below taken w) (frame_of w (taken w)) (n, frame) (below_in taken w n frame before e))
      (λ from.
      let here : n ≡ w = omega arith in
      let is : frame_of w (taken w) ≡ (n, frame) ∷ [] = ap (λ x. frame_of x (taken x)) (sym here) ∙ ap (frame_of n) e in
      let P : List (ℕ × F) → Type 0 = λ xs. Contains xs (n, frame) in
      Contains-append_right (frames_below taken w) (frame_of w (taken w)) (n, frame) (subst P (sym is) (Contains-push [] (n, frame))))
      (cases_lt n w)

  pub rises : (taken : Items F) (w : ℕ) → AllPairs (λ p q. p.0 < q.0) (frames_below taken w)
  rises taken zero = λ i j d lt within. absurd (omega arith)
  rises taken (suc w) = rises_with (frames_below taken w) w (taken w) (rises taken w) (λ p c. (in_below taken w p c).0)
    where
      rises_with : (xs : List (ℕ × F)) (w : ℕ) (o : Option (Option F)) → AllPairs (λ p q. p.0 < q.0) xs → ((p : ℕ × F) → Contains xs p → p.0 < w) → AllPairs (λ p q. p.0 < q.0) (xs ++ frame_of w o)
      rises_with xs w None rising below = let P : List (ℕ × F) → Type 0 = λ ys. AllPairs (λ p q. p.0 < q.0) ys in subst P (sym (append-nil xs)) rising
      rises_with xs w (Some None) rising below = let P : List (ℕ × F) → Type 0 = λ ys. AllPairs (λ p q. p.0 < q.0) ys in subst P (sym (append-nil xs)) rising
      rises_with xs w (Some (Some frame)) rising below = all_pairs_push (λ p q. p.0 < q.0) xs (w, frame) rising (λ k d lt. below (get_or xs k d) (Contains-get_or xs k d lt))

  pub nothing_below : (w : ℕ) → frames_below {F = F} (λ _. None) w ≡ []
  nothing_below zero = refl
  nothing_below (suc w) = ap (λ xs. xs ++ []) (nothing_below w)
