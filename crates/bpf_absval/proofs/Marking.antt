-- Rows of which some values are seen changed.
use Rattle.std.proofs.Common.{◌≡◌, ◌≢◌, ℕ, zero, suc, ◌+◌, ◌<◌, ◌≤◌, true, false, cond, List, [], ◌∷◌, ◌++◌, length, refl, ap, sym, ◌∙◌, arith, add-zero, slice_set, slice_index_or}
use Rattle.std.specs.Prelude.{All, slice_get, Some}
use Rattle.std.proofs.lemmas.List.Elements.{All-cons, All-head, All-tail}
use Rattle.std.proofs.lemmas.Bool.{cond_both}
use Rattle.std.proofs.lemmas.Nat.Bits.{bit_at-zero}
use Rattle.bpf_absval.specs.Marked.{is_marked, seen_at, seen}

next_index : (first n : ℕ) → first + 1 + n ≡ first + suc n
next_index first n = omega arith

-- two marks agree at n indices from first on
abbrev pub Agree : ℕ → ℕ → ℕ → ℕ → Type 0
Agree m n first len = (i : ℕ) → first ≤ i → i < first + len → is_marked n i ≡ is_marked m i

module _ {X : Type 0} (g : X → X) where
  pub seen_none : (first : ℕ) (xs : List X) → seen g 0 first xs ≡ xs
  unfolding seen
  seen_none first [] = refl
  seen_none first (x ∷ xs) = rw (bit_at-zero first) (ap (λ (rest : List X). x ∷ rest) (seen_none (first + 1) xs))

  pub seen_length : (m first : ℕ) (xs : List X) → length (seen g m first xs) ≡ length xs
  unfolding seen
  seen_length m first [] = refl
  seen_length m first (x ∷ xs) = ap suc (seen_length m (first + 1) xs)

  pub seen_append : (m first : ℕ) (l r : List X) → seen g m first (l ++ r) ≡ seen g m first l ++ seen g m (first + length l) r
  unfolding seen
  seen_append m first [] r = ap (λ k. seen g m k r) (sym (add-zero first))
  seen_append m first (x ∷ l) r =
      ap (λ (rest : List X). seen_at g m first x ∷ rest)
      (seen_append m (first + 1) l r ∙ ap (λ k. seen g m (first + 1) l ++ seen g m k r) (next_index first (length l)))

  pub seen_agree : (m n first : ℕ) (xs : List X) → Agree m n first (length xs) → seen g n first xs ≡ seen g m first xs
  unfolding seen
  seen_agree m n first [] same = refl
  seen_agree m n first (x ∷ xs) same =
      ap (λ b. cond b (g x) x ∷ seen g n (first + 1) xs) (same first (omega arith) (omega arith))
      ∙ ap (λ (rest : List X). seen_at g m first x ∷ rest) (seen_agree m n (first + 1) xs (λ i l h. same i (omega (arith, l)) (omega (arith, h))))

  pub seen_get : (m first : ℕ) (xs : List X) (i : ℕ) (x : X) → slice_get xs i ≡ Some x → slice_get (seen g m first xs) i ≡ Some (seen_at g m (first + i) x)
  unfolding seen
  seen_get m first [] i x h = absurd (cc)
  seen_get m first (y ∷ xs) zero x h =
      let same : y ≡ x = cc in
      rw (same, add-zero first) refl
  seen_get m first (y ∷ xs) (suc i) x h = rw (← next_index first i) (seen_get m (first + 1) xs i x h)

  pub seen_index : (m first : ℕ) (xs : List X) (i : ℕ) (d : X) → i < length xs → slice_index_or (seen g m first xs) i d ≡ seen_at g m (first + i) (slice_index_or xs i d)
  unfolding seen
  seen_index m first [] i d h = absurd (omega (arith, h))
  seen_index m first (y ∷ xs) zero d h = rw (add-zero first) refl
  seen_index m first (y ∷ xs) (suc i) d h = rw (← next_index first i) (seen_index m (first + 1) xs i d (omega (arith, h)))

  -- the marks agree at all other indices of a row of that length
  abbrev pub AgreeApart : ℕ → ℕ → ℕ → ℕ → ℕ → Type 0
  AgreeApart m n first len index = (i : ℕ) → first ≤ i → i < first + len → i ≢ index → is_marked n i ≡ is_marked m i

  pub seen_written : (m n first : ℕ) (xs : List X) (i : ℕ) (s : X) → is_marked n (first + i) ≡ false → AgreeApart m n first (length xs) (first + i)
      → seen g n first (slice_set xs i s) ≡ slice_set (seen g m first xs) i s
  unfolding seen
  seen_written m n first [] i s here same = refl
  seen_written m n first (x ∷ xs) zero s here same =
      let unmarked : is_marked n first ≡ false = rw (add-zero first) at here in
      rw unmarked
      (ap (λ (rest : List X). s ∷ rest) (seen_agree m n (first + 1) xs (λ i l h. same i (omega (arith, l)) (omega (arith, h)) (λ e. absurd (omega (arith, l, e))))))
  seen_written m n first (x ∷ xs) (suc i) s here same =
      ap (λ b. cond b (g x) x ∷ seen g n (first + 1) (slice_set xs i s)) (same first (omega arith) (omega arith) (λ e. absurd (omega (arith, e))))
      ∙ ap (λ (rest : List X). seen_at g m first x ∷ rest)
      (seen_written m n (first + 1) xs i s (rw (next_index first i) here)
      (λ j l h apart. same j (omega (arith, l)) (omega (arith, h)) (λ e. apart (e ∙ sym (next_index first i)))))

  pub seen_marked : (m n first : ℕ) (xs : List X) (i : ℕ) (d : X) → is_marked n (first + i) ≡ true → AgreeApart m n first (length xs) (first + i)
      → seen g n first xs ≡ slice_set (seen g m first xs) i (g (slice_index_or xs i d))
  unfolding seen
  seen_marked m n first [] i d here same = refl
  seen_marked m n first (x ∷ xs) zero d here same =
      let marked : is_marked n first ≡ true = rw (add-zero first) at here in
      rw marked
      (ap (λ (rest : List X). g x ∷ rest) (seen_agree m n (first + 1) xs (λ i l h. same i (omega (arith, l)) (omega (arith, h)) (λ e. absurd (omega (arith, l, e))))))
  seen_marked m n first (x ∷ xs) (suc i) d here same =
      ap (λ b. cond b (g x) x ∷ seen g n (first + 1) xs) (same first (omega arith) (omega arith) (λ e. absurd (omega (arith, e))))
      ∙ ap (λ (rest : List X). seen_at g m first x ∷ rest)
      (seen_marked m n (first + 1) xs i d (rw (next_index first i) here)
      (λ j l h apart. same j (omega (arith, l)) (omega (arith, h)) (λ e. apart (e ∙ sym (next_index first i)))))

  pub seen_all : (P : X → Type 0) (m first : ℕ) (xs : List X) → ((x : X) → P x → P (g x)) → All P xs → All P (seen g m first xs)
  unfolding seen
  seen_all P m first [] keeps h = h
  seen_all P m first (x ∷ xs) keeps h =
      All-cons P (seen_at g m first x) (seen g m (first + 1) xs)
      (cond_both (is_marked m first) (g x) x P (λ e. keeps x (All-head P x xs h)) (λ e. All-head P x xs h))
      (seen_all P m (first + 1) xs keeps (All-tail P x xs h))
