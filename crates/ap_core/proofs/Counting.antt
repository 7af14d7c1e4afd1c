-- Counting the stations that hold identifiers.
use Rattle.std.proofs.Common.{◌≡◌, ◌≢◌, ℕ, zero, suc, ◌+◌, ◌*◌, ◌/◌, ◌≤◌, cond, Option, Some, None, List, [], ◌∷◌, length, refl, sym, ap, ◌∙◌, subst, arith}
use Rattle.std.specs.Prelude.{Contains, AllPairs, count_by, is_some, slice_index_or}
use Rattle.std.proofs.lemmas.List.Elements.{All-contains_itself}
use Rattle.std.proofs.lemmas.List.Kept.{AllPairs-cons}
use Rattle.std.proofs.lemmas.List.Recursion.{is_count_by}
use Rattle.assoc.specs.declared.standing.Known.TheVariants.{Authenticated, Associated}
use Rattle.assoc.specs.Standings.{Standing, Linked, standing, state_of, HoldsAsTheyStand, associated_count}
use Rattle.ap_model.specs.Stations.{AreAssociated}

-- the stations that hold identifiers
held : List (Option (List ℕ)) → List (List ℕ)
held [] = []
held (None ∷ xs) = held xs
held (Some a ∷ xs) = a ∷ held xs

length_held : (xs : List (Option (List ℕ))) → length (held xs) ≡ count_by is_some xs
unfolding held
length_held xs = is_count_by (λ ys. length (held ys)) is_some refl one xs
  where
    one : (x : Option (List ℕ)) (ys : List (Option (List ℕ))) → length (held (x ∷ ys)) ≡ cond (is_some x) (1 + length (held ys)) (length (held ys))
    one None ys = refl
    one (Some a) ys = omega arith

held_at : (xs : List (Option (List ℕ))) (a : List ℕ) (k : ℕ) → slice_index_or xs k None ≡ Some a → Contains (held xs) a
unfolding held
held_at [] a k e = absurd cc
held_at (None ∷ xs) a zero e = absurd cc
held_at (None ∷ xs) a (suc k) e = held_at xs a k e
held_at (Some b ∷ xs) a zero e = let f : b ≡ a = cc in (0, omega arith, f)
held_at (Some b ∷ xs) a (suc k) e = let r = held_at xs a k e in (suc r.0, omega (arith, r.1), r.2)

place_of : (xs : List (Option (List ℕ))) (a : List ℕ) → Contains (held xs) a → (k : ℕ) × (slice_index_or xs k None ≡ Some a)
unfolding held
place_of [] a c = absurd (omega (arith, c.1))
place_of (None ∷ xs) a c = let r = place_of xs a c in (suc r.0, r.1)
place_of (Some b ∷ xs) a (zero, l, e) = (0, ap (λ (x : List ℕ). Some x) e)
place_of (Some b ∷ xs) a (suc k, l, e) = let r = place_of xs a (k, omega (arith, l), e) in (suc r.0, r.1)

-- no station holds two
abbrev HeldOnce : List (Option (List ℕ)) → Type 0
HeldOnce xs = (i j : ℕ) (a : List ℕ) → slice_index_or xs i None ≡ Some a → slice_index_or xs j None ≡ Some a → i ≡ j

held_apart : (xs : List (Option (List ℕ))) → HeldOnce xs → AllPairs (λ a b. a ≢ b) (held xs)
unfolding held
held_apart [] once = λ i j d l m. absurd (omega (arith, m))
held_apart (None ∷ xs) once = held_apart xs (λ i j a e f. let s : suc i ≡ suc j = once (suc i) (suc j) a e f in omega arith)
held_apart (Some b ∷ xs) once =
    AllPairs-cons (λ a b. a ≢ b) b (held xs)
    (λ k d l e.
    let r = place_of xs b (subst (λ (a : List ℕ). Contains (held xs) a) (sym e) (All-contains_itself (held xs) k d l)) in
    let s : 0 ≡ suc r.0 = once 0 (suc r.0) b refl r.1 in
    absurd (omega arith))
    (held_apart xs (λ i j a e f. let s : suc i ≡ suc j = once (suc i) (suc j) a e f in omega arith))

few_held : (xs : List (Option (List ℕ))) (m : ℕ) → ((k : ℕ) → m ≤ k → slice_index_or xs k None ≡ None) → length (held xs) ≤ m
unfolding held
few_held [] m none = omega arith
few_held (None ∷ xs) zero none = few_held xs zero (λ k le. none (suc k) (omega arith))
few_held (None ∷ xs) (suc m) none = let l = few_held xs m (λ k le. none (suc k) (omega (arith, le))) in omega arith
few_held (Some b ∷ xs) zero none = absurd (let e : Some b ≡ None = none 0 (omega arith) in cc)
few_held (Some b ∷ xs) (suc m) none = let l = few_held xs m (λ k le. none (suc k) (omega (arith, le))) in omega arith

module _ (v : Linked) (h : HoldsAsTheyStand v) where
  one_place : HeldOnce v.holders
  one_place i j a e f =
      let s : Some (Associated (8 * i + v.shard)) ≡ Some (Associated (8 * j + v.shard)) = sym (h.held i a e) ∙ h.held j a f in
      let t : 8 * i + v.shard ≡ 8 * j + v.shard = cc in
      omega arith

  held_by : (a : List ℕ) (s : Standing) → standing v a ≡ s → state_of s ≡ 3 → Contains (held v.holders) a
  held_by a None e three = absurd (omega (arith, three))
  held_by a (Some Authenticated) e three = absurd (omega (arith, three))
  held_by a (Some (Associated n)) e three = held_at v.holders a (n / 8) (h.holds a n e)

  -- the number of associated stations is the number of identifiers held
  pub are_associated : AreAssociated (standing v) (associated_count v)
  are_associated =
      record {
        stations = held v.holders;
        apart = held_apart v.holders one_place;
        exact = λ a. (λ c. let r = place_of v.holders a c in ap state_of (h.held r.0 a r.1), held_by a (standing v a) refl);
        many = length_held v.holders;
      }

  above : (k : ℕ) (o : Option (List ℕ)) → 2007 ≤ k → slice_index_or v.holders k None ≡ o → o ≡ None
  above k None le e = refl
  above k (Some a) le e = let own = h.own a (8 * k + v.shard) (h.held k a e) in let high = own.high in absurd (omega arith)

  pub few_associated : associated_count v ≤ 2007
  few_associated =
      let l = few_held v.holders 2007 (λ k le. above k (slice_index_or v.holders k None) le refl) in
      let e = length_held v.holders in
      omega arith
