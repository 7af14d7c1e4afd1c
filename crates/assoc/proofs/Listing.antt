-- The list of the known stations.
use Rattle.std.proofs.Common.{◌≡◌, ◌≢◌, ℕ, ◌<◌, zero, suc, List, [], ◌∷◌, length, map, false, Some, refl, sym, ap, subst, ◌∙◌, arith}
use Rattle.std.specs.Prelude.{◌↔◌, Contains, slice_index_or}
use Rattle.std.specs.List.{IsDistinct}
use Rattle.std.specs.List.Sorted.{IsPermutation, IsSortedByKey}
use Rattle.std.specs.Map.{keys_of, lookup}
use Rattle.std.specs.Ordering.{nat_cmp, ordering_reverse, is_lt}
use Rattle.std.specs.declared.cmp.Ordering.{Ordering}
use Rattle.std.specs.declared.cmp.Ordering.TheVariants.{Less, Equal, Greater}
use Rattle.std.specs.Cmp.Lexicographic.{slice_cmp}
use Rattle.std.proofs.lemmas.Cmp.{nat_list_cmp_total, nat_list_eq_equiv}
use Rattle.std.proofs.Math.ListN.{get_or-map}
use Rattle.std.proofs.lemmas.List.{length-map}
use Rattle.std.proofs.lemmas.List.Sorted.{Contains-permutation, IsPermutation-sym, IsPermutation-map, ranks_by, sorted_far}
use Rattle.std.proofs.lemmas.Map.Keys.{IsDistinct-IsPermutation, apart_from_distinct}
use Rattle.std.proofs.lemmas.Map.Lookups.{exact_bytes}
use Rattle.std.proofs.lemmas.Map.Views.{Contains-from_lookup, lookup-from_Contains}
use Rattle.std.proofs.lemmas.Slice.Eq.{bytes_eq-Decides}
use Rattle.assoc.specs.declared.standing.Known.{Known}
use Rattle.assoc.specs.declared.standing.KnownStation.{KnownStation}
use Rattle.assoc.specs.Standings.{same_address}
use Rattle.assoc.specs.Listing.{ListsStations, row_of}

-- a row comes from its entry
entry_at : (es : List (List ℕ × Known)) (row : KnownStation) (n : ℕ) → n < length (map row_of es) → slice_index_or (map row_of es) n row ≡ row → Contains es (row.station, row.known)
entry_at [] row n l e = absurd (omega arith)
entry_at (x ∷ es) row zero l e = (zero, omega arith, ap (λ (r : KnownStation). (r.station, r.known)) e)
entry_at (x ∷ es) row (suc n) l e = let c = entry_at es row n (omega (arith, l)) e in (suc c.0, omega (arith, c.1), c.2)

row_at : (es : List (List ℕ × Known)) (x : List ℕ × Known) (n : ℕ) → n < length es → slice_index_or es n x ≡ x → Contains (map row_of es) (row_of x)
row_at [] x n l e = absurd (omega arith)
row_at (y ∷ es) x zero l e = (zero, omega arith, ap row_of e)
row_at (y ∷ es) x (suc n) l e = let c = row_at es x n (omega (arith, l)) e in (suc c.0, omega (arith, c.1), c.2)

-- the rows' stations are the keys
stations_of : (es : List (List ℕ × Known)) → map (λ r. r.station) (map row_of es) ≡ keys_of es
stations_of [] = refl
stations_of (x ∷ es) = ap (λ (l : List (List ℕ)). x.0 ∷ l) (stations_of es)

-- of two different addresses, one that isn't after the other is before it
less_by : (a b : List ℕ) (o : Ordering) → slice_cmp nat_cmp b a ≡ o → is_lt o ≡ false → a ≢ b → slice_cmp nat_cmp a b ≡ Less
less_by a b Less e f other = absurd (cc)
less_by a b Equal e f other = absurd (other (sym (exact_bytes b a e)))
less_by a b Greater e f other = nat_list_cmp_total.antisymm a b ∙ ap ordering_reverse e

module _ (es : List (List ℕ × Known)) (rows : List KnownStation) (apart : IsDistinct same_address (keys_of es)) (moved : IsPermutation (map row_of es) rows) where
  exact : (row : KnownStation) → Contains rows row ↔ (lookup (same_address row.station) es ≡ Some row.known)
  exact row = (
    λ c.
        let there = Contains-permutation rows (map row_of es) row (IsPermutation-sym (map row_of es) rows moved) c in
        lookup-from_Contains nat_list_eq_equiv row.station row.known es apart (entry_at es row there.0 there.1 there.2),
    λ e.
        let there = Contains-from_lookup (λ x y same. (bytes_eq-Decides x y).0 same) row.station row.known es e in
        Contains-permutation (map row_of es) rows row moved (row_at es (row.station, row.known) there.0 there.1 there.2),
  )

  -- no two rows have one station
  apart_rows : IsDistinct same_address (map (λ r. r.station) rows)
  apart_rows =
      IsDistinct-IsPermutation same_address nat_list_eq_equiv.symm (map (λ r. r.station) (map row_of es)) (map (λ r. r.station) rows)
      (IsPermutation-map (λ (r : KnownStation). r.station) (map row_of es) rows moved)
      (subst (λ (l : List (List ℕ)). IsDistinct same_address l) (sym (stations_of es)) apart)

  other : (i j : ℕ) (d : KnownStation) → i < j → j < length rows → (slice_index_or rows i d).station ≢ (slice_index_or rows j d).station
  other i j d lt l same =
      let station : KnownStation → List ℕ = λ r. r.station in
      let differ = apart_from_distinct same_address (map station rows) i j (station d) apart_rows lt (omega (arith, l, length-map rows station)) in
      let one : slice_index_or (map station rows) i (station d) ≡ station (slice_index_or rows i d) = get_or-map station rows i d in
      let two : slice_index_or (map station rows) j (station d) ≡ station (slice_index_or rows j d) = get_or-map station rows j d in
      let tied = (bytes_eq-Decides (slice_index_or (map station rows) i (station d)) (slice_index_or (map station rows) j (station d))).1 (one ∙ same ∙ sym two) in
      absurd (cc)

  pub lists : IsSortedByKey (λ r. r.station) (slice_cmp nat_cmp) rows → ListsStations (λ a. lookup (same_address a) es) rows
  lists sorted =
      record {
        exact = exact;
        rising = λ i j d lt l.
            less_by (slice_index_or rows i d).station (slice_index_or rows j d).station _ refl
            (sorted_far _ (ranks_by nat_list_cmp_total (λ (r : KnownStation). r.station)) rows sorted i j d (omega (arith, lt)) l)
            (other i j d lt l);
      }
