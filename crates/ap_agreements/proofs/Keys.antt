-- The order of stations and TIDs.
use Rattle.std.proofs.Common.{◌≡◌, ℕ, ◌<◌, List, true, false, refl, ap, subst, inl, inr, ◌⊎◌}
use Rattle.std.proofs.lemmas.Cmp.{ranked, then_total, on_total, nat_cmp_total, nat_list_cmp_total, tied_itself}
use Rattle.std.proofs.lemmas.Map.Lookups.{exact_bytes, exact_unsigned}
use Rattle.std.specs.Prelude.{◌&&◌, ◌==◌}
use Rattle.std.specs.Ordering.{nat_cmp, ordering_then, MatchOrdering}
use Rattle.std.specs.declared.cmp.Ordering.{Ordering}
use Rattle.std.specs.declared.cmp.Ordering.TheVariants.{Less, Equal, Greater}
use Rattle.std.specs.Cmp.{IsTotalOrder}
use Rattle.std.specs.Cmp.Lexicographic.{slice_cmp, bytes_decides}
use Rattle.std.proofs.lemmas.Bool.{and_parts, false_from_ne_true}
use Rattle.std.proofs.lemmas.Bool.Decides.{nat_tests}
use Rattle.std.proofs.Common.{arith}
use Rattle.assoc.specs.Standings.{same_address}
use Rattle.ap_model.specs.Steps.{IsBefore}
use Rattle.ap_agreements.specs.Tables.{Kept, key_of, key_cmp, is_for}

pub key_total : IsTotalOrder key_cmp
key_total = then_total (on_total (λ (p : List ℕ × ℕ). p.0) nat_list_cmp_total) (on_total (λ (p : List ℕ × ℕ). p.1) nat_cmp_total)

pub not_itself : (p q : List ℕ × ℕ) → p ≡ q → key_cmp p q ≡ Less → ⊥
not_itself p q e h = let t = tied_itself key_total p in let s = ap (λ k. key_cmp p k) e in cc

both_equal : (r s : Ordering) → ordering_then r s ≡ Equal → (r ≡ Equal) × (s ≡ Equal)
both_equal Less s e = absurd (cc)
both_equal Equal s e = (refl, e)
both_equal Greater s e = absurd (cc)

-- keys that compare as equal are the same
pub exact_key : (p q : List ℕ × ℕ) → key_cmp p q ≡ Equal → p ≡ q
exact_key p q e =
    let b = both_equal (slice_cmp nat_cmp p.0 q.0) (nat_cmp p.1 q.1) e in
    let f = exact_bytes p.0 q.0 b.0 in
    let g = exact_unsigned p.1 q.1 b.1 in
    λ i. (f i, g i)

less_by : (r s : Ordering) → ordering_then r s ≡ Less → (r ≡ Less) ⊎ ((r ≡ Equal) × (s ≡ Less))
less_by Less s e = inl refl
less_by Equal s e = inr (refl, e)
less_by Greater s e = absurd (cc)

below_less : (x y : ℕ) (r : Ordering) → MatchOrdering r (x < y) (x ≡ y) (y < x) → r ≡ Less → x < y
below_less x y Less h e = h
below_less x y Equal h e = absurd (cc)
below_less x y Greater h e = absurd (cc)

-- a key that is less comes before, by address, then TID
pub before_less : (p q : List ℕ × ℕ) → key_cmp p q ≡ Less → IsBefore p q
before_less p q e =
    elim (less_by (slice_cmp nat_cmp p.0 q.0) (nat_cmp p.1 q.1) e) [
      | inl h ↦ inl h
      | inr h ↦ inr (exact_bytes p.0 q.0 h.0, below_less p.1 q.1 (nat_cmp p.1 q.1) (ranked p.1 q.1 (nat_cmp p.1 q.1) refl) h.1)
    ]

-- an agreement for a station and a TID has their key
pub key_is : (a : List ℕ) (tid : ℕ) (k : Kept) → is_for a tid k ≡ true → key_of k ≡ (a, tid)
key_is a tid k e =
    let b = and_parts (same_address k.station a) (k.tid == tid) e in
    let f = (bytes_decides k.station a).0 b.0 in
    let h = b.1 in
    let g : k.tid ≡ tid = grind (arith, nat_tests) in
    λ i. (f i, g i)

pub is_key : (k : Kept) → is_for k.station k.tid k ≡ true
is_key k =
    let s = (bytes_decides k.station k.station).1 refl in
    let t : (k.tid == k.tid) ≡ true = grind (arith, nat_tests) in
    rw (s, t) refl

pub is_key_of : (a : List ℕ) (tid : ℕ) (k : Kept) → key_of k ≡ (a, tid) → is_for a tid k ≡ true
is_key_of a tid k e =
    let f : k.station ≡ a = ap (λ p. p.0) e in
    let g : k.tid ≡ tid = ap (λ p. p.1) e in
    subst (λ b. is_for b tid k ≡ true) f (subst (λ t. is_for k.station t k ≡ true) g (is_key k))

pub not_key : (a : List ℕ) (tid : ℕ) (k : Kept) → (key_of k ≡ (a, tid) → ⊥) → is_for a tid k ≡ false
not_key a tid k h = false_from_ne_true (is_for a tid k) (λ e. h (key_is a tid k e))

pub same_key : (a : List ℕ) (tid : ℕ) (q : List ℕ) (t : ℕ) → (same_address a q && (tid == t)) ≡ true → (let p : List ℕ × ℕ = (a, tid) in p) ≡ (q, t)
same_key a tid q t e =
    let b = and_parts (same_address a q) (tid == t) e in
    let f = (bytes_decides a q).0 b.0 in
    let h = b.1 in
    let g : tid ≡ t = grind (arith, nat_tests) in
    λ i. (f i, g i)
