-- Tables without some of their agreements.
use Rattle.std.proofs.Common.{◌≡◌, ℕ, ◌<◌, zero, suc, List, [], ◌∷◌, length, map, Bool, true, false, not, cond, Option, Some, None, refl, sym, ap, subst, ◌∙◌, arith, All, slice_index_or, filter}
use Rattle.std.proofs.lemmas.Bool.{and_left}
use Rattle.std.proofs.lemmas.List.{get_or_default}
use Rattle.std.proofs.lemmas.List.Elements.{All-map}
use Rattle.std.proofs.lemmas.List.Kept.{AllPairs-cons, AllPairs-filter}
use Rattle.std.specs.Prelude.{AllPairs, Contains, ◌==◌, ◌↔◌}
use Rattle.std.specs.Cmp.Lexicographic.{bytes_decides}
use Rattle.std.specs.declared.cmp.Ordering.TheVariants.{Less}
use Rattle.assoc.specs.Standings.{same_address}
use Rattle.ap_model.specs.Readings.{Using}
use Rattle.ap_model.specs.Steps.{IsBefore}
use Rattle.ap_agreements.specs.Tables.{Kept, key_of, key_cmp, is_for, agreement_in, IsRising, IsPlaceOf, Discards, is_late, IsLateIn, unless_late}
use Rattle.ap_agreements.proofs.Keys.{key_is, before_less}
use Rattle.ap_agreements.proofs.Lookups.{none_after}
use Rattle.ap_agreements.proofs.Places.{found}

-- ---- the agreements of one station

module _ (a : List ℕ) (k : Kept) (u : Using) where
  no_match : (q : List ℕ) (t : ℕ) → same_address k.station a ≡ true → same_address a q ≡ false → is_for q t k ≡ false
  no_match q t e f =
      let s = (bytes_decides k.station a).0 e in
      and_left (same_address k.station q) (k.tid == t) (subst (λ b. same_address b q ≡ false) (sym s) f)

  no_match_of : (q : List ℕ) (t : ℕ) → same_address k.station a ≡ false → same_address a q ≡ true → is_for q t k ≡ false
  no_match_of q t e f =
      let s = (bytes_decides a q).0 f in
      and_left (same_address k.station q) (k.tid == t) (subst (λ b. same_address k.station b ≡ false) s e)

  left : (rest ks : List Kept) (q : List ℕ) (t : ℕ) → agreement_in rest q t ≡ cond (same_address a q) None (agreement_in ks q t) →
      (s b f : Bool) → same_address k.station a ≡ s → same_address a q ≡ b → is_for q t k ≡ f →
      agreement_in (cond (not s) (k ∷ rest) rest) q t ≡ cond (same_address a q) None (agreement_in (k ∷ ks) q t)
  left rest ks q t h true true f e1 e2 e3 = rw e2 (h ∙ rw e2 refl)
  left rest ks q t h true false f e1 e2 e3 = rw (e2, no_match q t e1 e2) (h ∙ rw e2 refl)
  left rest ks q t h false true f e1 e2 e3 = rw (e2, no_match_of q t e1 e2) (h ∙ rw e2 refl)
  left rest ks q t h false false true e1 e2 e3 = rw (e2, e3) refl
  left rest ks q t h false false false e1 e2 e3 = rw (e2, e3) (h ∙ rw e2 refl)

none_either : (b : Bool) (o : Option Using) → o ≡ None → o ≡ cond b None o
none_either true o e = e
none_either false o e = refl

pub discarded : (a : List ℕ) (ks : List Kept) → Discards ks a (filter (λ k. not (same_address k.station a)) ks)
discarded a [] q t = none_either (same_address a q) None refl
discarded a (k ∷ ks) q t =
    left a k k.using (filter (λ k. not (same_address k.station a)) ks) ks q t (discarded a ks q t)
    (same_address k.station a) (same_address a q) (is_for q t k) refl refl refl

-- ---- the timed-out ones

pub rising_tail : (k : Kept) (ks : List Kept) → IsRising (k ∷ ks) → IsRising ks
rising_tail k ks r i j d lt l = r (suc i) (suc j) d (omega (arith, lt)) (omega (arith, l))

pub rising_head : (k : Kept) (ks : List Kept) → IsRising (k ∷ ks) → All (λ q. key_cmp (key_of k) (key_of q) ≡ Less) ks
rising_head k ks r j d l = r zero (suc j) d (omega arith) (omega (arith, l))

pub none_again : (k : Kept) (ks : List Kept) → IsRising (k ∷ ks) → (a : List ℕ) (tid : ℕ) → is_for a tid k ≡ true → agreement_in ks a tid ≡ None
none_again k ks r a tid e = none_after [] ks k (λ i d l. absurd (omega (arith, l))) (rising_head k ks r) a tid e

module _ (clock : ℕ) where
  abbrev pub late : Kept → Bool
  late k = is_late clock k.using

  abbrev pub timely : Kept → Bool
  timely k = not (is_late clock k.using)

  stays_by : (k : Kept) (ks rest : List Kept) (a : List ℕ) (tid : ℕ) → (is_for a tid k ≡ true → agreement_in ks a tid ≡ None) →
      agreement_in rest a tid ≡ unless_late clock (agreement_in ks a tid) →
      (l f : Bool) → is_late clock k.using ≡ l → is_for a tid k ≡ f →
      agreement_in (cond (not l) (k ∷ rest) rest) a tid ≡ unless_late clock (agreement_in (k ∷ ks) a tid)
  stays_by k ks rest a tid n h true true e1 e2 = rw (e2, e1) (h ∙ rw (n e2) refl)
  stays_by k ks rest a tid n h true false e1 e2 = rw e2 h
  stays_by k ks rest a tid n h false true e1 e2 = rw (e2, e1) refl
  stays_by k ks rest a tid n h false false e1 e2 = rw e2 h

  pub stay : (ks : List Kept) → IsRising ks → (a : List ℕ) (tid : ℕ) → agreement_in (filter timely ks) a tid ≡ unless_late clock (agreement_in ks a tid)
  stay [] r a tid = refl
  stay (k ∷ ks) r a tid =
      stays_by k ks (filter timely ks) a tid (none_again k ks r a tid) (stay ks (rising_tail k ks r) a tid)
      (is_late clock k.using) (is_for a tid k) refl refl

-- ---- what is in a table

in_one_more : {X : Type 0} (y : X) (xs : List X) (x : X) → Contains xs x → Contains (y ∷ xs) x
in_one_more y xs x c = (suc c.0, omega (arith, c.1), c.2)

module _ {X : Type 0} (p : X → Bool) where
  out_by : (y : X) (xs rest : List X) (x : X) → (Contains rest x → Contains xs x × (p x ≡ true)) →
      (b : Bool) → p y ≡ b → (n : ℕ) → n < length (cond b (y ∷ rest) rest) → slice_index_or (cond b (y ∷ rest) rest) n x ≡ x → Contains (y ∷ xs) x × (p x ≡ true)
  out_by y xs rest x h true e zero l f = ((zero, omega arith, f), subst (λ (z : X). p z ≡ true) f e)
  out_by y xs rest x h true e (suc n) l f =
      let c : Contains rest x = (n, omega (arith, l), f) in
      let g = h c in
      (in_one_more y xs x g.0, g.1)
  out_by y xs rest x h false e n l f =
      let c : Contains rest x = (n, l, f) in
      let g = h c in
      (in_one_more y xs x g.0, g.1)

  pub out_of_filter : (xs : List X) (x : X) → Contains (filter p xs) x → Contains xs x × (p x ≡ true)
  out_of_filter [] x c = absurd (let l = c.1 in omega (arith, l))
  out_of_filter (y ∷ xs) x c = out_by y xs (filter p xs) x (out_of_filter xs x) (p y) refl c.0 c.1 c.2

  in_by : (y : X) (rest : List X) (x : X) (b : Bool) → Contains rest x → Contains (cond b (y ∷ rest) rest) x
  in_by y rest x true c = in_one_more y rest x c
  in_by y rest x false c = c

  first_by : (y : X) (rest : List X) (x : X) → y ≡ x → (b : Bool) → b ≡ true → Contains (cond b (y ∷ rest) rest) x
  first_by y rest x f true e = (zero, omega arith, f)
  first_by y rest x f false e = absurd (cc)

  into_filter_at : (xs : List X) (x : X) (n : ℕ) → n < length xs → slice_index_or xs n x ≡ x → p x ≡ true → Contains (filter p xs) x
  into_filter_at [] x n l f e = absurd (omega arith)
  into_filter_at (y ∷ xs) x zero l f e = first_by y (filter p xs) x f (p y) (subst (λ (z : X). p z ≡ true) (sym f) e)
  into_filter_at (y ∷ xs) x (suc n) l f e = in_by y (filter p xs) x (p y) (into_filter_at xs x n (omega (arith, l)) f e)

  pub into_filter : (xs : List X) (x : X) → Contains xs x → p x ≡ true → Contains (filter p xs) x
  into_filter xs x c e = into_filter_at xs x c.0 c.1 c.2 e

some_by : (k : Kept) (ks : List Kept) (a : List ℕ) (tid : ℕ) (u : Using) (f : Bool) → is_for a tid k ≡ f →
    (agreement_in ks a tid ≡ Some u → Contains ks (record { station = a; tid = tid; using = u })) →
    cond f (Some k.using) (agreement_in ks a tid) ≡ Some u → Contains (k ∷ ks) (record { station = a; tid = tid; using = u })
some_by k ks a tid u true e h g =
    let key = key_is a tid k e in
    let us : k.using ≡ u = cc in
    (zero, omega arith, (λ i. record { station = (key i).0; tid = (key i).1; using = us i }))
some_by k ks a tid u false e h g = in_one_more k ks (record { station = a; tid = tid; using = u }) (h g)

pub stands : (ks : List Kept) (a : List ℕ) (tid : ℕ) (u : Using) → agreement_in ks a tid ≡ Some u → Contains ks (record { station = a; tid = tid; using = u })
stands [] a tid u e = absurd (cc)
stands (k ∷ ks) a tid u e = some_by k ks a tid u (is_for a tid k) refl (stands ks a tid u) e

pub is_found : (ks : List Kept) → IsRising ks → (k : Kept) → Contains ks k → agreement_in ks k.station k.tid ≡ Some k.using
is_found ks r k c =
    let place : IsPlaceOf ks (key_of k) c.0 = record { inside = c.1; is = λ d. ap key_of (get_or_default ks c.0 d k c.1 ∙ c.2) } in
    found ks r (key_of k) c.0 place k ∙ ap (λ (x : Kept). Some x.using) c.2

pub exactly_late : (clock : ℕ) (ks : List Kept) → IsRising ks → (k : Kept) → Contains (filter (late clock) ks) k ↔ IsLateIn clock ks k
exactly_late clock ks r k = (
  λ c. let g = out_of_filter (late clock) ks k c in record { is = is_found ks r k g.0; late = g.1 },
  λ l. into_filter (late clock) ks k (stands ks k.station k.tid k.using l.is) l.late,
)

-- ---- the order of keys

keys_rise : (ks : List Kept) → IsRising ks → AllPairs IsBefore (map key_of ks)
keys_rise [] r = λ i j d lt l. absurd (omega (arith, l))
keys_rise (k ∷ ks) r =
    AllPairs-cons IsBefore (key_of k) (map key_of ks)
    (All-map (IsBefore (key_of k)) key_of ks (λ i d l. before_less (key_of k) (key_of (slice_index_or ks i d)) (rising_head k ks r i d l)))
    (keys_rise ks (rising_tail k ks r))

pub rises_kept : (p : Kept → Bool) (ks : List Kept) → IsRising ks → IsRising (filter p ks)
rises_kept p ks r = AllPairs-filter (λ x y. key_cmp (key_of x) (key_of y) ≡ Less) p ks r

pub late_rise : (clock : ℕ) (ks : List Kept) → IsRising ks → AllPairs IsBefore (map key_of (filter (late clock) ks))
late_rise clock ks r = keys_rise (filter (late clock) ks) (rises_kept (late clock) ks r)
