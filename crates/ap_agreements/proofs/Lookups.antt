-- Looking up agreements in an ordered table.
use Rattle.std.proofs.Common.{◌≡◌, ℕ, zero, suc, List, [], ◌∷◌, ◌++◌, Bool, true, false, cond, Option, Some, None, refl, sym, ap, subst, ◌∙◌, arith, All, slice_index_or}
use Rattle.std.specs.Prelude.{◌&&◌, ◌==◌}
use Rattle.std.specs.declared.cmp.Ordering.TheVariants.{Less}
use Rattle.ap_model.specs.Readings.{Using}
use Rattle.ap_agreements.specs.Tables.{Kept, key_of, key_cmp, is_for, agreement_in, Sets}
use Rattle.assoc.specs.Standings.{same_address}
use Rattle.ap_agreements.proofs.Keys.{not_itself, key_is, is_key, not_key, same_key}

-- the first agreement, or else the second
abbrev pub or_else : Option Using → Option Using → Option Using
or_else None v = v
or_else (Some u) v = Some u

first_of_both : (b : Bool) (u : Using) (x y : Option Using) → cond b (Some u) (or_else x y) ≡ or_else (cond b (Some u) x) y
first_of_both true u x y = refl
first_of_both false u x y = refl

pub agreement_in-append : (xs ys : List Kept) (a : List ℕ) (tid : ℕ) → agreement_in (xs ++ ys) a tid ≡ or_else (agreement_in xs a tid) (agreement_in ys a tid)
agreement_in-append [] ys a tid = refl
agreement_in-append (k ∷ xs) ys a tid =
    ap (λ o. cond (is_for a tid k) (Some k.using) o) (agreement_in-append xs ys a tid)
    ∙ first_of_both (is_for a tid k) k.using (agreement_in xs a tid) (agreement_in ys a tid)

pub absent : (ks : List Kept) (a : List ℕ) (tid : ℕ) → All (λ k. is_for a tid k ≡ false) ks → agreement_in ks a tid ≡ None
absent [] a tid h = refl
absent (k ∷ ks) a tid h =
    let e : is_for a tid k ≡ false = h zero k (omega arith) in
    let t = absent ks a tid (λ i d l. h (suc i) d (omega (arith, l))) in
    rw (e, t) refl

pub present : (k : Kept) (ks : List Kept) (a : List ℕ) (tid : ℕ) → is_for a tid k ≡ true → agreement_in (k ∷ ks) a tid ≡ Some k.using
present k ks a tid e = rw e refl

module _ (before after : List Kept) (x : Kept) (below : All (λ k. key_cmp (key_of k) (key_of x) ≡ Less) before) where
  pub none_before : (a : List ℕ) (tid : ℕ) → is_for a tid x ≡ true → agreement_in before a tid ≡ None
  none_before a tid e =
      absent before a tid (λ i d l. not_key a tid (slice_index_or before i d) (λ f. not_itself (key_of (slice_index_or before i d)) (key_of x) (f ∙ sym (key_is a tid x e)) (below i d l)))

  pub found_at : agreement_in (before ++ (x ∷ after)) x.station x.tid ≡ Some x.using
  found_at =
      agreement_in-append before (x ∷ after) x.station x.tid
      ∙ ap (λ o. or_else o (agreement_in (x ∷ after) x.station x.tid)) (none_before x.station x.tid (is_key x))
      ∙ present x after x.station x.tid (is_key x)

  -- one that is inserted
  put_by : (b : Bool) (o v : Option Using) → (b ≡ true → o ≡ None) → or_else o (cond b (Some x.using) v) ≡ cond b (Some x.using) (or_else o v)
  put_by true o v h = rw (h refl) refl
  put_by false o v h = refl

  pub put_in : Sets (before ++ after) x.station x.tid (Some x.using) (before ++ (x ∷ after))
  put_in q t =
      agreement_in-append before (x ∷ after) q t
      ∙ put_by (is_for q t x) (agreement_in before q t) (agreement_in after q t) (none_before q t)
      ∙ ap (λ o. cond (is_for q t x) (Some x.using) o) (sym (agreement_in-append before after q t))

  -- one that is replaced by another of the same key
  set_by : (b : Bool) (w : Using) (o v : Option Using) → (b ≡ true → o ≡ None) →
      or_else o (cond b (Some w) v) ≡ cond b (Some w) (or_else o (cond b (Some x.using) v))
  set_by true w o v h = rw (h refl) refl
  set_by false w o v h = refl

  pub set_in : (y : Kept) → key_of y ≡ key_of x → Sets (before ++ (x ∷ after)) x.station x.tid (Some y.using) (before ++ (y ∷ after))
  set_in y e q t =
      let f : is_for q t y ≡ is_for q t x = ap (λ p. is_for q t (record { station = p.0; tid = p.1; using = x.using })) e in
      agreement_in-append before (y ∷ after) q t
      ∙ ap (λ b. or_else (agreement_in before q t) (cond b (Some y.using) (agreement_in after q t))) f
      ∙ set_by (is_for q t x) y.using (agreement_in before q t) (agreement_in after q t) (none_before q t)
      ∙ ap (λ o. cond (is_for q t x) (Some y.using) o) (sym (agreement_in-append before (x ∷ after) q t))

module _ (before after : List Kept) (x : Kept) (below : All (λ k. key_cmp (key_of k) (key_of x) ≡ Less) before)
    (above : All (λ k. key_cmp (key_of x) (key_of k) ≡ Less) after) where
  pub none_after : (a : List ℕ) (tid : ℕ) → is_for a tid x ≡ true → agreement_in after a tid ≡ None
  none_after a tid e = absent after a tid (λ i d l. not_key a tid (slice_index_or after i d) (λ f. not_itself (key_of x) (key_of (slice_index_or after i d)) (key_is a tid x e ∙ sym f) (above i d l)))

  -- one that is removed
  out_by : (b : Bool) (o v : Option Using) → (b ≡ true → o ≡ None) → (b ≡ true → v ≡ None) → or_else o v ≡ cond b None (or_else o (cond b (Some x.using) v))
  out_by true o v h g = rw (h refl, g refl) refl
  out_by false o v h g = refl

  pub taken_out : Sets (before ++ (x ∷ after)) x.station x.tid None (before ++ after)
  taken_out q t =
      agreement_in-append before after q t
      ∙ out_by (is_for q t x) (agreement_in before q t) (agreement_in after q t) (none_before before after x below q t) (none_after q t)
      ∙ ap (λ o. cond (is_for q t x) None o) (sym (agreement_in-append before (x ∷ after) q t))

-- one that is absent stays absent
still_by : (b : Bool) (o : Option Using) → (b ≡ true → o ≡ None) → o ≡ cond b None o
still_by true o h = h refl
still_by false o h = refl

pub still_none : (ks : List Kept) (a : List ℕ) (tid : ℕ) → agreement_in ks a tid ≡ None → Sets ks a tid None ks
still_none ks a tid e q t =
    still_by (same_address a q && (tid == t)) (agreement_in ks q t)
    (λ b. subst (λ (p : List ℕ × ℕ). agreement_in ks p.0 p.1 ≡ None) (same_key a tid q t b) e)
