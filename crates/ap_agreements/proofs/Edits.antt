-- Edits of a table, as a call sees them: `ks` is what it holds, `now` is its value.
use Rattle.std.proofs.Common.{◌≡◌, ◌<◌, ℕ, List, length, Option, Some, None, sym, ap, subst, ◌∙◌}
use Rattle.std.specs.Prelude.{IsSome, slice_index_or, slice_set, remove, insert}
use Rattle.ap_model.specs.Readings.{Using}
use Rattle.ap_agreements.specs.Tables.{Kept, key_of, agreement_in, IsRising, IsPlaceOf, IsPlaceFor, Stands, Sets}
use Rattle.ap_agreements.proofs.Places.{found, removed, replaced, rises_replaced, inserted, rises_inserted}
use Rattle.std.proofs.lemmas.Option.{same_Some}
use Rattle.std.proofs.lemmas.List.{get_or_default}

module _ (ks now : List Kept) (e : ks ≡ now) (rising : IsRising ks) (a : List ℕ) (tid : ℕ) (at : ℕ) (place : IsPlaceOf now (a, tid) at) where
  inside : IsPlaceOf ks (a, tid) at
  inside = subst (λ (l : List Kept). IsPlaceOf l (a, tid) at) (sym e) place

  -- what is at the index
  pub got : (x : Kept) → x ≡ slice_index_or ks at x → agreement_in now a tid ≡ Some x.using
  got x f =
      subst (λ (l : List Kept). agreement_in l a tid ≡ Some x.using) e
      (found ks rising (a, tid) at inside x ∙ ap (λ (k : Kept). Some k.using) (sym f))

  pub stands : (x : Kept) → x ≡ slice_index_or ks at x → Stands now a tid at x
  stands x f = record { place = place; is = λ d. ap (λ (l : List Kept). slice_index_or l at d) (sym e) ∙ sym (f ∙ get_or_default ks at x d inside.inside); agreed = got x f }

  pub was : (x : Kept) → x ≡ slice_index_or ks at x → (u : Using) → agreement_in now a tid ≡ Some u → x.using ≡ u
  was x f u g = same_Some x.using u (sym (got x f) ∙ g)

  pub key_there : (x : Kept) → x ≡ slice_index_or ks at x → key_of x ≡ (a, tid)
  key_there x f = ap key_of f ∙ inside.is x

  pub after_remove : (d : Kept) → Sets now a tid None (remove ks at)
  after_remove d = subst (λ (l : List Kept). Sets l a tid None (remove ks at)) e (removed ks rising (a, tid) at inside d)

  pub after_set : (y : Kept) → key_of y ≡ (a, tid) → Sets now a tid (Some y.using) (slice_set ks at y)
  after_set y f = subst (λ (l : List Kept). Sets l a tid (Some y.using) (slice_set ks at y)) e (replaced ks rising (a, tid) at inside y y f)

  -- what is done to the agreement at the index is done to that of the station and TID
  pub done_to : (P : Using → Using → Type 0) (x y : Kept) → x ≡ slice_index_or ks at x → key_of y ≡ key_of x → P x.using y.using →
      (u : Using) → agreement_in now a tid ≡ Some u → (u2 : Using) × P u u2 × Sets now a tid (Some u2) (slice_set ks at y)
  done_to P x y f k p u g = (
    y.using,
    subst (λ (v : Using). P v y.using) (was x f u g) p,
    after_set y (k ∙ key_there x f),
  )

  pub rises_set : (y : Kept) → key_of y ≡ (a, tid) → IsRising (slice_set ks at y)
  rises_set y f = rises_replaced ks rising (a, tid) at inside y y f

module _ (ks now : List Kept) (e : ks ≡ now) (rising : IsRising ks) (a : List ℕ) (tid : ℕ) (at : ℕ) (place : IsPlaceFor now (a, tid) at) where
  there : IsPlaceFor ks (a, tid) at
  there = subst (λ (l : List Kept). IsPlaceFor l (a, tid) at) (sym e) place

  pub after_insert : (x : Kept) → key_of x ≡ (a, tid) → Sets now a tid (Some x.using) (insert ks at x)
  after_insert x f = subst (λ (l : List Kept). Sets l a tid (Some x.using) (insert ks at x)) e (inserted ks rising (a, tid) at there x f)

  pub rises_insert : (x : Kept) → key_of x ≡ (a, tid) → IsRising (insert ks at x)
  rises_insert x f = rises_inserted ks rising (a, tid) at there x f

pub not_some : (o : Option Using) → o ≡ None → IsSome o → ⊥
not_some None e h = absurd (cc)
not_some (Some u) e h = absurd (cc)

-- what holds of the agreement at an index holds of what is read there
pub holds_of : (P : Kept → Type 0) (ks now : List Kept) → ks ≡ now → (at : ℕ) (x : Kept) → x ≡ slice_index_or ks at x → P (slice_index_or now at x) → P x
holds_of P ks now e at x f p = subst P (sym (f ∙ ap (λ (l : List Kept). slice_index_or l at x) e)) p

-- what was read at an index is there
pub read_at : (ks now : List Kept) → ks ≡ now → (at : ℕ) → at < length now → (x : Kept) → x ≡ slice_index_or ks at x → (d : Kept) → x ≡ slice_index_or now at d
read_at ks now e at lt x f d = f ∙ ap (λ (l : List Kept). slice_index_or l at x) e ∙ get_or_default now at x d lt
