-- A table whose first agreements were split.
use Rattle.std.proofs.Common.{◌≡◌, ℕ, ◌+◌, ◌<◌, ◌≤◌, suc, List, [], ◌∷◌, ◌++◌, length, take, drop, Bool, true, false, not, cond, refl, sym, ap, ◌∙◌, arith, slice_index_or, filter, drop-cons, append_assoc, count_by, length-append, add-one}
use Rattle.std.proofs.lemmas.List.{length-take-le, append-nil, take_more}
use Rattle.std.proofs.lemmas.List.Elements.{filter-append}
use Rattle.std.proofs.lemmas.List.Sums.{length-filter}
use Rattle.std.proofs.Math.Seq.{drop-append_seam, take-append_seam, drop-length, take-length}
use Rattle.std.specs.Prelude.{remove}
use Rattle.ap_agreements.specs.Tables.{Kept}

-- the first ones are done: those that pass the test were moved to `ended`, and the others are below `at`
pub record Halfway (p : Kept → Bool) (all now ended : List Kept) (at : ℕ) : Type 0 where
  pub done : List Kept
  pub whole : all ≡ done ++ drop at now
  pub inside : at ≤ length now
  pub stays : take at now ≡ filter (λ k. not (p k)) done
  pub moved : ended ≡ filter p done

module _ (p : Kept → Bool) where
  pub begins : (all : List Kept) → Halfway p all all [] 0
  begins all = record { done = []; whole = refl; inside = omega arith; stays = refl; moved = refl }

  not_moved : (done : List Kept) (x : Kept) → p x ≡ false → filter p (done ++ x ∷ []) ≡ filter p done
  not_moved done x e = filter-append p done (x ∷ []) ∙ rw e (append-nil (filter p done))

  stays_too : (done : List Kept) (x : Kept) → p x ≡ false → filter (λ k. not (p k)) (done ++ x ∷ []) ≡ filter (λ k. not (p k)) done ++ x ∷ []
  stays_too done x e = filter-append (λ k. not (p k)) done (x ∷ []) ∙ rw e refl

  moved_too : (done : List Kept) (x : Kept) → p x ≡ true → filter p (done ++ x ∷ []) ≡ filter p done ++ x ∷ []
  moved_too done x e = filter-append p done (x ∷ []) ∙ rw e refl

  gone_too : (done : List Kept) (x : Kept) → p x ≡ true → filter (λ k. not (p k)) (done ++ x ∷ []) ≡ filter (λ k. not (p k)) done
  gone_too done x e = filter-append (λ k. not (p k)) done (x ∷ []) ∙ rw e (append-nil (filter (λ k. not (p k)) done))

  -- the next one stays
  pub keeps : (all now ended : List Kept) (at : ℕ) (d : Kept) → Halfway p all now ended at → at < length now → p (slice_index_or now at d) ≡ false →
      Halfway p all now ended (at + 1)
  keeps all now ended at d h l e =
      let x : Kept = slice_index_or now at d in
      record {
        done = h.done ++ x ∷ [];
        whole = h.whole ∙ ap (λ (t : List Kept). h.done ++ t) (drop-cons now at d l) ∙ sym (append_assoc h.done (x ∷ []) (drop (suc at) now)) ∙ ap (λ n. (h.done ++ x ∷ []) ++ drop n now) (sym (add-one at));
        inside = omega arith;
        stays = take_more now at d l ∙ ap (λ (t : List Kept). t ++ x ∷ []) h.stays ∙ sym (stays_too h.done x e);
        moved = h.moved ∙ sym (not_moved h.done x e);
      }

  -- the next one is moved
  pub moves : (all now ended : List Kept) (at : ℕ) (d : Kept) → Halfway p all now ended at → at < length now → p (slice_index_or now at d) ≡ true →
      Halfway p all (remove now at) (ended ++ slice_index_or now at d ∷ []) at
  moves all now ended at d h l e =
      let x : Kept = slice_index_or now at d in
      let n : length (take at now) ≡ at = length-take-le at now (omega (arith, l)) in
      record {
        done = h.done ++ x ∷ [];
        whole = h.whole ∙ ap (λ (t : List Kept). h.done ++ t) (drop-cons now at d l) ∙ sym (append_assoc h.done (x ∷ []) (drop (suc at) now))
            ∙ ap (λ (t : List Kept). (h.done ++ x ∷ []) ++ t) (sym (drop-append_seam (take at now) (drop (suc at) now)) ∙ ap (λ m. drop m (remove now at)) n);
        inside = omega (arith, n, length-append (take at now) (drop (suc at) now));
        stays = ap (λ m. take m (remove now at)) (sym n) ∙ take-append_seam (take at now) (drop (suc at) now) ∙ h.stays ∙ sym (gone_too h.done x e);
        moved = ap (λ (t : List Kept). t ++ x ∷ []) h.moved ∙ sym (moved_too h.done x e);
      }

  all_done : (all now ended : List Kept) (at : ℕ) (h : Halfway p all now ended at) → length now ≤ at → all ≡ h.done
  all_done all now ended at h l =
      let e : at ≡ length now = omega (arith, h.inside) in
      h.whole ∙ ap (λ (t : List Kept). h.done ++ t) (ap (λ n. drop n now) e ∙ drop-length now) ∙ append-nil h.done

  -- all are done
  pub all_stay : (all now ended : List Kept) (at : ℕ) → Halfway p all now ended at → length now ≤ at → now ≡ filter (λ k. not (p k)) all
  all_stay all now ended at h l =
      let e : at ≡ length now = omega (arith, h.inside) in
      sym (take-length now) ∙ ap (λ n. take n now) (sym e) ∙ h.stays ∙ ap (λ (t : List Kept). filter (λ k. not (p k)) t) (sym (all_done all now ended at h l))

  pub all_moved : (all now ended : List Kept) (at : ℕ) → Halfway p all now ended at → length now ≤ at → ended ≡ filter p all
  all_moved all now ended at h l = h.moved ∙ ap (λ (t : List Kept). filter p t) (sym (all_done all now ended at h l))

  pub room_for : (all now ended : List Kept) (at : ℕ) (d : Kept) → Halfway p all now ended at → at < length now → p (slice_index_or now at d) ≡ true →
      length ended < count_by p all
  room_for all now ended at d h l e =
      let x : Kept = slice_index_or now at d in
      let w : all ≡ h.done ++ (x ∷ drop (suc at) now) = h.whole ∙ ap (λ (t : List Kept). h.done ++ t) (drop-cons now at d l) in
      let f : filter p all ≡ filter p h.done ++ (x ∷ filter p (drop (suc at) now)) =
      ap (λ (t : List Kept). filter p t) w ∙ filter-append p h.done (x ∷ drop (suc at) now) ∙ ap (λ (b : Bool). filter p h.done ++ cond b (x ∷ filter p (drop (suc at) now)) (filter p (drop (suc at) now))) e in
      omega (arith, length-filter p all, ap length f, length-append (filter p h.done) (x ∷ filter p (drop (suc at) now)), ap length h.moved)
