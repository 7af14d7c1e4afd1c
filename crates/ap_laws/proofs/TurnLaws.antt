-- What ends at a tick ends once, each agreement in turn.
use Rattle.std.proofs.Common.{◌≡◌, ℕ, suc, ◌<◌, ◌⊎◌, inl, inr, ⊎_elim, true, false, Option, List, [], ◌∷◌, ◌++◌, length, refl, sym, ap, ◌∙◌, subst, arith}
use Rattle.std.specs.Prelude.{Contains, AllPairs}
use Rattle.std.specs.Ordering.{is_eq}
use Rattle.std.specs.declared.cmp.Ordering.TheVariants.{Less}
use Rattle.std.proofs.lemmas.Bool.{cases_eq}
use Rattle.std.proofs.lemmas.List.{append-nil}
use Rattle.std.proofs.lemmas.List.Elements.{Contains-append_cases, Contains-append_left, Contains-append_right, Contains-push, Contains-push_cases}
use Rattle.std.proofs.lemmas.Map.Text.{is_eq-slice_cmp}
use Rattle.std.proofs.lemmas.Slice.Eq.{bytes_eq-Decides}
use Rattle.assoc.proofs.Tables.{address_tells}
use Rattle.ap_model.specs.declared.event.Out.{Out}
use Rattle.ap_model.specs.Readings.{Readings, Rules, Using}
use Rattle.ap_model.specs.Agreements.{PassesHeld, delba}
use Rattle.ap_model.specs.Steps.{IsBefore, EndInTurn, nobody_ends, one_end}
use Rattle.ap_laws.specs.InOrder.{ups_of}
use Rattle.blockack.proofs.BelowLaws.{none_in_none}
use Rattle.ap_laws.proofs.UpLaws.{ups_of-append, none_of, other_station, other_tid}
use Rattle.ap_laws.proofs.ElsewhereLaws.{all_of_held}
use Rattle.ap_laws.proofs.OwnLaws.{all_for_held}

pairs_tail : {X : Type 0} (R : X → X → Type 0) (x : X) (xs : List X) → AllPairs R (x ∷ xs) → AllPairs R xs
pairs_tail R x xs pairs i j d lt within = pairs (suc i) (suc j) d (omega arith) (omega arith)

pairs_head : {X : Type 0} (R : X → X → Type 0) (x y : X) (xs : List X) → AllPairs R (x ∷ xs) → Contains xs y → R x y
pairs_head R x y xs pairs inside =
    let k : ℕ = inside.0 in
    let lt : k < length xs = inside.1 in
    subst (R x) inside.2 (pairs 0 (suc k) y (omega arith) (omega arith))

less_is_not_equal : is_eq Less ≡ true → ⊥
less_is_not_equal e = let f : false ≡ true = e in cc

-- nothing comes before itself
not_before_itself : (a : List ℕ) (tid : ℕ) → IsBefore (a, tid) (a, tid) → ⊥
not_before_itself a tid (inl less) = less_is_not_equal (ap is_eq (sym less) ∙ is_eq-slice_cmp a a ∙ (bytes_eq-Decides a a).1 refl)
not_before_itself a tid (inr less) = let lt = less.1 in omega arith

in_front : {X : Type 0} (x y : X) (xs : List X) → Contains (x ∷ xs) y → (x ≡ y) ⊎ Contains xs y
in_front x y xs inside =
    ⊎_elim
    (λ head. ⊎_elim (λ none. absurd (none_in_none y none)) (λ e. inl e) (Contains-push_cases [] x y head))
    (λ tail. inr tail)
    (Contains-append_cases (x ∷ []) xs y inside)

first_in : {X : Type 0} (x : X) (xs : List X) → Contains (x ∷ xs) x
first_in x xs = Contains-append_left (x ∷ []) xs x (Contains-push [] x)

later_in : {X : Type 0} (x y : X) (xs : List X) → Contains xs y → Contains (x ∷ xs) y
later_in x y xs inside = Contains-append_right (x ∷ []) xs y inside

-- what another agreement held
held_elsewhere : (b a : List ℕ) (t tid : ℕ) (o : Option Using) (passed : List Out) → PassesHeld b t o passed → (◌≡◌ {A = List ℕ × ℕ} (b, t) (a, tid) → ⊥) → ups_of a tid passed ≡ []
held_elsewhere b a t tid o passed passes differ =
    ⊎_elim
    (λ same.
    ⊎_elim
    (λ e. absurd (differ (ap (λ x. (x, t)) same.1 ∙ ap (λ x. (a, x)) e)))
    (λ ne. none_of a tid passed (λ d inside. other_tid a tid t d (all_for_held b t o passed passes d inside) ne))
    (cases_eq t tid))
    (λ other. none_of a tid passed (λ d inside. other_station a tid d (λ e. other.1 (sym (all_of_held b t o passed passes d inside) ∙ e))))
    (address_tells b a)

module _ (c : Rules) (r : Readings) (a : List ℕ) (tid : ℕ) where
  turn : (b : List ℕ) (t : ℕ) (passed rest : List Out) → ups_of a tid (passed ++ (delba c b t 39 ∷ rest)) ≡ ups_of a tid passed ++ ups_of a tid rest
  turn b t passed rest = ups_of-append a tid passed (delba c b t 39 ∷ rest)

  pub none_in_turn : (keys : List (List ℕ × ℕ)) (outs : List Out) → EndInTurn c r keys outs → (Contains keys (a, tid) → ⊥) → ups_of a tid outs ≡ []
  none_in_turn keys outs nobody_ends not = refl
  none_in_turn keys outs (one_end b t later passed rest passes turns) not =
      let differ : ◌≡◌ {A = List ℕ × ℕ} (b, t) (a, tid) → ⊥ = λ e. not (subst (Contains ((b, t) ∷ later)) e (first_in (b, t) later)) in
      let rest_none = none_in_turn later rest turns (λ inside. not (later_in (b, t) (a, tid) later inside)) in
      turn b t passed rest ∙ ap (λ xs. xs ++ ups_of a tid rest) (held_elsewhere b a t tid (r.agreement b t) passed passes differ) ∙ rest_none

  -- the outputs of its turn
  pub record Turn (outs : List Out) : Type 0 where
    pub first : List Out
    pub passes : PassesHeld a tid (r.agreement a tid) first
    pub are : ups_of a tid outs ≡ ups_of a tid first

  pub in_its_turn : (keys : List (List ℕ × ℕ)) (outs : List Out) → EndInTurn c r keys outs → AllPairs IsBefore keys → Contains keys (a, tid) → Turn outs
  in_its_turn keys outs nobody_ends rising inside = absurd (none_in_none (a, tid) inside)
  in_its_turn keys outs (one_end b t later passed rest passes turns) rising inside =
      let P : List ℕ × ℕ → Type 0 = λ k. PassesHeld k.0 k.1 (r.agreement k.0 k.1) passed in
      let before = pairs_head IsBefore (b, t) (a, tid) later rising in
      let Q : List ℕ × ℕ → Type 0 = λ k. IsBefore k (a, tid) in
      ⊎_elim
      (λ here.
      record {
        first = passed;
        passes = subst P here passes;
        are = turn b t passed rest ∙
            ap (λ xs. ups_of a tid passed ++ xs) (none_in_turn later rest turns (λ again. not_before_itself a tid (subst Q here (before again)))) ∙ append-nil (ups_of a tid passed);
      })
      (λ further.
      let x = in_its_turn later rest turns (pairs_tail IsBefore (b, t) later rising) further in
      record {
        first = x.first;
        passes = x.passes;
        are = turn b t passed rest ∙
            ap (λ xs. xs ++ ups_of a tid rest) (held_elsewhere b a t tid (r.agreement b t) passed passes (λ e. not_before_itself a tid (subst Q e (before further)))) ∙ x.are;
      })
      (in_front (b, t) (a, tid) later inside)
