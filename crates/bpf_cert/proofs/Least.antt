-- The least budget of the claims that include the start.
use Rattle.std.proofs.Common.{◌≡◌, ℕ, zero, suc, ◌+◌, ◌<◌, inl, inr, min, List, [], ◌∷◌, length, get_or, refl, sym, ◌∙◌, ap, subst, arith, Option, Some, None}
use Rattle.std.specs.Prelude.{MatchOption}
use Rattle.std.specs.Option.{option_map_or}
use Rattle.std.proofs.lemmas.Bool.{cases_lt}
use Rattle.bpf_absstate.specs.View.{entry_view}
use Rattle.bpf_cert.specs.declared.claim.Claim.{Claim}
use Rattle.bpf_cert.specs.Covered.{Includes}
use Rattle.bpf_cert.specs.Steps.{IsLeast}

-- an element within a list doesn't depend on the default
pub same_within : (xs : List Claim) (k : ℕ) (d e : Claim) → k < length xs → get_or xs k d ≡ get_or xs k e
same_within [] k d e less = absurd (omega (arith, less))
same_within (x ∷ xs) zero d e less = refl
same_within (x ∷ xs) (suc k) d e less = same_within xs k d e (omega (arith, less))

abbrev pub SoFar : List Claim → ℕ → Option ℕ → Type 0
SoFar es n o = MatchOption o ((k : ℕ) (d : Claim) → k < n → Includes (get_or es k d) entry_view → ⊥) (IsLeast es n)

-- a claim that does not include the start
pub passes : (es : List Claim) (n : ℕ) (e : Claim) (o : Option ℕ) → n < length es → e ≡ get_or es n e → (Includes e entry_view → ⊥) → SoFar es n o → SoFar es (n + 1) o
passes es n e None lt is out h = λ k d less in_k.
    elim (cases_lt k n) [
      | inl below ↦ h k d below in_k
      | inr above ↦ let here : k ≡ n = omega (arith, less, above) in
          out (subst (λ (x : Claim). Includes x entry_view) (ap (λ (j : ℕ). get_or es j d) here ∙ same_within es n d e lt ∙ sym is) in_k)
    ]
passes es n e (Some b) lt is out h = record {
  claim = h.claim;
  least = λ k d less in_k.
      elim (cases_lt k n) [
        | inl below ↦ h.least k d below in_k
        | inr above ↦ let here : k ≡ n = omega (arith, less, above) in
            absurd (out (subst (λ (x : Claim). Includes x entry_view) (ap (λ (j : ℕ). get_or es j d) here ∙ same_within es n d e lt ∙ sym is) in_k))
      ];
}

abbrev lesser : Option ℕ → ℕ → ℕ
lesser o b = option_map_or (λ (a : ℕ). min a b) o b

-- a claim that includes it
pub takes : (es : List Claim) (n : ℕ) (e : Claim) (o : Option ℕ) → n < length es → e ≡ get_or es n e → Includes e entry_view → SoFar es n o → IsLeast es (n + 1) (lesser o e.budget)
takes es n e None lt is in_e h = record {
  claim = (n, e, lt, sym is, (in_e, refl));
  least = λ k d less in_k.
      elim (cases_lt k n) [
        | inl below ↦ absurd (h k d below in_k)
        | inr above ↦ let here : k ≡ n = omega (arith, less, above) in
            let same : get_or es k d ≡ e = ap (λ (j : ℕ). get_or es j d) here ∙ same_within es n d e lt ∙ sym is in
            let b : (get_or es k d).budget ≡ e.budget = ap (λ (x : Claim). x.budget) same in omega (arith, b)
      ];
}
takes es n e (Some a) lt is in_e h = record {
  claim = elim (cases_lt a e.budget) [
    | inl less ↦ let m : a ≡ min a e.budget = omega (arith, less) in (h.claim.0, h.claim.1, h.claim.2, h.claim.3, (h.claim.4.0, h.claim.4.1 ∙ m))
    | inr more ↦ let m : e.budget ≡ min a e.budget = omega (arith, more) in (n, e, lt, sym is, (in_e, m))
  ];
  least = λ k d less in_k.
      elim (cases_lt k n) [
        | inl below ↦ let le = h.least k d below in_k in omega (arith, le)
        | inr above ↦ let here : k ≡ n = omega (arith, less, above) in
            let same : get_or es k d ≡ e = ap (λ (j : ℕ). get_or es j d) here ∙ same_within es n d e lt ∙ sym is in
            let b : (get_or es k d).budget ≡ e.budget = ap (λ (x : Claim). x.budget) same in omega (arith, b)
      ];
}
