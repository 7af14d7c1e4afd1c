-- Tests of one fact or another.
use Rattle.std.proofs.Common.{◌≡◌, ◌∙◌, ◌↔◌, ◌⊎◌, IsTrue, Bool, true, false, inl, inr, sym}

not_both : (b : Bool) → b ≡ true → b ≡ false → ⊥
not_both b t e = let bad : false ≡ true = sym e ∙ t in cc

-- the first fact holds
pub first_holds : (P Q : Type 0) (a : Bool) → (IsTrue a) ↔ P → a ≡ true → (IsTrue a) ↔ (P ⊎ Q)
first_holds P Q a h e = ((λ t. inl (h.0 t)), (λ o. e))

-- the first fact doesn't hold, and the second one is a test
pub test_is_left : (P : Type 0) (a b c : Bool) → (IsTrue a) ↔ P → a ≡ false → b ≡ c → (IsTrue b) ↔ (P ⊎ (c ≡ true))
test_is_left P a b c h fails same = (
  (λ t. inr (sym same ∙ t)),
  (λ o. elim o [ inl p ↦ absurd (not_both a (h.1 p) fails) | inr e ↦ same ∙ e ]),
)

-- the first fact is a test that fails
pub fact_is_left : (P : Type 0) (a b c : Bool) → a ≡ c → a ≡ false → (IsTrue b) ↔ P → (IsTrue b) ↔ ((c ≡ true) ⊎ P)
fact_is_left P a b c same fails h = (
  (λ t. inr (h.0 t)),
  (λ o. elim o [ inl e ↦ absurd (not_both a (same ∙ e) fails) | inr p ↦ h.1 p ]),
)
