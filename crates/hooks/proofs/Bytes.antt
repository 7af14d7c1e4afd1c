-- The bytes of a context, one by one.
use Rattle.std.proofs.Common.{◌≡◌, ℕ, List, [], ◌∷◌, ◌++◌, length, get_or, refl, arith}
use Rattle.hooks.specs.Contexts.{word, unused}

pub laid_out : (o w1 w2 w3 w4 : List ℕ) (h s t n1 n2 n3 n4 : ℕ) → length o ≡ 6 → w1 ≡ word n1 → w2 ≡ word n2 → w3 ≡ word n3 → w4 ≡ word n4
    → get_or o 0 0 ∷ get_or o 1 0 ∷ get_or o 2 0 ∷ get_or o 3 0 ∷ get_or o 4 0 ∷ get_or o 5 0 ∷ h ∷ s ∷ get_or w1 0 0 ∷ get_or w1 1 0 ∷ t ∷ 0
    ∷ get_or w2 0 0 ∷ get_or w2 1 0 ∷ get_or w3 0 0 ∷ get_or w3 1 0 ∷ get_or w4 0 0 ∷ get_or w4 1 0 ∷ unused
    ≡ o ++ (h ∷ s ∷ (word n1 ++ (t ∷ 0 ∷ (word n2 ++ (word n3 ++ (word n4 ++ unused))))))
laid_out (a ∷ b ∷ c ∷ d ∷ e ∷ f ∷ []) w1 w2 w3 w4 h s t n1 n2 n3 n4 six p q r u = rw (p, q, r, u) refl
laid_out _ w1 w2 w3 w4 h s t n1 n2 n3 n4 six p q r u = absurd (omega (arith, six))
