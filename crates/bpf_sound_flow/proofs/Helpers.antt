-- The helpers' numbers, as words.
use Rattle.std.proofs.Common.{◌≡◌, ℕ, ◌⊎◌, inl, inr, ℤ, pos, negsuc, ◌≤ℤ◌, zero, suc, refl, arith}
use Rattle.std.proofs.lemmas.Int.{ints}
use Rattle.bpf_words.specs.Word.{word_of}

-- the helpers' numbers
abbrev pub IsHelper : ℕ → Type 0
IsHelper n = (n ≡ 1) ⊎ ((n ≡ 2) ⊎ ((n ≡ 3) ⊎ ((n ≡ 4) ⊎ (n ≡ 5))))

pub is_helper : (x : ℤ) → pos 1 ≤ℤ x → x ≤ℤ pos 5 → IsHelper (word_of x)
is_helper (pos zero) l h = absurd (omega (arith, ints, l))
is_helper (pos (suc zero)) l h = inl refl
is_helper (pos (suc (suc zero))) l h = inr (inl refl)
is_helper (pos (suc (suc (suc zero)))) l h = inr (inr (inl refl))
is_helper (pos (suc (suc (suc (suc zero))))) l h = inr (inr (inr (inl refl)))
is_helper (pos (suc (suc (suc (suc (suc n)))))) l h = inr (inr (inr (inr (omega (arith, ints, h)))))
is_helper (negsuc n) l h = absurd (omega (arith, ints, l))
