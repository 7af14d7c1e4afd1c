-- Bytes of 0 spell a stack of which nothing is known.
use Rattle.std.proofs.Common.{◌≡◌, ℕ, zero, suc, ◌≤◌, ◌<◌, List, [], ◌∷◌, ◌++◌, length, drop, get_or, replicate, Some, refl, ap, ◌∙◌, arith}
use Rattle.bpf_absval.specs.declared.slot.AbsSlot.TheVariants.{Unset}
use Rattle.bpf_cert_format.specs.Reading.{many, cell_at}

-- the first bytes are 0
pub zeros_front : (n : ℕ) (bytes : List ℕ) → n ≤ length bytes → ((k : ℕ) → k < n → get_or bytes k 0 ≡ 0) → bytes ≡ replicate n 0 ++ drop n bytes
zeros_front zero bytes le h = refl
zeros_front (suc n) [] le h = absurd (omega (arith, le))
zeros_front (suc n) (b ∷ bytes) le h =
    let here : b ≡ 0 = h 0 (omega arith) in
    ap (λ (x : ℕ). x ∷ bytes) here ∙ ap (λ (w : List ℕ). 0 ∷ w) (zeros_front n bytes (omega (arith, le)) (λ k lt. h (suc k) (omega (arith, lt))))

unset_cells : (maps frames n : ℕ) (rest : List ℕ) → many (cell_at maps frames) n (replicate n 0 ++ rest) ≡ Some (replicate n Unset, rest)
unfolding many cell_at
unset_cells maps frames zero rest = refl
unset_cells maps frames (suc n) rest = rw (unset_cells maps frames n rest) refl

-- they are read as unset slots
pub unset_read : (maps frames n : ℕ) (bytes : List ℕ) → bytes ≡ replicate n 0 ++ drop n bytes → many (cell_at maps frames) n bytes ≡ Some (replicate n Unset, drop n bytes)
unset_read maps frames n bytes h = ap (many (cell_at maps frames) n) h ∙ unset_cells maps frames n (drop n bytes)
