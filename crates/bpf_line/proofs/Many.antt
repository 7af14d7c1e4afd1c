-- Lines of six words, and that none has more.
use Rattle.std.specs.Prelude.{◌≡◌, ℕ, ◌≤◌, ◌<◌, List, [], ◌∷◌, length, map, slice_index_or, Bool, false, ◌&&◌, if◌then◌else◌, codes, Err, refl}
use Rattle.std.specs.Borrow.{Bor}
use Rattle.std.proofs.Common.{arith}
use Rattle.bpf_line.specs.declared.fault.LineFault.TheVariants.{Grammar}
use Rattle.bpf_line.specs.declared.fault.LineFault.{LineFault}
use Rattle.bpf_line.specs.Lines.{Said, is_comma, is_load_of, said, said_or_blank}

pub said-many : (ws : List (List ℕ)) → 7 ≤ length ws → Err Grammar ≡ said ws
said-many [] h = absurd (omega arith)
said-many (a ∷ []) h = absurd (omega arith)
said-many (a ∷ b ∷ []) h = absurd (omega arith)
said-many (a ∷ b ∷ c ∷ []) h = absurd (omega arith)
said-many (a ∷ b ∷ c ∷ d ∷ []) h = absurd (omega arith)
said-many (a ∷ b ∷ c ∷ d ∷ e ∷ []) h = absurd (omega arith)
said-many (a ∷ b ∷ c ∷ d ∷ e ∷ f ∷ []) h = absurd (omega arith)
said-many (a ∷ b ∷ c ∷ d ∷ e ∷ f ∷ g ∷ more) h = refl

neither : (x y : Bool) (s t : Said) → x ≡ false → y ≡ false → Err Grammar ≡ (if x then s else (if y then t else Err Grammar))
neither x y s t p q = rw (p, q) refl

-- six words that are neither a load of a map's value nor a branch
pub said-six : (ws : List (Bor (List ℕ))) (w : Bor (List ℕ)) → 6 ≤ length ws → length ws < 7
    → is_load_of (slice_index_or ws 0 w).now (codes "value") (slice_index_or ws 2 w).now (slice_index_or ws 3 w).now ≡ false
    → (is_comma (slice_index_or ws 2 w).now && is_comma (slice_index_or ws 4 w).now) ≡ false
    → Err Grammar ≡ said (map (λ x. x.now) ws)
said-six [] w low high load commas = absurd (omega (arith, low))
said-six (a ∷ []) w low high load commas = absurd (omega (arith, low))
said-six (a ∷ b ∷ []) w low high load commas = absurd (omega (arith, low))
said-six (a ∷ b ∷ c ∷ []) w low high load commas = absurd (omega (arith, low))
said-six (a ∷ b ∷ c ∷ d ∷ []) w low high load commas = absurd (omega (arith, low))
said-six (a ∷ b ∷ c ∷ d ∷ e ∷ []) w low high load commas = absurd (omega (arith, low))
said-six (a ∷ b ∷ c ∷ d ∷ e ∷ f ∷ []) w low high load commas = neither _ _ _ _ load commas
said-six (a ∷ b ∷ c ∷ d ∷ e ∷ f ∷ g ∷ more) w low high load commas = absurd (omega (arith, high))

pub said_or_blank-fault : (ws : List (List ℕ)) (fault : LineFault) → 0 < length ws → said ws ≡ Err fault → Err fault ≡ said_or_blank ws
said_or_blank-fault [] fault some e = absurd (omega arith)
said_or_blank-fault (w ∷ ws) fault some e = rw e refl
