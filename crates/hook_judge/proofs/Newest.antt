-- The newest notes.
use Rattle.std.proofs.Common.{◌≡◌, ◌-◌, ◌≤◌, ℕ, Bool, true, List, [], ◌++◌, length, drop, ap, sym, ◌∙◌, append-nil, arith}
use Rattle.std.proofs.lemmas.Bool.Decides.{nat_tests}
use Rattle.std.proofs.lemmas.List.{nil_from_length}
use Rattle.std.specs.Prelude.{◌==◌}
use Rattle.hook_judge.specs.Counts.{newest}

-- at most 16 are all kept
pub newest_all : (notes : List ℕ) → length notes ≤ 16 → newest notes ≡ notes
newest_all notes few = let none : length notes - 16 ≡ 0 = omega (arith, few) in ap (λ n. drop n notes) none

is_zero : (n : ℕ) (b : Bool) → b ≡ (n == 0) → b ≡ true → n ≡ 0
is_zero n b is holds = grind (arith, nat_tests)

-- no later ones
pub newest_none : (notes later : List ℕ) (b : Bool) → length notes ≤ 16 → b ≡ (length later == 0) → b ≡ true → notes ≡ newest (notes ++ later)
newest_none notes later b few is holds =
    let none : later ≡ [] = nil_from_length later (is_zero (length later) b is holds) in
    sym (ap (λ l. newest (notes ++ l)) none ∙ ap newest (append-nil notes) ∙ newest_all notes few)
