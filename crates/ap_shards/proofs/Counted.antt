-- How many pages there are.
use Rattle.std.proofs.Common.{◌≡◌, ◌+◌, ℕ, List, ◌++◌, length, arith, length-append}
use Rattle.ap_locked.specs.Pages.{Page}

pub both_long : (m n : ℕ) (ps qs : List Page) → length ps ≡ m → length qs ≡ n → length (ps ++ qs) ≡ m + n
both_long m n ps qs p q = omega (arith, length-append ps qs, p, q)
