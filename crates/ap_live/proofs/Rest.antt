-- The pages that were not given.
use Rattle.std.proofs.Common.{◌≡◌, ◌∙◌, ℕ, zero, suc, length, ap, refl}
use Rattle.ap_locked.specs.Pages.{new_pages}
use Rattle.ap_shards.specs.Pages.{AreNewPages, EightPages, HasPages}

new_length : (n : ℕ) → length (new_pages n) ≡ n
new_length zero = refl
new_length (suc n) = ap suc (new_length n)

pub new_count : (n : ℕ) (a : EightPages) → AreNewPages n a → HasPages n a
new_count n a new = (
  ap length new.0 ∙ new_length n,
  ap length new.1 ∙ new_length n,
  ap length new.2 ∙ new_length n,
  ap length new.3 ∙ new_length n,
  ap length new.4 ∙ new_length n,
  ap length new.5 ∙ new_length n,
  ap length new.6 ∙ new_length n,
  ap length new.7 ∙ new_length n,
)
