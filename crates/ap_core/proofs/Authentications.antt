-- What the status of an authentication reply implies.
use Rattle.std.proofs.Common.{◌≡◌, ℕ, List, ◌⊎◌, arith}
use Rattle.std.specs.Prelude.{IsSome}
use Rattle.assoc.specs.Standings.{IsFull}
use Rattle.ap_model.specs.Readings.{Readings}
use Rattle.ap_model.specs.Associations.{AuthenticationStatus, other_algorithm, other_transaction, no_room, accepted}

pub accepted_when : {r : Readings} {a : List ℕ} {f t n : ℕ} → AuthenticationStatus r a f t n → n ≡ 0 → IsSome (r.standing a) ⊎ (IsFull r.standing → ⊥)
accepted_when (other_algorithm x) e = absurd (omega arith)
accepted_when (other_transaction x y) e = absurd (omega arith)
accepted_when (no_room x y z w) e = absurd (omega arith)
accepted_when (accepted x y z) e = z
