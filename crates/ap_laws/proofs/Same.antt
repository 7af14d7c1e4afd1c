-- What follows if two terms of different forms are equal.
use Rattle.std.proofs.Common.{◌≡◌, ℕ, Some, List, [], ◌∷◌, sym, ap, ◌∙◌}
use Rattle.assoc.specs.declared.class.ClassAnswer.TheVariants.{Permitted, Deauthenticate, Disassociate}
use Rattle.assoc.specs.declared.standing.Known.TheVariants.{Associated}
use Rattle.ap_model.specs.declared.event.Event.TheVariants as event
use Rattle.ap_model.specs.Asks.{Ask}

pub bytes_of : (x y : List ℕ) → event.Frame x ≡ event.Frame y → x ≡ y
bytes_of x y e = cc

pub same_number : (m n : ℕ) → Some (Associated m) ≡ Some (Associated n) → m ≡ n
same_number m n e = cc

pub one_verdict : (x y : Ask) (v w : ℕ) (asked : List (Ask × ℕ)) → asked ≡ (x, v) ∷ [] → asked ≡ (y, w) ∷ [] → v ≡ w
one_verdict x y v w asked p q = ap (λ z. z.1) (front (x, v) (y, w) (sym p ∙ q))
  where
    front : (z z2 : Ask × ℕ) → z ∷ [] ≡ z2 ∷ [] → z ≡ z2
    front z z2 e = cc

pub not_deauthenticated : (reason : ℕ) → Permitted ≡ Deauthenticate reason → ⊥
not_deauthenticated reason e = cc

pub not_disassociated : (reason : ℕ) → Permitted ≡ Disassociate reason → ⊥
not_disassociated reason e = cc
