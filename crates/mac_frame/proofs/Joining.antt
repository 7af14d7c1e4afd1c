-- Fields one after another.
use Rattle.std.proofs.Common.{◌≡◌, ℕ, ◌≤◌, List, [], ◌∷◌, ◌++◌, length, drop, ap, ◌∙◌}
use Rattle.std.proofs.lemmas.List.{drop_all}

-- a field, and what follows it
pub joins : (front : List ℕ) {whole rest after : List ℕ} → whole ≡ front ++ rest → rest ≡ after → whole ≡ front ++ after
joins front e f = e ∙ ap (λ (t : List ℕ). front ++ t) f

pub joins_byte : (byte : ℕ) {whole rest after : List ℕ} → whole ≡ byte ∷ rest → rest ≡ after → whole ≡ byte ∷ after
joins_byte byte e f = e ∙ ap (λ (t : List ℕ). byte ∷ t) f

-- nothing follows the last field
pub ends_here : (n : ℕ) (bytes tail : List ℕ) → length bytes ≤ n → tail ≡ drop n bytes → tail ≡ []
ends_here n bytes tail le e = e ∙ drop_all n bytes le
