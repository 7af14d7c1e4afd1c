-- The six octets of an address.
use Rattle.std.proofs.Common.{◌≡◌, ℕ, List, [], ◌∷◌, ◌++◌, length, get_or, refl, arith}
use Rattle.mac_types.specs.Texts.{octet_text, address_text}

pub text_by_octets : (a : List ℕ) → length a ≡ 6
    → address_text a ≡ octet_text (get_or a 0 0) ++ (octet_text (get_or a 1 0) ++ (octet_text (get_or a 2 0) ++ (octet_text (get_or a 3 0) ++ (octet_text (get_or a 4 0) ++ octet_text (get_or a 5 0)))))
text_by_octets (a ∷ b ∷ c ∷ d ∷ e ∷ f ∷ []) six = refl
text_by_octets _ six = absurd (omega (arith, six))
