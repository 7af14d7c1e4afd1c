-- Hex digits: of an address octet by octet, and of bytes piece by piece.
use Rattle.std.proofs.Common.{◌≡◌, ◌<◌, ◌==◌, ◌&&◌, ◌/◌, ◌%◌, ◌++◌, ◌∙◌, ℕ, Bool, true, false, List, [], ◌∷◌, zero, suc, inl, inr, refl, sym, ap, arith, get_or, length, slice_index, take, drop}
use Rattle.std.proofs.lemmas.Bool.{and_parts, cases_lt, eqb-true}
use Rattle.std.proofs.lemmas.List.{take-append-drop}
use Rattle.std.specs.Fmt.{digit_glyph}
use Rattle.hex.specs.Hex.{encode_lower, encode_with, lower_digits}
use Rattle.mac_types.specs.Texts.{address_text}

-- whether both write one digit alike, which computes
abbrev alike : ℕ → Bool
alike d = slice_index lower_digits d == digit_glyph false d

-- whether a test holds of all numbers below n, which computes
abbrev holds_below : (ℕ → Bool) → ℕ → Bool
holds_below test zero = true
holds_below test (suc n) = test n && holds_below test n

held-at : (test : ℕ → Bool) (n d : ℕ) → holds_below test n ≡ true → d < n → test d ≡ true
held-at test zero d h lt = absurd (omega arith)
held-at test (suc n) d h lt =
    let parts = and_parts (test n) (holds_below test n) h in
    elim (cases_lt d n) [
      | inl below ↦ held-at test n d parts.1 below
      | inr top ↦
          let e : d ≡ n = omega arith in
          rw e parts.0
    ]

digit : (d : ℕ) → d < 16 → slice_index lower_digits d ≡ digit_glyph false d
digit d small = eqb-true (slice_index lower_digits d) (digit_glyph false d) (held-at alike 16 d refl small)

pub in_one_piece : (octets : List ℕ) → ((i : ℕ) → get_or octets i 0 < 256) → encode_lower octets ≡ address_text octets
unfolding encode_with
in_one_piece [] h = refl
in_one_piece (o ∷ octets) h =
    rw (digit (o / 16) (omega (arith, h 0)), digit (o % 16) (omega arith), in_one_piece octets (λ i. h (suc i))) refl

-- the digits of two pieces, one after the other
appended : (t xs ys : List ℕ) → encode_with t (xs ++ ys) ≡ encode_with t xs ++ encode_with t ys
unfolding encode_with
appended t [] ys = refl
appended t (x ∷ xs) ys = rw (appended t xs ys) refl

-- the digits of what stands before a place and of what stands from there on
pub in_two : (n : ℕ) (bytes : List ℕ) → encode_lower bytes ≡ encode_lower (take n bytes) ++ encode_lower (drop n bytes)
in_two n bytes = ap encode_lower (sym (take-append-drop n bytes)) ∙ appended lower_digits (take n bytes) (drop n bytes)

-- no bytes have no digits
pub of_none : (bytes : List ℕ) → length bytes ≡ 0 → encode_lower bytes ≡ []
unfolding encode_with
of_none [] h = refl
of_none (b ∷ bytes) h = absurd (omega arith)
