-- Texts of hex digits.
use Rattle.std.specs.Prelude.{IsOk, ◌<◌, slice_index, ◌≡◌, ℕ, ◌%◌, List, [], ◌∷◌, length, Bool, true, false, ◌||◌, ◌&&◌, Some, None, is_some, Result, Ok, Err, is_ok, refl, nat_le, if◌then◌else◌}
use Rattle.std.proofs.Common.{sym, ◌∙◌}
use Rattle.std.specs.List.{AllPass, list_all}
use Rattle.std.specs.Char.{is_ascii_hexdigit}
use Rattle.std.proofs.lemmas.List.Sums.{AllPass-from_list_all, list_all-from_AllPass}
use Rattle.hex.specs.Hex.{decode_of, is_hex_digit}
use Rattle.hex.specs.declared.error.FromHexError.{FromHexError}
use Rattle.hex.proofs.HexLemmas.{decode_of-ok, decode_of-digits}

one_of_three : (a b d : Bool) (x y z : ℕ) → ((d || a) || b) ≡ is_some (if a then Some x else (if b then Some y else (if d then Some z else None)))
one_of_three true true true x y z = refl
one_of_three true true false x y z = refl
one_of_three true false true x y z = refl
one_of_three true false false x y z = refl
one_of_three false true true x y z = refl
one_of_three false true false x y z = refl
one_of_three false false true x y z = refl
one_of_three false false false x y z = refl

-- std and `hex` have the same hex digits
is_ascii_hexdigit-same : (c : ℕ) → is_ascii_hexdigit c ≡ is_hex_digit c
is_ascii_hexdigit-same c = one_of_three (nat_le 65 c && nat_le c 70) (nat_le 97 c && nat_le c 102) (nat_le 48 c && nat_le c 57) _ _ _

are_same : (s : List ℕ) → list_all is_ascii_hexdigit s ≡ list_all is_hex_digit s
are_same [] = refl
are_same (c ∷ cs) = rw (is_ascii_hexdigit-same c, are_same cs) refl

-- an even number of hex digits spells bytes
is_ok-digits : (s : List ℕ) → length s % 2 ≡ 0 → list_all is_hex_digit s ≡ true → true ≡ is_ok (decode_of s)
is_ok-digits s even all = let bytes = decode_of-digits s even (AllPass-from_list_all is_hex_digit s all) in rw bytes.1 refl

is_ok-no_digit : (s : List ℕ) → list_all is_hex_digit s ≡ false → false ≡ is_ok (decode_of s)
is_ok-no_digit s other = by_answer (decode_of s) refl
  where
    by_answer : (r : Result (List ℕ) FromHexError) → decode_of s ≡ r → false ≡ is_ok r
    by_answer (Err e) h = refl
    by_answer (Ok bytes) h = let all = list_all-from_AllPass is_hex_digit s (decode_of-ok s bytes h).1 in sym other ∙ all

-- which texts of an even length spell bytes
pub is_ok-even : (s : List ℕ) → length s % 2 ≡ 0 → list_all is_ascii_hexdigit s ≡ is_ok (decode_of s)
is_ok-even s even = are_same s ∙ by_test (list_all is_hex_digit s) refl
  where
    by_test : (b : Bool) → list_all is_hex_digit s ≡ b → b ≡ is_ok (decode_of s)
    by_test true e = is_ok-digits s even e
    by_test false e = is_ok-no_digit s e

-- the characters of a text that spells bytes are digits
pub all_digits : (s : List ℕ) → IsOk (decode_of s) → AllPass is_hex_digit s
all_digits s ok = by_answer (decode_of s) refl ok
  where
    by_answer : (r : Result (List ℕ) FromHexError) → decode_of s ≡ r → is_ok r ≡ true → AllPass is_hex_digit s
    by_answer (Ok bytes) h e = (decode_of-ok s bytes h).1
    by_answer (Err why) h e = cc e

pub digit_in : (s : List ℕ) (k : ℕ) → IsOk (decode_of s) → k < length s → is_hex_digit (slice_index s k) ≡ true
digit_in s k ok within = all_digits s ok k 0 within
