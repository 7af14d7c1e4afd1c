-- Decimal numbers.
use Rattle.std.specs.Prelude.{◌≡◌, ◌≢◌, ◌<◌, ◌≤◌, ◌+◌, ◌*◌, ◌^◌, ℕ, List, [], ◌∷◌, length, true, Some, None, Result, Ok, Err, slice_index}
use Rattle.std.proofs.Common.{rules, tests, arith}
use Rattle.std.proofs.Math.Nat.{mul-le-mul_right, add-mul}
use Rattle.std.specs.List.{list_all}
use Rattle.std.specs.Result.{OkIff, result_ok}
use Rattle.std.specs.Char.{digit_value, is_ascii_digit}
use Rattle.std.specs.Str.Parse.{AllDigits, IsNumeral, without_leading_plus, digits_value}
use Rattle.std.proofs.lemmas.Bool.Decides.{nat_tests}
use Rattle.std.proofs.lemmas.Str.Parse.{without_leading_plus_none}
use Rattle.apd_script.specs.Words.{is_decimal, number_below}

digit_small : (c : ℕ) → is_ascii_digit c ≡ true → digit_value c < 10
digit_small c h = grind (arith, nat_tests)

AllDigits-from_test : (t : List ℕ) → list_all is_ascii_digit t ≡ true → AllDigits 10 t
AllDigits-from_test [] e = tt
AllDigits-from_test (c ∷ cs) e = search (rules, tests, nat_tests, digit_small c, AllDigits-from_test cs)

not_plus : (t : List ℕ) → 0 < length t → list_all is_ascii_digit t ≡ true → slice_index t 0 ≢ 43
not_plus [] some h = absurd (omega arith)
not_plus (c ∷ cs) some h = λ e. let first : is_ascii_digit c ≡ true = search (rules, tests) in grind (arith, nat_tests)

IsNumeral-from_test : (t : List ℕ) → is_decimal t ≡ true → IsNumeral 10 t
IsNumeral-from_test t e = search (rules, tests, nat_tests, AllDigits-from_test t)

no_sign : (t : List ℕ) → is_decimal t ≡ true → without_leading_plus t ≡ t
no_sign t e = without_leading_plus_none t (search (rules, tests, nat_tests, not_plus t))

-- what `parse` reads in decimal digits
pub result_ok-parsed : {E : Type 0} (t : List ℕ) (r : Result ℕ E) → is_decimal t ≡ true
    → OkIff r (IsNumeral 10 (without_leading_plus t) × (digits_value 10 (without_leading_plus t) < 2 ^ 64)) (digits_value 10 (without_leading_plus t))
    → result_ok r ≡ number_below (2 ^ 64) t
result_ok-parsed t (Ok x) e h =
    let read = rw (no_sign t e) at h in
    let fits : digits_value 10 t < 2 ^ 64 = read.0.1 in
    let same : x ≡ digits_value 10 t = read.1 in
    search (rules, tests, nat_tests)
result_ok-parsed t (Err f) e h =
    let numeral = IsNumeral-from_test t e in
    let none = rw (no_sign t e) at h in
    let large : digits_value 10 t < 2 ^ 64 → ⊥ = λ small. none (numeral, small) in
    search (rules, tests, nat_tests)

-- a tighter limit
pub number_below-small : (limit n : ℕ) (t : List ℕ) → number_below (2 ^ 64) t ≡ Some n → n < limit → Some n ≡ number_below limit t
number_below-small limit n t e small = search (rules, tests, nat_tests)

pub number_below-large : (limit n : ℕ) (t : List ℕ) → number_below (2 ^ 64) t ≡ Some n → limit ≤ n → None ≡ number_below limit t
number_below-large limit n t e large = search (rules, tests, nat_tests)

-- an index in an entry is an index in the map
pub within_map : (entry entries words place : ℕ) → entry < entries → place < words → entry * words + place < entries * words
within_map entry entries words place e p =
    let step : entry + 1 ≤ entries = omega (arith, e) in
    let below = mul-le-mul_right words step in
    let sum = add-mul entry 1 words in
    omega (arith, below, sum, p)
