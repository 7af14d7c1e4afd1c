-- Texts of digits.
use Rattle.std.specs.Prelude.{◌≡◌, ℕ, ◌<◌, ◌≤◌, ◌^◌, List, [], ◌∷◌, length, nat_lt, true, slice_index, ◌≢◌, refl, zero, suc, Err}
use Rattle.std.proofs.Common.{rules, arith, tests}
use Rattle.std.proofs.lemmas.Bool.Decides.{nat_tests}
use Rattle.std.specs.List.{list_all}
use Rattle.std.specs.Char.{digit_value}
use Rattle.std.specs.Str.{IsUtf8}
use Rattle.std.specs.Str.Parse.{AllDigits, IsNumeral, without_leading_plus, digits_value}
use Rattle.std.proofs.lemmas.Str.{IsUtf8-from_ascii}
use Rattle.std.proofs.lemmas.Str.Parse.{without_leading_plus_none}
use Rattle.bpf_line.specs.declared.fault.LineFault.TheVariants.{Range}
use Rattle.bpf_line.specs.Numbers.{is_numeral, numeral}

pub AllDigits-from_test : (radix : ℕ) (t : List ℕ) → list_all (λ c. nat_lt (digit_value c) radix) t ≡ true → AllDigits radix t
AllDigits-from_test radix [] e = tt
AllDigits-from_test radix (c ∷ cs) e = search (rules, tests, nat_tests, AllDigits-from_test radix cs)

pub test_from_AllDigits : (radix : ℕ) (t : List ℕ) → AllDigits radix t → list_all (λ c. nat_lt (digit_value c) radix) t ≡ true
test_from_AllDigits radix [] h = refl
test_from_AllDigits radix (c ∷ cs) h = search (rules, tests, nat_tests, test_from_AllDigits radix cs)

small_digit : (c : ℕ) → digit_value c < 36 → c < 128
small_digit c h = grind (arith, nat_tests)

small_at : (radix : ℕ) (t : List ℕ) → radix ≤ 36 → AllDigits radix t → (i : ℕ) → slice_index t i < 128
small_at radix [] le h i = search rules
small_at radix (c ∷ cs) le h zero = small_digit c (omega (arith, h.0))
small_at radix (c ∷ cs) le h (suc i) = small_at radix cs le h.1 i

not_plus : (radix : ℕ) (t : List ℕ) → radix ≤ 36 → 0 < length t → AllDigits radix t → slice_index t 0 ≢ 43
not_plus radix [] le some h = absurd (omega arith)
not_plus radix (c ∷ cs) le some h = λ e. let small : digit_value c < 36 = omega (arith, h.0) in grind (arith, nat_tests)

pub IsNumeral-from_test : (radix : ℕ) (t : List ℕ) → is_numeral radix t ≡ true → IsNumeral radix t
IsNumeral-from_test radix t e = search (rules, tests, nat_tests, AllDigits-from_test radix t)

pub IsUtf8-numeral : (radix : ℕ) (t : List ℕ) → radix ≤ 36 → is_numeral radix t ≡ true → IsUtf8 t
IsUtf8-numeral radix t le e = IsUtf8-from_ascii t (small_at radix t le (IsNumeral-from_test radix t e).1)

-- if the library finds no number in digits, the number is too large
pub numeral-too_large : (radix : ℕ) (t : List ℕ) → radix ≤ 36 → is_numeral radix t ≡ true
    → (IsNumeral radix (without_leading_plus t) × (digits_value radix (without_leading_plus t) < 2 ^ 64) → ⊥) → Err Range ≡ numeral radix t
numeral-too_large radix t le e none =
    let h = IsNumeral-from_test radix t e in
    let same = without_leading_plus_none t (not_plus radix t le h.0 h.1) in
    let no : digits_value radix t < 2 ^ 64 → ⊥ = λ small. none (rw same (h, small)) in
    search (rules, tests, nat_tests)
