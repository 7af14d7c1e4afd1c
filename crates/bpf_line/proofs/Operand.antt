-- The operands in the text of instructions are read as themselves.
use Rattle.std.specs.Prelude.{◌≡◌, ◌<◌, ◌≤◌, ◌-◌, ◌^◌, ℕ, ℤ, pos, negsuc, List, [], ◌∷◌, ◌++◌, length, take, slice_index, true, false, codes, refl, suc, zero, bytes_eq, Ok, nat_le, FitsSigned}
use Rattle.std.proofs.Common.{rules, tests, arith, sym, ◌∙◌, ap, append_assoc}
use Rattle.std.proofs.lemmas.Bool.Decides.{nat_tests}
use Rattle.std.specs.Int.{w16, w32, cast_signed}
use Rattle.std.specs.Char.{digit_value}
use Rattle.std.specs.Fmt.{decimal, signed_decimal, digits}
use Rattle.std.specs.Str.Parse.{AllDigits}
use Rattle.std.proofs.lemmas.Fmt.{decimal_is_IsNumeral}
use Rattle.bpf_insn.specs.declared.insn.Source.{Source}
use Rattle.bpf_insn.specs.declared.insn.Source.TheVariants as source
use Rattle.bpf_insn.specs.Spelled.{IsSource}
use Rattle.bpf_line.specs.Numbers.{numeral, word, below_zero, starts, unsigned, imm, offset, long_offset, wide_number}
use Rattle.bpf_line.specs.Operands.{register, source_of, place, memory, both}
use Rattle.bpf_line.specs.Spellings.{register_text, offset_text, source_text, memory_text}
use Rattle.bpf_line.proofs.Digits.{test_from_AllDigits}

pub register-text : (r : ℕ) → r ≤ 10 → register (register_text r) ≡ Ok r
unfolding digits
register-text zero h = refl
register-text (suc zero) h = refl
register-text (suc (suc zero)) h = refl
register-text (suc (suc (suc zero))) h = refl
register-text (suc (suc (suc (suc zero)))) h = refl
register-text (suc (suc (suc (suc (suc zero))))) h = refl
register-text (suc (suc (suc (suc (suc (suc zero)))))) h = refl
register-text (suc (suc (suc (suc (suc (suc (suc zero))))))) h = refl
register-text (suc (suc (suc (suc (suc (suc (suc (suc zero)))))))) h = refl
register-text (suc (suc (suc (suc (suc (suc (suc (suc (suc zero))))))))) h = refl
register-text (suc (suc (suc (suc (suc (suc (suc (suc (suc (suc zero)))))))))) h = refl
register-text (suc (suc (suc (suc (suc (suc (suc (suc (suc (suc (suc n))))))))))) h = absurd (omega arith)

numeral-decimal : (n : ℕ) → n < 2 ^ 64 → numeral 10 (decimal n) ≡ Ok n
numeral-decimal n small =
    let d = decimal_is_IsNumeral n small in
    let test = test_from_AllDigits 10 (decimal n) d.0.1 in
    search (rules, tests, nat_tests)

no_start : (c : ℕ) (t : List ℕ) → 10 ≤ digit_value c → AllDigits 10 t → starts c t ≡ false
no_start c [] other h = refl
no_start c (d ∷ ds) other h = let small : digit_value d < 10 = h.0 in search (rules, tests, nat_tests)

no_prefix : (t : List ℕ) → AllDigits 10 t → bytes_eq (take 2 t) (codes "0x") ≡ false
no_prefix [] h = refl
no_prefix (c ∷ []) h = search (rules, tests, nat_tests)
no_prefix (c ∷ d ∷ ds) h = let small : digit_value d < 10 = h.1.0 in search (rules, tests, nat_tests)

unsigned-decimal : (n : ℕ) → n < 2 ^ 64 → unsigned (decimal n) ≡ Ok n
unsigned-decimal n small =
    let d = decimal_is_IsNumeral n small in rw (no_prefix (decimal n) d.0.1) (numeral-decimal n small)

pub wide_number-decimal : (n : ℕ) → n < 2 ^ 64 → wide_number (decimal n) ≡ Ok n
wide_number-decimal n small =
    let d = decimal_is_IsNumeral n small in rw (no_start 45 (decimal n) (omega arith) d.0.1) (unsigned-decimal n small)

-- immediates and long offsets keep numbers that fit
word-small : (n : ℕ) → n < 2 ^ 31 → word n ≡ Ok (pos n)
word-small n small = search (rules, tests, nat_tests)

below-small : (most n : ℕ) → suc n ≤ most → below_zero most (suc n) ≡ Ok (negsuc n)
below-small most n small = search (rules, tests, nat_tests)

pub imm-decimal : (n : ℕ) → n < 2 ^ 31 → imm (decimal n) ≡ Ok (pos n)
imm-decimal n small =
    let wide : n < 2 ^ 64 = omega arith in
    let d = decimal_is_IsNumeral n wide in
    rw (no_start 45 (decimal n) (omega arith) d.0.1, unsigned-decimal n wide) (word-small n small)

pub imm-signed : (z : ℤ) → FitsSigned w32 z → imm (signed_decimal z) ≡ Ok z
imm-signed (pos n) fits = imm-decimal n (search rules)
imm-signed (negsuc n) fits =
    let small : suc n ≤ 2 ^ 31 = search rules in
    rw (numeral-decimal (suc n) (omega (arith, small))) (below-small (2 ^ 31) n small)

pub offset-text : (x : ℤ) → FitsSigned w16 x → offset (offset_text x) ≡ Ok x
offset-text (pos n) fits =
    let small : n < 2 ^ 15 = search rules in
    rw (numeral-decimal n (omega (arith, small))) (search (rules, tests, nat_tests))
offset-text (negsuc n) fits =
    let small : suc n ≤ 2 ^ 15 = search rules in
    rw (numeral-decimal (suc n) (omega (arith, small))) (below-small (2 ^ 15) n small)

pub long_offset-text : (x : ℤ) → FitsSigned w32 x → long_offset (offset_text x) ≡ Ok x
long_offset-text (pos n) fits =
    let small : n < 2 ^ 31 = search rules in
    rw (numeral-decimal n (omega (arith, small))) (word-small n small)
long_offset-text (negsuc n) fits =
    let small : suc n ≤ 2 ^ 31 = search rules in
    rw (numeral-decimal (suc n) (omega (arith, small))) (below-small (2 ^ 31) n small)

-- a 32-bit number is read mod 2^32
pub imm-word : (n : ℕ) → n < 2 ^ 32 → imm (decimal n) ≡ Ok (cast_signed w32 n)
imm-word n small =
    let wide : n < 2 ^ 64 = omega arith in
    let d = decimal_is_IsNumeral n wide in
    rw (no_start 45 (decimal n) (omega arith) d.0.1, unsigned-decimal n wide) (search (rules, tests, nat_tests))

signed_start : (z : ℤ) → FitsSigned w32 z → starts 114 (signed_decimal z) ≡ false
signed_start (pos n) fits =
    let small : n < 2 ^ 31 = search rules in
    no_start 114 (decimal n) (omega arith) (decimal_is_IsNumeral n (omega (arith, small))).0.1
signed_start (negsuc n) fits = refl

pub source-text : (s : Source) → IsSource s → source_of (source_text s) ≡ Ok s
source-text (source.Imm n) fits = rw (signed_start n fits, imm-signed n fits) refl
source-text (source.Reg r) fits = rw (register-text r fits) refl

-- the text in brackets
place-plus : (r : ℕ) (o : List ℕ) → r ≤ 10 → place (register_text r ++ (43 ∷ o)) ≡ both (Ok r) (offset (43 ∷ o))
unfolding digits
place-plus zero o h = refl
place-plus (suc zero) o h = refl
place-plus (suc (suc zero)) o h = refl
place-plus (suc (suc (suc zero))) o h = refl
place-plus (suc (suc (suc (suc zero)))) o h = refl
place-plus (suc (suc (suc (suc (suc zero))))) o h = refl
place-plus (suc (suc (suc (suc (suc (suc zero)))))) o h = refl
place-plus (suc (suc (suc (suc (suc (suc (suc zero))))))) o h = refl
place-plus (suc (suc (suc (suc (suc (suc (suc (suc zero)))))))) o h = refl
place-plus (suc (suc (suc (suc (suc (suc (suc (suc (suc zero))))))))) o h = refl
place-plus (suc (suc (suc (suc (suc (suc (suc (suc (suc (suc zero)))))))))) o h = refl
place-plus (suc (suc (suc (suc (suc (suc (suc (suc (suc (suc (suc r))))))))))) o h = absurd (omega arith)

place-minus : (r : ℕ) (o : List ℕ) → r ≤ 10 → place (register_text r ++ (45 ∷ o)) ≡ both (Ok r) (offset (45 ∷ o))
unfolding digits
place-minus zero o h = refl
place-minus (suc zero) o h = refl
place-minus (suc (suc zero)) o h = refl
place-minus (suc (suc (suc zero))) o h = refl
place-minus (suc (suc (suc (suc zero)))) o h = refl
place-minus (suc (suc (suc (suc (suc zero))))) o h = refl
place-minus (suc (suc (suc (suc (suc (suc zero)))))) o h = refl
place-minus (suc (suc (suc (suc (suc (suc (suc zero))))))) o h = refl
place-minus (suc (suc (suc (suc (suc (suc (suc (suc zero)))))))) o h = refl
place-minus (suc (suc (suc (suc (suc (suc (suc (suc (suc zero))))))))) o h = refl
place-minus (suc (suc (suc (suc (suc (suc (suc (suc (suc (suc zero)))))))))) o h = refl
place-minus (suc (suc (suc (suc (suc (suc (suc (suc (suc (suc (suc r))))))))))) o h = absurd (omega arith)

place-text : (r : ℕ) (x : ℤ) → r ≤ 10 → FitsSigned w16 x → place (register_text r ++ offset_text x) ≡ Ok (r, x)
place-text r (pos n) h fits = place-plus r (decimal n) h ∙ ap (both (Ok r)) (offset-text (pos n) fits)
place-text r (negsuc n) h fits = place-minus r (decimal (suc n)) h ∙ ap (both (Ok r)) (offset-text (negsuc n) fits)

last_of : (u : List ℕ) → slice_index (u ++ 93 ∷ []) (length u) ≡ 93
last_of [] = refl
last_of (c ∷ cs) = last_of cs

length_of : (u : List ℕ) → length (u ++ 93 ∷ []) ≡ suc (length u)
length_of [] = refl
length_of (c ∷ cs) = ap suc (length_of cs)

front_of : (u : List ℕ) → take (length u) (u ++ 93 ∷ []) ≡ u
front_of [] = refl
front_of (c ∷ cs) = ap (λ t. c ∷ t) (front_of cs)

memory-place : (u : List ℕ) → memory (91 ∷ (u ++ codes "]")) ≡ place u
memory-place u =
    let all = length_of u in
    let one : length (91 ∷ (u ++ 93 ∷ [])) - 1 ≡ suc (length u) = omega (arith, all) in
    let two : suc (length u) - 1 ≡ length u = omega arith in
    let long : nat_le 2 (length (91 ∷ (u ++ 93 ∷ []))) ≡ true = grind (arith, nat_tests) in
    rw (long, one, two, last_of u, front_of u) refl

pub memory-text : (r : ℕ) (x : ℤ) → r ≤ 10 → FitsSigned w16 x → memory (memory_text r x) ≡ Ok (r, x)
memory-text r x h fits =
    ap (λ t. memory (91 ∷ t)) (sym (append_assoc (register_text r) (offset_text x) (codes "]")))
    ∙ memory-place (register_text r ++ offset_text x) ∙ place-text r x h fits
