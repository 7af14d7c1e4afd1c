-- A bound on the states met from a slot of a program whose jumps go forward.
use Rattle.std.proofs.Common.{◌≡◌, ℕ, zero, suc, ◌+◌, ◌-◌, ◌*◌, ◌^◌, ◌<◌, ◌≤◌, List, [], ◌∷◌, length, sym, ◌∙◌, ap, subst, arith, Option, Some, None, slice_get, true, cond, drop, get_or}
use Rattle.std.specs.Prelude.{count_by}
use Rattle.std.proofs.lemmas.List.Sums.{sum_by-drop_more, sum_by-take-drop}
use Rattle.std.proofs.lemmas.Option.{get_or_from_slice_get, slice_get_within}
use Rattle.std.proofs.Math.Nat.{mul-le-mul_left, mul-le-mul_right}
use Rattle.std.proofs.Math.Pow.{pow_mono}
use Rattle.bpf_insn.specs.declared.insn.Insn.{Insn}
use Rattle.bpf_plain.specs.Walks.{is_conditional}

-- the conditional jumps from a slot on
abbrev conditionals : List (Option Insn) → ℕ → ℕ
conditionals slots k = count_by is_conditional (drop k slots)

-- the slots from k on, doubled for each conditional jump
abbrev pub room : List (Option Insn) → ℕ → ℕ
room slots k = 2 ^ conditionals slots k * (length slots - k)

abbrev counts : Option Insn → ℕ
counts o = cond (is_conditional o) 1 0

fewer_in_all : (slots : List (Option Insn)) (t : ℕ) → conditionals slots t ≤ count_by is_conditional slots
fewer_in_all slots t = let h = sum_by-take-drop counts slots t in omega (arith, h)

fewer : (slots : List (Option Insn)) (k t : ℕ) → k ≤ t → conditionals slots t ≤ conditionals slots k
fewer slots zero t le = fewer_in_all slots t
fewer [] (suc k) zero le = omega arith
fewer [] (suc k) (suc t) le = omega arith
fewer (o ∷ slots) (suc k) zero le = absurd (omega (arith, le))
fewer (o ∷ slots) (suc k) (suc t) le = fewer slots k t (omega (arith, le))

one_more : (slots : List (Option Insn)) (k : ℕ) (o : Option Insn) → slice_get slots k ≡ Some o → is_conditional o ≡ true → conditionals slots k ≡ suc (conditionals slots (k + 1))
one_more slots k o at one =
    let here : counts (get_or slots k None) ≡ 1 = ap counts (get_or_from_slice_get slots k o None at) ∙ ap (λ b. cond b 1 0) one in
    let h = sum_by-drop_more counts slots k None (slice_get_within slots k o at) in
    omega (arith, h, here)

grows : (p q m n : ℕ) → p ≤ q → 1 ≤ q → m + 1 ≤ n → 1 + p * m ≤ q * n
grows p q m n le some less =
    let a : p * m ≤ q * m = mul-le-mul_right m le in
    let b : q * (m + 1) ≤ q * n = mul-le-mul_left q less in
    omega (arith, a, b, some)

grows_two : (p r q l m n : ℕ) → p ≤ q → r ≤ q → 1 ≤ q → l + 1 ≤ n → m + 1 ≤ n → 1 + (p * l + r * m) ≤ (2 * q) * n
grows_two p r q l m n le le2 some less less2 =
    let a = grows p q l n le some less in
    let b = grows r q m n le2 some less2 in
    omega (arith, a, b)

twice_power : (n : ℕ) → 2 ^ suc n ≡ 2 * 2 ^ n
twice_power n = omega arith

power_some : (n : ℕ) → 1 ≤ 2 ^ n
power_some n = pow_mono {i = 0} {j = n} (omega arith)

pub room_one : (slots : List (Option Insn)) (k t : ℕ) → k < t → t < length slots → 1 + room slots t ≤ room slots k
room_one slots k t ahead inside =
    grows (2 ^ conditionals slots t) (2 ^ conditionals slots k) (length slots - t) (length slots - k)
    (pow_mono (fewer slots k t (omega (arith, ahead)))) (power_some (conditionals slots k)) (omega (arith, ahead, inside))

pub room_two : (slots : List (Option Insn)) (k t u : ℕ) (o : Option Insn) → slice_get slots k ≡ Some o → is_conditional o ≡ true → k < t → k < u → t < length slots → u < length slots →
    1 + (room slots t + room slots u) ≤ room slots k
room_two slots k t u o at one ahead ahead2 inside inside2 =
    let c = conditionals slots (k + 1) in
    let twice : 2 ^ conditionals slots k ≡ 2 * 2 ^ c = ap (λ n. 2 ^ n) (one_more slots k o at one) ∙ twice_power c in
    subst (λ n. 1 + (room slots t + room slots u) ≤ n * (length slots - k)) (sym twice)
    (grows_two (2 ^ conditionals slots t) (2 ^ conditionals slots u) (2 ^ c) (length slots - t) (length slots - u) (length slots - k)
    (pow_mono (fewer slots (k + 1) t (omega (arith, ahead)))) (pow_mono (fewer slots (k + 1) u (omega (arith, ahead2)))) (power_some c)
    (omega (arith, ahead, inside)) (omega (arith, ahead2, inside2)))

pub room_some : (slots : List (Option Insn)) (k : ℕ) → k < length slots → 1 ≤ room slots k
room_some slots k inside =
    let a = grows 0 (2 ^ conditionals slots k) 0 (length slots - k) (omega arith) (power_some (conditionals slots k)) (omega (arith, inside)) in
    omega (arith, a)

-- 256 paths of 16384 slots
pub room_start : (slots : List (Option Insn)) → count_by is_conditional slots ≤ 8 → length slots ≤ 16384 → room slots 0 ≤ 2 ^ 22
room_start slots few short =
    let p : 2 ^ conditionals slots 0 ≤ 256 = pow_mono {j = 8} few in
    let a : 2 ^ conditionals slots 0 * (length slots - 0) ≤ 256 * (length slots - 0) = mul-le-mul_right (length slots - 0) p in
    omega (arith, a, short)
