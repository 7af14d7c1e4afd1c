-- One byte of a recursion over bytes.
use Rattle.std.proofs.Common.{◌≡◌, ◌<◌, ◌≤◌, ◌+◌, ◌*◌, ◌/◌, ◌%◌, ◌^◌, ◌-◌, ℕ, zero, suc, List, Option, Some, None, slice_index, slice_index_or, slice_set, Result, Ok, refl, sym, ap, ◌∙◌, arith}
use Rattle.bpf_model.specs.declared.StackFrame.{StackFrame}
use Rattle.bpf_model.specs.Memory.{number_at, set_bytes, set_byte, joined, with_number, without}

pub with_number-zero : (bytes : List (Option ℕ)) (at n x : ℕ) → n ≤ 0 → with_number bytes at n x ≡ bytes
unfolding with_number
with_number-zero bytes at zero x h = refl
with_number-zero bytes at (suc n) x h = absurd (omega arith)

pub with_number-step : (bytes : List (Option ℕ)) (at n x : ℕ) → 0 < n → with_number bytes at n x ≡ with_number (slice_set bytes at (Some (x % 256))) (at + 1) (n - 1) (x / 256)
unfolding with_number
with_number-step bytes at zero x h = absurd (omega arith)
with_number-step bytes at (suc n) x h =
    let e : suc n - 1 ≡ n = omega arith in
    ap (λ k. with_number (slice_set bytes at (Some (x % 256))) (at + 1) k (x / 256)) (sym e)

pub without-zero : (bytes : List (Option ℕ)) (at n : ℕ) → n ≤ 0 → without bytes at n ≡ bytes
unfolding without
without-zero bytes at zero h = refl
without-zero bytes at (suc n) h = absurd (omega arith)

pub without-step : (bytes : List (Option ℕ)) (at n : ℕ) → 0 < n → without bytes at n ≡ without (slice_set bytes at None) (at + 1) (n - 1)
unfolding without
without-step bytes at zero h = absurd (omega arith)
without-step bytes at (suc n) h =
    let e : suc n - 1 ≡ n = omega arith in
    ap (λ k. without (slice_set bytes at None) (at + 1) k) (sym e)

pub number_at-zero : (bytes : List ℕ) (at n : ℕ) → n ≡ 0 → number_at bytes at n ≡ 0
unfolding number_at
number_at-zero bytes at zero h = refl
number_at-zero bytes at (suc n) h = absurd (omega arith)

pub number_at-step : (bytes : List ℕ) (at n : ℕ) → 0 < n → number_at bytes at n ≡ slice_index bytes at + 256 * number_at bytes (at + 1) (n - 1)
unfolding number_at
number_at-step bytes at zero h = absurd (omega arith)
number_at-step bytes at (suc n) h =
    let e : suc n - 1 ≡ n = omega arith in
    ap (λ k. slice_index bytes at + 256 * number_at bytes (at + 1) k) (sym e)

pub set_bytes-zero : (f : StackFrame) (at n : ℕ) → n ≡ 0 → set_bytes f at n ≡ Ok 0
unfolding set_bytes
set_bytes-zero f at zero h = refl
set_bytes-zero f at (suc n) h = absurd (omega arith)

pub set_bytes-step : (f : StackFrame) (at n : ℕ) → 0 < n → set_bytes f at n ≡ joined (set_byte f at (slice_index_or f.bytes at None)) (set_bytes f (at + 1) (n - 1))
unfolding set_bytes
set_bytes-step f at zero h = absurd (omega arith)
set_bytes-step f at (suc n) h =
    let e : suc n - 1 ≡ n = omega arith in
    ap (λ k. joined (set_byte f at (slice_index_or f.bytes at None)) (set_bytes f (at + 1) k)) (sym e)

-- one more byte multiplies the bound by 256
pub more_room : (n : ℕ) → 0 < n → n ≤ 8 → 256 * 2 ^ (8 * (n - 1)) ≡ 2 ^ (8 * n)
more_room zero h le = absurd (omega arith)
more_room (suc zero) h le = refl
more_room (suc (suc zero)) h le = refl
more_room (suc (suc (suc zero))) h le = refl
more_room (suc (suc (suc (suc zero)))) h le = refl
more_room (suc (suc (suc (suc (suc zero))))) h le = refl
more_room (suc (suc (suc (suc (suc (suc zero)))))) h le = refl
more_room (suc (suc (suc (suc (suc (suc (suc zero))))))) h le = refl
more_room (suc (suc (suc (suc (suc (suc (suc (suc zero)))))))) h le = refl
more_room (suc (suc (suc (suc (suc (suc (suc (suc (suc n))))))))) h le = absurd (omega arith)

pub few_bytes : (n : ℕ) → n ≤ 8 → 2 ^ (8 * n) ≤ 2 ^ 64
few_bytes zero le = omega arith
few_bytes (suc zero) le = omega arith
few_bytes (suc (suc zero)) le = omega arith
few_bytes (suc (suc (suc zero))) le = omega arith
few_bytes (suc (suc (suc (suc zero)))) le = omega arith
few_bytes (suc (suc (suc (suc (suc zero))))) le = omega arith
few_bytes (suc (suc (suc (suc (suc (suc zero)))))) le = omega arith
few_bytes (suc (suc (suc (suc (suc (suc (suc zero))))))) le = omega arith
few_bytes (suc (suc (suc (suc (suc (suc (suc (suc zero)))))))) le = omega arith
few_bytes (suc (suc (suc (suc (suc (suc (suc (suc (suc n))))))))) le = absurd (omega arith)

-- a number of n bytes, from its lowest byte and the others
pub one_more : (n low high : ℕ) → 0 < n → n ≤ 8 → low < 256 → high < 2 ^ (8 * (n - 1)) → low + 256 * high < 2 ^ (8 * n)
one_more n low high some few byte rest =
    let e : 256 * 2 ^ (8 * (n - 1)) ≡ 2 ^ (8 * n) = more_room n some few in
    omega arith

pub one_more_fits : (n low high : ℕ) → 0 < n → n ≤ 8 → low < 256 → high < 2 ^ (8 * (n - 1)) → low + 256 * high < 2 ^ 64
one_more_fits n low high some few byte rest =
    let a : low + 256 * high < 2 ^ (8 * n) = one_more n low high some few byte rest in
    let b : 2 ^ (8 * n) ≤ 2 ^ 64 = few_bytes n few in
    omega arith

pub joined_is : (f : StackFrame) (at n : ℕ) → 0 < n → (low high : Result ℕ ℕ) → low ≡ set_byte f at (slice_index_or f.bytes at None) → high ≡ set_bytes f (at + 1) (n - 1) → joined low high ≡ set_bytes f at n
joined_is f at n some low high a b =
    ap (λ x. joined x high) a ∙ ap (joined (set_byte f at (slice_index_or f.bytes at None))) b ∙ sym (set_bytes-step f at n some)
