-- The bytes of a stack frame after some are set or unset.
use Rattle.std.proofs.Common.{ℕ, zero, suc, ◌≡◌, ◌≢◌, ◌+◌, ◌/◌, ◌%◌, ◌<◌, ◌≤◌, ⊎_elim, List, length, Option, Some, None, slice_index_or, slice_set, refl, ap, ◌∙◌, arith}
use Rattle.std.proofs.lemmas.List.{length-set, get_or-set_same, get_or-set_other}
use Rattle.std.proofs.lemmas.Bool.{cases_eq}
use Rattle.bpf_model.specs.Memory.{with_number, without}

-- a byte, if set
abbrev pub byte_at : List (Option ℕ) → ℕ → Option ℕ
byte_at bytes i = slice_index_or bytes i None

-- ---- a number is written

pub length-with_number : (bytes : List (Option ℕ)) (at n x : ℕ) → length (with_number bytes at n x) ≡ length bytes
unfolding with_number
length-with_number bytes at zero x = refl
length-with_number bytes at (suc n) x =
    length-with_number (slice_set bytes at (Some (x % 256))) (at + 1) n (x / 256) ∙ length-set bytes at (Some (x % 256))

-- the bytes before and after it are unchanged
pub number_before : (bytes : List (Option ℕ)) (at n x i : ℕ) → i < at → byte_at (with_number bytes at n x) i ≡ byte_at bytes i
unfolding with_number
number_before bytes at zero x i h = refl
number_before bytes at (suc n) x i h =
    let apart : i ≢ at = omega arith in
    number_before (slice_set bytes at (Some (x % 256))) (at + 1) n (x / 256) i (omega arith) ∙ get_or-set_other bytes at i (Some (x % 256)) None apart

pub number_behind : (bytes : List (Option ℕ)) (at n x i : ℕ) → at + n ≤ i → byte_at (with_number bytes at n x) i ≡ byte_at bytes i
unfolding with_number
number_behind bytes at zero x i h = refl
number_behind bytes at (suc n) x i h =
    let apart : i ≢ at = omega arith in
    number_behind (slice_set bytes at (Some (x % 256))) (at + 1) n (x / 256) i (omega arith) ∙ get_or-set_other bytes at i (Some (x % 256)) None apart

-- its lowest byte
pub number_first : (bytes : List (Option ℕ)) (at n x : ℕ) → at < length bytes → byte_at (with_number bytes at (suc n) x) at ≡ Some (x % 256)
unfolding with_number
number_first bytes at n x h =
    number_before (slice_set bytes at (Some (x % 256))) (at + 1) n (x / 256) at (omega arith) ∙ get_or-set_same bytes at (Some (x % 256)) None h

-- a byte that is set
abbrev pub IsSet : Option ℕ → Type 0
IsSet o = (b : ℕ) × (o ≡ Some b) × (b < 256)

pub number_within : (bytes : List (Option ℕ)) (at n x i : ℕ) → at ≤ i → i < at + n → at + n ≤ length bytes → IsSet (byte_at (with_number bytes at n x) i)
unfolding with_number
number_within bytes at zero x i low high room = absurd (omega arith)
number_within bytes at (suc n) x i low high room =
    ⊎_elim
    (λ same. (x % 256, ap (byte_at (with_number bytes at (suc n) x)) same ∙ number_first bytes at n x (omega arith), omega arith))
    (λ apart. number_within (slice_set bytes at (Some (x % 256))) (at + 1) n (x / 256) i (omega (arith, apart)) (omega arith) (omega (arith, length-set bytes at (Some (x % 256)))))
    (cases_eq i at)

-- ---- bytes are unset

pub length-without : (bytes : List (Option ℕ)) (at n : ℕ) → length (without bytes at n) ≡ length bytes
unfolding without
length-without bytes at zero = refl
length-without bytes at (suc n) = length-without (slice_set bytes at None) (at + 1) n ∙ length-set bytes at None

pub without_before : (bytes : List (Option ℕ)) (at n i : ℕ) → i < at → byte_at (without bytes at n) i ≡ byte_at bytes i
unfolding without
without_before bytes at zero i h = refl
without_before bytes at (suc n) i h =
    let apart : i ≢ at = omega arith in
    without_before (slice_set bytes at None) (at + 1) n i (omega arith) ∙ get_or-set_other bytes at i None None apart

pub without_behind : (bytes : List (Option ℕ)) (at n i : ℕ) → at + n ≤ i → byte_at (without bytes at n) i ≡ byte_at bytes i
unfolding without
without_behind bytes at zero i h = refl
without_behind bytes at (suc n) i h =
    let apart : i ≢ at = omega arith in
    without_behind (slice_set bytes at None) (at + 1) n i (omega arith) ∙ get_or-set_other bytes at i None None apart

without_first : (bytes : List (Option ℕ)) (at n : ℕ) → at < length bytes → byte_at (without bytes at (suc n)) at ≡ None
unfolding without
without_first bytes at n h =
    without_before (slice_set bytes at None) (at + 1) n at (omega arith) ∙ get_or-set_same bytes at None None h

pub without_within : (bytes : List (Option ℕ)) (at n i : ℕ) → at ≤ i → i < at + n → at + n ≤ length bytes → byte_at (without bytes at n) i ≡ None
unfolding without
without_within bytes at zero i low high room = absurd (omega arith)
without_within bytes at (suc n) i low high room =
    ⊎_elim
    (λ same. ap (byte_at (without bytes at (suc n))) same ∙ without_first bytes at n (omega arith))
    (λ apart. without_within (slice_set bytes at None) (at + 1) n i (omega (arith, apart)) (omega arith) (omega (arith, length-set bytes at None)))
    (cases_eq i at)
