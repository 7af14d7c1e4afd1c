-- Cutting a text at a byte.
use Rattle.std.specs.Prelude.{◌≡◌, ◌≢◌, ◌<◌, ◌+◌, ◌-◌, ◌==◌, ℕ, List, [], ◌∷◌, ◌++◌, length, take, drop, true, false, Some, None, slice_index, refl, suc, zero}
use Rattle.std.proofs.Common.{rules, tests, arith, ◌∙◌, ap}
use Rattle.std.specs.List.{slice_split, onto_first}
use Rattle.memchr.specs.Find.{IsFirstByte, is_byte}
use Rattle.apd_script.specs.Script.{lines_of}
use Rattle.std.proofs.lemmas.Grind.{common_steps}
use Rattle.std.proofs.lemmas.Bool.Decides.{nat_tests}
use Rattle.std.proofs.lemmas.List.Splits.{slice_split-cons_yes, slice_split-cons_no}

other_byte : (b c : ℕ) → b ≢ c → (b == c) ≡ false
other_byte b c other = search (rules, tests, nat_tests)

same_byte : (b c : ℕ) → b ≡ c → (b == c) ≡ true
same_byte b c same = search (rules, tests, nat_tests)

-- a text without the byte is one part
pub slice_split-without : (c : ℕ) (t : List ℕ) → ((i : ℕ) → i < length t → slice_index t i ≢ c) → slice_split (λ b. b == c) t ≡ t ∷ []
slice_split-without c [] h = refl
slice_split-without c (b ∷ bs) h =
    slice_split-cons_no (λ b. b == c) b bs (other_byte b c (h 0 (omega arith)))
    ∙ ap (onto_first b) (slice_split-without c bs (λ i lt. h (suc i) (omega (arith, lt))))

-- the first part ends at the first such byte
pub slice_split-before : (c : ℕ) (t rest : List ℕ) → ((i : ℕ) → i < length t → slice_index t i ≢ c)
    → slice_split (λ b. b == c) (t ++ c ∷ rest) ≡ t ∷ slice_split (λ b. b == c) rest
slice_split-before c [] rest h = slice_split-cons_yes (λ b. b == c) c rest (same_byte c c refl)
slice_split-before c (b ∷ bs) rest h =
    slice_split-cons_no (λ b. b == c) b (bs ++ c ∷ rest) (other_byte b c (h 0 (omega arith)))
    ∙ ap (onto_first b) (slice_split-before c bs rest (λ i lt. h (suc i) (omega (arith, lt))))

-- the same by the byte's index
pub slice_split-at : (c : ℕ) (t : List ℕ) (k : ℕ) → k < length t → slice_index t k ≡ c → ((i : ℕ) → i < k → slice_index t i ≢ c)
    → slice_split (λ b. b == c) t ≡ take k t ∷ slice_split (λ b. b == c) (drop (suc k) t)
slice_split-at c [] k lt is h = absurd (omega arith)
slice_split-at c (b ∷ bs) zero lt is h = slice_split-cons_yes (λ b. b == c) b bs (same_byte b c is)
slice_split-at c (b ∷ bs) (suc k) lt is h =
    slice_split-cons_no (λ b. b == c) b bs (other_byte b c (h 0 (omega arith)))
    ∙ ap (onto_first b) (slice_split-at c bs k (omega (arith, lt)) is (λ i less. h (suc i) (omega (arith, less))))

-- the first line of a text with a line feed
pub record IsCut (t line rest : List ℕ) : Type 0 where
  pub lines : lines_of t ≡ line ∷ lines_of rest
  pub shorter : length rest < length t

pub lines_of-at : (t : List ℕ) (k : ℕ) → IsFirstByte (is_byte 10) t (Some k) → IsCut t (take k t) (take (length t - (k + 1)) (drop (k + 1) t))
lines_of-at t k h =
    let high : k < length t = h.0.high in
    let feed : slice_index t k ≡ 10 = let is = h.1 in grind (arith, nat_tests) in
    let one : k + 1 ≡ suc k = omega arith in
    let whole : take (length t - (k + 1)) (drop (k + 1) t) ≡ drop (k + 1) t = grind (arith, common_steps) in
    let short : length (drop (k + 1) t) < length t = grind (arith, common_steps) in
    let cut = slice_split-at 10 t k high feed (λ i less e. h.0.before i (omega arith) less (same_byte (slice_index t i) 10 e)) in
    record { lines = rw (whole, one) cut; shorter = rw whole short }

pub lines_of-one : (t : List ℕ) → IsFirstByte (is_byte 10) t None → lines_of t ≡ t ∷ []
lines_of-one t h = slice_split-without 10 t (λ i less e. h i (omega arith) less (same_byte (slice_index t i) 10 e))
