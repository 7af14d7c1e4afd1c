-- The words of present fields.
use Rattle.std.specs.Prelude.{◌≡◌, ◌≢◌, ◌≤◌, ◌<◌, ◌+◌, ◌/◌, ◌%◌, ◌==◌, ℕ, List, [], ◌∷◌, length, drop, slice_get, slice_index, nat_lt, Option, Some, None, option_map, if◌then◌else◌, refl}
use Rattle.std.proofs.Common.{arith, ap, sym, ◌∙◌, rules, tests}
use Rattle.std.specs.Borrow.{Bor}
use Rattle.std.specs.Slice.{IsItemAt}
use Rattle.std.proofs.lemmas.Option.{slice_get_past, slice_get_read}
use Rattle.std.proofs.lemmas.Bool.Decides.{nat_tests}
use Rattle.capture.specs.Radiotap.{words_len, flags_of, flags_place}

pub step : (t : List ℕ) → 4 ≤ length t → words_len t ≡ (if nat_lt (slice_index t 3) 128 then Some 4 else option_map (λ more. 4 + more) (words_len (drop 4 t)))
step [] h = absurd (omega arith)
step (a ∷ []) h = absurd (omega arith)
step (a ∷ b ∷ []) h = absurd (omega arith)
step (a ∷ b ∷ c ∷ []) h = absurd (omega arith)
step (a ∷ b ∷ c ∷ d ∷ rest) h = refl

pub short : (t : List ℕ) → length t < 4 → words_len t ≡ None
short [] h = refl
short (a ∷ []) h = refl
short (a ∷ b ∷ []) h = refl
short (a ∷ b ∷ c ∷ []) h = refl
short (a ∷ b ∷ c ∷ d ∷ rest) h = absurd (omega arith)

-- words of `count` bytes before the others
pub add_zero : (o : Option ℕ) → o ≡ option_map (λ more. 0 + more) o
add_zero None = refl
add_zero (Some n) = let same : n ≡ 0 + n = omega arith in ap Some same

add_four : (count : ℕ) (o : Option ℕ) → option_map (λ more. count + more) (option_map (λ more. 4 + more) o) ≡ option_map (λ more. count + 4 + more) o
add_four count None = refl
add_four count (Some n) = let same : count + (4 + n) ≡ count + 4 + n = omega arith in ap Some same

-- a word that is not the last
next_word : (t : List ℕ) → 4 ≤ length t → 128 ≤ slice_index t 3 → words_len t ≡ option_map (λ more. 4 + more) (words_len (drop 4 t))
next_word t long high = search (rules, tests, nat_tests, step t long)

pub next : (all : Option ℕ) (count : ℕ) (t rest : List ℕ) → all ≡ option_map (λ more. count + more) (words_len t) → 4 ≤ length t → 128 ≤ slice_index t 3
    → rest ≡ drop 4 t → all ≡ option_map (λ more. count + 4 + more) (words_len rest)
next all count t rest same long high follows =
    rw follows (same ∙ ap (option_map (λ more. count + more)) (next_word t long high) ∙ add_four count (words_len (drop 4 t)))

-- a header with flags
pub flags_of-words : (header : List ℕ) (words : ℕ) → words_len (drop 4 header) ≡ Some words → slice_index header 4 / 2 % 2 ≢ 0
    → flags_of header ≡ slice_get header (flags_place (slice_index header 4 % 2 == 1) (4 + words))
flags_of-words header words is there = rw is (search (rules, tests, nat_tests))

-- the byte that a look-up returns
pub item_copied : {A : Type 0} (bytes : List A) (place : ℕ) (r : Option (Bor A)) → IsItemAt bytes place r → option_map (λ byte. byte.now) r ≡ slice_get bytes place
item_copied bytes place None h = sym (slice_get_past bytes place h.3)
item_copied bytes place (Some byte) h = sym (slice_get_read bytes (length bytes) place byte.now refl h.3.0 h.1)
