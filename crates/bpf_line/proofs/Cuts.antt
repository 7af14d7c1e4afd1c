-- How a text is cut into words.
use Rattle.std.specs.Prelude.{◌≡◌, ◌≢◌, ◌<◌, ◌≤◌, ◌+◌, ℕ, List, [], ◌∷◌, length, take, drop, Bool, true, false, ◌||◌, refl, nat_eq, slice_index, if◌then◌else◌, suc}
use Rattle.std.proofs.Common.{rules, tests, arith, ◌∙◌, ap}
use Rattle.std.specs.Str.{IsUtf8, IsCharBoundary}
use Rattle.std.specs.List.{position_or_len}
use Rattle.std.proofs.lemmas.Bool.Decides.{nat_tests}
use Rattle.std.proofs.lemmas.Str.{IsCharBoundary-after_ascii}
use Rattle.std.proofs.lemmas.List.Sums.{passes_at_first}
use Rattle.bpf_line.specs.Words.{words, ends_word, goes_on, joined, piece_len}

pub words-nil : words [] ≡ []
unfolding words
words-nil = refl

pub words-comment : (t : List ℕ) → slice_index t 0 ≡ 35 → words t ≡ []
unfolding words
words-comment [] e = refl
words-comment (c ∷ cs) e = search (rules, tests, nat_tests)

pub words-space : (t : List ℕ) → slice_index t 0 ≡ 32 → words t ≡ words (drop 1 t)
unfolding words
words-space [] e = refl
words-space (c ∷ cs) e = search (rules, tests, nat_tests)

pub words-comma : (t : List ℕ) → slice_index t 0 ≡ 44 → words t ≡ take 1 t ∷ words (drop 1 t)
unfolding words
words-comma [] e = absurd (omega (arith, e))
words-comma (c ∷ cs) e = search (rules, tests, nat_tests)

-- a character that ends no word starts one, or is prepended to the next
pub step : (c : ℕ) (cs : List ℕ) → ends_word c ≡ false → words (c ∷ cs) ≡ (if goes_on cs then joined c (words cs) else (c ∷ []) ∷ words cs)
unfolding words
step c cs e = search (rules, tests, nat_tests)

abbrev cut : List ℕ → List (List ℕ)
cut t = take (position_or_len ends_word t) t ∷ words (drop (position_or_len ends_word t) t)

at_end : (d : ℕ) (ds : List ℕ) → ends_word d ≡ true → position_or_len ends_word (d ∷ ds) ≡ 0
at_end d ds e = search (rules, tests)

further : (c : ℕ) (cs : List ℕ) → ends_word c ≡ false → position_or_len ends_word (c ∷ cs) ≡ 1 + position_or_len ends_word cs
further c cs e = search (rules, tests)

joined_at : (c : ℕ) (cs : List ℕ) (n m : ℕ) → m ≡ 1 + n → joined c (take n cs ∷ words (drop n cs)) ≡ take m (c ∷ cs) ∷ words (drop m (c ∷ cs))
joined_at c cs n m e = let up : m ≡ suc n = omega arith in rw up refl

word_by : (c d : ℕ) (ds : List ℕ) (b : Bool) → ends_word d ≡ b → ends_word c ≡ false → (ends_word d ≡ false → words (d ∷ ds) ≡ cut (d ∷ ds)) → words (c ∷ d ∷ ds) ≡ cut (c ∷ d ∷ ds)
word_by c d ds true ed e ih =
    let s = step c (d ∷ ds) e in let p = further c (d ∷ ds) e in let z = at_end d ds ed in rw (p, z, s, ed) refl
word_by c d ds false ed e ih =
    let s : words (c ∷ d ∷ ds) ≡ joined c (words (d ∷ ds)) = rw ed at (step c (d ∷ ds) e) in
    s ∙ ap (joined c) (ih ed) ∙ joined_at c (d ∷ ds) _ _ (further c (d ∷ ds) e)

-- a word is cut where it ends
pub words-word : (c : ℕ) (cs : List ℕ) → ends_word c ≡ false → words (c ∷ cs) ≡ cut (c ∷ cs)
words-word c [] e = let s = step c [] e in let p = further c [] e in rw (p, s) refl
words-word c (d ∷ ds) e = word_by c d ds (ends_word d) refl e (λ ed. words-word d ds ed)

position_by : (c : ℕ) (cs : List ℕ) (b : Bool) → ends_word c ≡ b → position_or_len ends_word cs ≤ length cs → position_or_len ends_word (c ∷ cs) ≤ length (c ∷ cs)
position_by c cs true e h = rw (at_end c cs e) (omega arith)
position_by c cs false e h = rw (further c cs e) (omega arith)

pub position_fits : (t : List ℕ) → position_or_len ends_word t ≤ length t
position_fits [] = omega arith
position_fits (c ∷ cs) = position_by c cs (ends_word c) refl (position_fits cs)

small_end : (c : ℕ) → ends_word c ≡ true → c < 128
small_end c e = grind (arith, nat_tests)

IsCharBoundary-word : (t : List ℕ) → IsCharBoundary t (position_or_len ends_word t)
IsCharBoundary-word t =
    (position_fits t, λ h big. absurd (let small = small_end (slice_index t (position_or_len ends_word t)) (passes_at_first ends_word t 0 h) in omega (arith, big, small)))

IsCharBoundary-one : (t : List ℕ) → IsUtf8 t → 0 < length t → slice_index t 0 < 128 → IsCharBoundary t 1
IsCharBoundary-one t u some small = IsCharBoundary-after_ascii t 0 u some small

pub IsCharBoundary-piece : (t : List ℕ) → IsUtf8 t → 0 < length t → IsCharBoundary t (piece_len t)
IsCharBoundary-piece t u some = piece_by (nat_eq (slice_index t 0) 32 || nat_eq (slice_index t 0) 44) refl
  where
    piece_by : (b : Bool) → (nat_eq (slice_index t 0) 32 || nat_eq (slice_index t 0) 44) ≡ b → IsCharBoundary t (if b then 1 else position_or_len ends_word t)
    piece_by true e = IsCharBoundary-one t u some (grind (arith, nat_tests))
    piece_by false e = IsCharBoundary-word t

pub words-empty : (t : List ℕ) → length t ≡ 0 → words t ≡ []
unfolding words
words-empty [] e = refl
words-empty (c ∷ cs) e = absurd (omega (arith, e))

-- if the first piece isn't a space, it is a word or a comma
pub words-piece : (t : List ℕ) → 0 < length t → slice_index t 0 ≢ 35 → slice_index t 0 ≢ 32 → words t ≡ take (piece_len t) t ∷ words (drop (piece_len t) t)
words-piece [] some no_comment no_space = absurd (omega arith)
words-piece (c ∷ cs) some no_comment no_space = piece_by (nat_eq c 44) refl
  where
    piece_by : (b : Bool) → nat_eq c 44 ≡ b → words (c ∷ cs) ≡ take (piece_len (c ∷ cs)) (c ∷ cs) ∷ words (drop (piece_len (c ∷ cs)) (c ∷ cs))
    piece_by true e = search (rules, tests, nat_tests, words-comma (c ∷ cs))
    piece_by false e = search (rules, tests, nat_tests, words-word c cs)

pub piece_len_space : (t : List ℕ) → slice_index t 0 ≡ 32 → piece_len t ≡ 1
piece_len_space t e = search (rules, tests, nat_tests)

-- no piece is empty
pub piece_len_some : (t : List ℕ) → 0 < length t → slice_index t 0 ≢ 35 → 0 < piece_len t
piece_len_some [] some no_comment = absurd (omega arith)
piece_len_some (c ∷ cs) some no_comment = some_by (ends_word c) refl
  where
    some_by : (b : Bool) → ends_word c ≡ b → 0 < piece_len (c ∷ cs)
    some_by true e = grind (arith, nat_tests)
    some_by false e = let p = further c cs e in grind (arith, nat_tests)
