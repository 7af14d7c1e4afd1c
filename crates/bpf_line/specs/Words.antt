-- The words of a line: spaces separate them, a comma is a word of its own, and `#` starts a comment.
use Rattle.std.specs.Prelude.{ℕ, List, [], ◌∷◌, nat_eq, Bool, true, false, ◌||◌, if◌then◌else◌, codes, slice_index}
use Rattle.std.specs.List.{position_or_len}

-- a word ends before a space, a comma or a comment
abbrev pub ends_word : ℕ → Bool
ends_word c = nat_eq c 32 || (nat_eq c 44 || nat_eq c 35)

-- the next character belongs to the same word
abbrev pub goes_on : List ℕ → Bool
goes_on [] = false
goes_on (c ∷ cs) = (if ends_word c then false else true)

-- prepends a character to the first word
abbrev pub joined : ℕ → List (List ℕ) → List (List ℕ)
joined c [] = (c ∷ []) ∷ []
joined c (w ∷ ws) = (c ∷ w) ∷ ws

-- the words of a line, in order
unfoldable pub words : List ℕ → List (List ℕ)
words [] = []
words (c ∷ cs) =
    (if nat_eq c 35 then [] else
    (if nat_eq c 32 then words cs else
    (if nat_eq c 44 then codes "," ∷ words cs else
    (if goes_on cs then joined c (words cs) else (c ∷ []) ∷ words cs))))

-- the length of the first piece of a text: a space, a comma or a word
abbrev pub piece_len : List ℕ → ℕ
piece_len t =
    (if nat_eq (slice_index t 0) 32 || nat_eq (slice_index t 0) 44 then 1
    else position_or_len ends_word t)
