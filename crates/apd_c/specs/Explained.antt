-- What the numbers that calls return mean, in a few words.
use Rattle.std.specs.Prelude.{◌≡◌, ◌⊎◌, ◌==◌, if◌then◌else◌, ℕ, List, [], ◌∷◌, length, min, take, codes}

-- each number and its text
abbrev pub sentences : List (ℕ × List ℕ)
sentences =
    (1, codes "the code is cut within a slot") ∷
    (2, codes "there is no code") ∷
    (3, codes "the code is too long") ∷
    (10, codes "no such operation") ∷
    (11, codes "no such register") ∷
    (12, codes "a field that is not used is not zero") ∷
    (13, codes "a field has a value that means nothing") ∷
    (14, codes "a wide instruction is not whole") ∷
    (15, codes "a jump leads astray") ∷
    (16, codes "the code can be left at its end") ∷
    (17, codes "r10 is written") ∷
    (18, codes "no such helper") ∷
    (19, codes "no such map, or no such byte in it") ∷
    (30, codes "something unset is read") ∷
    (31, codes "the operation does not take such a value") ∷
    (32, codes "an access may leave its region") ∷
    (33, codes "the access has another width, or is not aligned") ∷
    (34, codes "a lookup was not tested") ∷
    (35, codes "calls go too deep") ∷
    (36, codes "the verifier gives up") ∷
    (37, codes "a pointer to the stack is stored elsewhere") ∷
    (38, codes "the verdict is no number") ∷
    (40, codes "memory ran out") ∷
    (50, codes "the frame is too short") ∷
    (51, codes "the frame has another version") ∷
    (52, codes "the frame is of a kind that is not handled") ∷
    (53, codes "a field of the frame has a value that is reserved or not handled") ∷
    (54, codes "an element is cut") ∷
    (55, codes "the frame has the wrong length") ∷
    (56, codes "the frame is not for this access point") ∷
    (62, codes "all are given out") ∷
    (63, codes "the station is unknown") ∷
    (70, codes "the certificate is malformed") ∷
    (71, codes "the certificate is of another program") ∷
    (72, codes "the certificate does not show that the program is safe") ∷
    (90, codes "an argument is out of its limits") ∷
    (91, codes "a handle holds nothing, or another value than the call asks for") ∷
    (92, codes "the handle that is to be filled is not empty") ∷
    (93, codes "the program is for maps of other shapes") ∷
    (94, codes "a pointer is NULL, or one handle is passed twice") ∷
    (95, codes "the program is for another hook") ∷
    []

-- the text of a number; empty if the number isn't listed
abbrev pub text_beside : ℕ → List (ℕ × List ℕ) → List ℕ
text_beside number [] = []
text_beside number (row ∷ more) = if number == row.0 then row.1 else text_beside number more

-- what a number means
abbrev pub sentence_of : ℕ → List ℕ
sentence_of number = text_beside number sentences

-- what a number means, or an empty text
abbrev pub IsSentence : ℕ → List ℕ → Type 0
IsSentence number text = (text ≡ []) ⊎ (text ≡ sentence_of number)

-- As much as fits of what a number means is copied, and its length is returned.
pub record Explains (number count : ℕ) (into into' : List ℕ) : Type 0 where
  pub text : List ℕ
  pub is : IsSentence number text
  pub length_is : count ≡ length text
  pub copied : take (min count (length into)) into' ≡ take (min count (length into)) text

-- As much as fits of a text is copied, and its length is returned.
pub record CopiesText (count : ℕ) (into into' : List ℕ) : Type 0 where
  pub text : List ℕ
  pub length_is : count ≡ length text
  pub copied : take (min count (length into)) into' ≡ take (min count (length into)) text
