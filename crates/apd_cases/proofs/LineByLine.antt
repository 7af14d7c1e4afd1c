-- Reading a file of cases line by line.
use Rattle.std.specs.Prelude.{◌≡◌, ◌<◌, ◌+◌, ℕ, List, [], ◌∷◌, ◌++◌, length, take, drop, Option, Some, None, slice_get, refl, suc, zero}
use Rattle.std.proofs.Common.{arith, sym, ◌∙◌, ap, Bor}
use Rattle.std.specs.List.{All}
use Rattle.std.proofs.lemmas.List.{append-nil, take-append-drop, length-take-le}
use Rattle.std.proofs.lemmas.List.Elements.{All-nil, All-push}
use Rattle.apd_cases.specs.Said.{Said}
use Rattle.apd_cases.specs.Grammar.{line_says, IsWellFormed}
use Rattle.apd_script.specs.Script.{lines_of, Cuts}
use Rattle.apd_cases.specs.Cases.{numbered, said_from, AreCases, IsMalformedAfter, Spoils, SpoilsAt}
use Rattle.apd_cases.specs.declared.cases.Unread.{Unread}
use Rattle.apd_cases.specs.declared.cases.Unread.TheVariants.{Malformed, NoMemory}

-- the element at an index, and what precedes and follows it
record IsNext {X : Type 0} (all : List X) (k : ℕ) (x : X) (rest : List X) : Type 0 where
  pub there : slice_get all k ≡ Some x
  pub after : drop (suc k) all ≡ rest
  pub before : take (suc k) all ≡ take k all ++ x ∷ []
  pub within : k < length all

next_of : {X : Type 0} (all : List X) (k : ℕ) (x : X) (rest : List X) → drop k all ≡ x ∷ rest → IsNext all k x rest
next_of [] zero x rest e = absurd cc
next_of [] (suc k) x rest e = absurd cc
next_of (y ∷ ys) zero x rest e = record { there = cc; after = cc; before = cc; within = omega arith }
next_of (y ∷ ys) (suc k) x rest e =
    let h = next_of ys k x rest e in
    let less = h.within in
    record { there = h.there; after = h.after; before = ap (λ t. y ∷ t) h.before; within = omega (arith, less) }

numbered-append : (number : ℕ) (o : Option Said) (xs ys : List (ℕ × Said)) → numbered number o (xs ++ ys) ≡ numbered number o xs ++ ys
numbered-append number None xs ys = refl
numbered-append number (Some a) xs ys = refl

-- one more line
said_from-push : (number : ℕ) (lines : List (List ℕ)) (line : List ℕ)
    → said_from number (lines ++ line ∷ []) ≡ said_from number lines ++ numbered (number + length lines) (line_says line) []
said_from-push number [] line = let same : number + 0 ≡ number = omega arith in rw same refl
said_from-push number (l ∷ lines) line =
    let same : number + 1 + length lines ≡ number + suc (length lines) = omega arith in
    ap (numbered number (line_says l)) (said_from-push (number + 1) lines line ∙ ap (λ n. said_from (number + 1) lines ++ numbered n (line_says line) []) same)
    ∙ numbered-append number (line_says l) (said_from (number + 1) lines) (numbered (number + suc (length lines)) (line_says line) [])

-- `before` lines are read, what they say is known, and the others follow
pub record IsReadTo (lines : List (List ℕ)) (before : ℕ) (rest : List (List ℕ)) (said : List (ℕ × Said)) : Type 0 where
  pub follows : drop before lines ≡ rest
  pub well_formed : All IsWellFormed (take before lines)
  pub asks : said ≡ said_from 1 (take before lines)

pub IsReadTo-start : (lines : List (List ℕ)) → IsReadTo lines 0 lines []
IsReadTo-start lines = record { follows = refl; well_formed = All-nil IsWellFormed; asks = refl }

pub IsReadTo-more : (lines : List (List ℕ)) (before : ℕ) (line : List ℕ) (rest : List (List ℕ)) (said more : List (ℕ × Said))
    → IsReadTo lines before (line ∷ rest) said → IsWellFormed line → more ≡ said ++ numbered (before + 1) (line_says line) [] → IsReadTo lines (before + 1) rest more
IsReadTo-more lines before line rest said more h well grown =
    let next = next_of lines before line rest h.follows in
    let one : before + 1 ≡ suc before = omega arith in
    let within = next.within in
    let count : length (take before lines) ≡ before = length-take-le before lines (omega (arith, within)) in
    let place : 1 + length (take before lines) ≡ before + 1 = omega (arith, count) in
    let step = said_from-push 1 (take before lines) line in
    record {
      follows = rw one next.after;
      well_formed = rw (one, next.before) (All-push IsWellFormed (take before lines) line h.well_formed well);
      asks = rw (one, next.before) (grown ∙ ap (λ a. a ++ numbered (before + 1) (line_says line) []) h.asks ∙ sym (rw place at step));
    }

drop_none : {X : Type 0} (k : ℕ) (xs : List X) → drop k xs ≡ [] → take k xs ≡ xs
drop_none k xs e = sym (append-nil (take k xs)) ∙ ap (λ t. take k xs ++ t) (sym e) ∙ take-append-drop k xs

pub AreCases-read : (text : List ℕ) (before : ℕ) (said : List (ℕ × Said)) → IsReadTo (lines_of text) before [] said → AreCases text said
AreCases-read text before said h =
    let all = drop_none before (lines_of text) h.follows in
    record { well_formed = rw all at h.well_formed; said_is = rw all at h.asks }

pub IsMalformedAfter-read : (text : List ℕ) (before : ℕ) (line : List ℕ) (rest : List (List ℕ)) (said : List (ℕ × Said))
    → IsReadTo (lines_of text) before (line ∷ rest) said → (IsWellFormed line → ⊥) → IsMalformedAfter text before
IsMalformedAfter-read text before line rest said h bad =
    let next = next_of (lines_of text) before line rest h.follows in
    record { well_formed = h.well_formed; line = line; there = next.there; malformed = bad }

-- the fault of a line is that of the text
pub Spoils-read : (text : List ℕ) (before : ℕ) (line : List ℕ) (rest : List (List ℕ)) (said : List (ℕ × Said))
    → IsReadTo (lines_of text) before (line ∷ rest) said → (e : Unread) → SpoilsAt (before + 1) line e → Spoils text e
Spoils-read text before line rest said h (Malformed at) bad = (before, bad.0, IsMalformedAfter-read text before line rest said h bad.1)
Spoils-read text before line rest said h NoMemory bad = tt

-- the first line of a text, whether another follows or not
pub first_of : (t line : List ℕ) (next : Option (Bor (List ℕ)))
    → Cuts t line next → (more : List (List ℕ)) × (lines_of t ≡ line ∷ more)
first_of t line None h = ([], h)
first_of t line (Some rest) h = (lines_of rest.now, h.0)
