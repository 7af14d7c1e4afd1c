-- Reading a script line by line.
use Rattle.std.specs.Prelude.{◌≡◌, ◌<◌, ◌+◌, ℕ, List, [], ◌∷◌, ◌++◌, length, take, drop, Option, Some, None, slice_get, refl, suc, zero}
use Rattle.std.proofs.Common.{arith, sym, ◌∙◌, ap, Bor}
use Rattle.std.specs.List.{All}
use Rattle.std.proofs.lemmas.List.{append-nil, take-append-drop, length-take-le}
use Rattle.std.proofs.lemmas.List.Elements.{All-nil, All-push}
use Rattle.bpf_regions.specs.declared.maps.Shape.{Shape}
use Rattle.apd_script.specs.Asked.{Asked}
use Rattle.apd_script.specs.Lines.{line_asks, IsWellFormed}
use Rattle.apd_script.specs.Script.{lines_of, numbered, asked_from, Cuts, IsScript, IsMalformedAfter}

-- the element at an index, and what precedes and follows it
pub record IsNext {X : Type 0} (all : List X) (k : ℕ) (x : X) (rest : List X) : Type 0 where
  pub there : slice_get all k ≡ Some x
  pub after : drop (suc k) all ≡ rest
  pub before : take (suc k) all ≡ take k all ++ x ∷ []
  pub within : k < length all

pub next_of : {X : Type 0} (all : List X) (k : ℕ) (x : X) (rest : List X) → drop k all ≡ x ∷ rest → IsNext all k x rest
next_of [] zero x rest e = absurd cc
next_of [] (suc k) x rest e = absurd cc
next_of (y ∷ ys) zero x rest e = record { there = cc; after = cc; before = cc; within = omega arith }
next_of (y ∷ ys) (suc k) x rest e =
    let h = next_of ys k x rest e in
    let less = h.within in
    record { there = h.there; after = h.after; before = ap (λ t. y ∷ t) h.before; within = omega (arith, less) }

numbered-append : (number : ℕ) (o : Option Asked) (xs ys : List (ℕ × Asked)) → numbered number o (xs ++ ys) ≡ numbered number o xs ++ ys
numbered-append number None xs ys = refl
numbered-append number (Some a) xs ys = refl

-- one more line
asked_from-push : (maps : List Shape) (number : ℕ) (lines : List (List ℕ)) (line : List ℕ)
    → asked_from maps number (lines ++ line ∷ []) ≡ asked_from maps number lines ++ numbered (number + length lines) (line_asks maps line) []
asked_from-push maps number [] line = let same : number + 0 ≡ number = omega arith in rw same refl
asked_from-push maps number (l ∷ lines) line =
    let same : number + 1 + length lines ≡ number + suc (length lines) = omega arith in
    ap (numbered number (line_asks maps l)) (asked_from-push maps (number + 1) lines line ∙ ap (λ n. asked_from maps (number + 1) lines ++ numbered n (line_asks maps line) []) same)
    ∙ numbered-append number (line_asks maps l) (asked_from maps (number + 1) lines) (numbered (number + suc (length lines)) (line_asks maps line) [])

-- `before` lines are read, their commands are known, and the others follow
pub record IsReadTo (maps : List Shape) (lines : List (List ℕ)) (before : ℕ) (rest : List (List ℕ)) (asked : List (ℕ × Asked)) : Type 0 where
  pub follows : drop before lines ≡ rest
  pub well_formed : All (IsWellFormed maps) (take before lines)
  pub asks : asked ≡ asked_from maps 1 (take before lines)

pub IsReadTo-start : (maps : List Shape) (lines : List (List ℕ)) → IsReadTo maps lines 0 lines []
IsReadTo-start maps lines = record { follows = refl; well_formed = All-nil (IsWellFormed maps); asks = refl }

pub IsReadTo-more : (maps : List Shape) (lines : List (List ℕ)) (before : ℕ) (line : List ℕ) (rest : List (List ℕ)) (asked more : List (ℕ × Asked))
    → IsReadTo maps lines before (line ∷ rest) asked → IsWellFormed maps line → more ≡ asked ++ numbered (before + 1) (line_asks maps line) [] → IsReadTo maps lines (before + 1) rest more
IsReadTo-more maps lines before line rest asked more h well grown =
    let next = next_of lines before line rest h.follows in
    let one : before + 1 ≡ suc before = omega arith in
    let within = next.within in
    let count : length (take before lines) ≡ before = length-take-le before lines (omega (arith, within)) in
    let place : 1 + length (take before lines) ≡ before + 1 = omega (arith, count) in
    let step = asked_from-push maps 1 (take before lines) line in
    record {
      follows = rw one next.after;
      well_formed = rw (one, next.before) (All-push (IsWellFormed maps) (take before lines) line h.well_formed well);
      asks = rw (one, next.before) (grown ∙ ap (λ a. a ++ numbered (before + 1) (line_asks maps line) []) h.asks ∙ sym (rw place at step));
    }

drop_none : {X : Type 0} (k : ℕ) (xs : List X) → drop k xs ≡ [] → take k xs ≡ xs
drop_none k xs e = sym (append-nil (take k xs)) ∙ ap (λ t. take k xs ++ t) (sym e) ∙ take-append-drop k xs

pub IsScript-read : (maps : List Shape) (text : List ℕ) (before : ℕ) (asked : List (ℕ × Asked)) → IsReadTo maps (lines_of text) before [] asked → IsScript maps text asked
IsScript-read maps text before asked h =
    let all = drop_none before (lines_of text) h.follows in
    record { well_formed = rw all at h.well_formed; asked = rw all at h.asks }

pub IsMalformedAfter-read : (maps : List Shape) (text : List ℕ) (before : ℕ) (line : List ℕ) (rest : List (List ℕ)) (asked : List (ℕ × Asked))
    → IsReadTo maps (lines_of text) before (line ∷ rest) asked → (IsWellFormed maps line → ⊥) → IsMalformedAfter maps text before
IsMalformedAfter-read maps text before line rest asked h bad =
    let next = next_of (lines_of text) before line rest h.follows in
    record { well_formed = h.well_formed; line = line; there = next.there; malformed = bad }

pub before_within : (maps : List Shape) (lines : List (List ℕ)) (before : ℕ) (line : List ℕ) (rest : List (List ℕ)) (asked : List (ℕ × Asked))
    → IsReadTo maps lines before (line ∷ rest) asked → before < length lines
before_within maps lines before line rest asked h = (next_of lines before line rest h.follows).within

-- the first line of a text, whether another follows or not
pub first_of : (t line : List ℕ) (next : Option (Bor (List ℕ)))
    → Cuts t line next → (more : List (List ℕ)) × (lines_of t ≡ line ∷ more)
first_of t line None h = ([], h)
first_of t line (Some rest) h = (lines_of rest.now, h.0)
