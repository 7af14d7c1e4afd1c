-- The consecutive words of a text.
use Rattle.std.specs.Prelude.{◌≡◌, ◌<◌, ◌≤◌, ◌+◌, ◌==◌, ℕ, List, [], ◌∷◌, ◌++◌, length, map, take, filter, slice_set, refl}
use Rattle.std.proofs.Common.{rules, tests, arith, sym, ◌∙◌, ap, append_assoc}
use Rattle.std.specs.List.{slice_split}
use Rattle.std.proofs.lemmas.Bool.Decides.{nat_tests}
use Rattle.std.proofs.lemmas.Grind.{common_steps}
use Rattle.std.proofs.lemmas.List.{append-nil, take_more_set, map-append, length-map, length-append}
use Rattle.std.proofs.lemmas.List.Elements.{filter-append}
use Rattle.apd_script.specs.Words.{words, is_some_text}

pub empty : (t : List ℕ) → length t ≡ 0 → words t ≡ []
empty [] e = refl
empty (c ∷ cs) e = absurd (omega (arith, e))

pub some_word : (w : List ℕ) (ws : List (List ℕ)) → 0 < length w → filter is_some_text (w ∷ []) ++ ws ≡ w ∷ ws
some_word [] ws some = absurd (omega arith)
some_word (c ∷ cs) ws some = search (rules, tests, nat_tests)

pub no_word : (w : List ℕ) (ws : List (List ℕ)) → length w ≡ 0 → filter is_some_text (w ∷ []) ++ ws ≡ ws
no_word [] ws none = refl
no_word (c ∷ cs) ws none = absurd (omega (arith, none))

-- a text cut at a space
pub words-cut : (t w rest : List ℕ) → slice_split (λ c. c == 32) t ≡ w ∷ slice_split (λ c. c == 32) rest → words t ≡ filter is_some_text (w ∷ []) ++ words rest
words-cut t w rest e = ap (filter is_some_text) e ∙ filter-append is_some_text (w ∷ []) (slice_split (λ c. c == 32) rest)

-- a text without a space
pub words-whole : (t : List ℕ) → slice_split (λ c. c == 32) t ≡ t ∷ [] → words t ≡ filter is_some_text (t ∷ []) ++ words []
words-whole t e = ap (filter is_some_text) e ∙ sym (append-nil (filter is_some_text (t ∷ [])))

-- one more word
pub map-take_more : {X Y : Type 0} (f : X → Y) (xs : List X) (k : ℕ) (x : X) (rest : List Y) → k < length xs
    → map f (take (k + 1) (slice_set xs k x)) ++ rest ≡ map f (take k xs) ++ f x ∷ rest
map-take_more f xs k x rest h =
    ap (λ t. map f t ++ rest) (take_more_set xs k x h) ∙ ap (λ t. t ++ rest) (map-append f (take k xs) (x ∷ [])) ∙ append_assoc (map f (take k xs)) (f x ∷ []) rest

-- a word after four
pub length-five : {X Y : Type 0} (f : X → Y) (xs : List X) (all : List Y) (y : Y) (rest : List Y) → length xs ≡ 4 → all ≡ map f (take 4 xs) ++ y ∷ rest → 5 ≤ length all
length-five f xs all y rest four e = grind (arith, common_steps, length-map, length-append)
