-- Words kept in order.
use Rattle.std.specs.Prelude.{◌≡◌, ◌<◌, ◌≤◌, ◌+◌, ℕ, List, [], ◌∷◌, ◌++◌, length, take, map, slice_set}
use Rattle.std.proofs.Common.{arith, ◌∙◌, ap, append_assoc}
use Rattle.std.proofs.lemmas.List.{take_more_set, map-append, length-map, length-append}
use Rattle.std.proofs.lemmas.Grind.{common_steps}

pub map-take_more : {X Y : Type 0} (f : X → Y) (xs : List X) (k : ℕ) (x : X) (rest : List Y) → k < length xs
    → map f (take (k + 1) (slice_set xs k x)) ++ rest ≡ map f (take k xs) ++ f x ∷ rest
map-take_more f xs k x rest h =
    ap (λ t. map f t ++ rest) (take_more_set xs k x h) ∙ ap (λ t. t ++ rest) (map-append f (take k xs) (x ∷ [])) ∙ append_assoc (map f (take k xs)) (f x ∷ []) rest

pub length-seven : {X Y : Type 0} (f : X → Y) (xs : List X) (all : List Y) (y : Y) (rest : List Y) → length xs ≡ 6 → all ≡ map f (take 6 xs) ++ y ∷ rest → 7 ≤ length all
length-seven f xs all y rest six e = grind (arith, common_steps, length-map, length-append)
