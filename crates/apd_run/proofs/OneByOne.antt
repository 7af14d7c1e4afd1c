-- Giving out tokens one by one.
use Rattle.std.proofs.Common.{◌≡◌, List, [], ◌∷◌, ◌++◌, get_or}
use Rattle.std.specs.List.{All}
use Rattle.std.proofs.lemmas.List.Elements.{All-append, All-cons, All-nil, All-same}

-- what holds of each still holds of each
pub all_still : {X : Type 0} (P Q : X → Type 0) (xs : List X) → ((x : X) → P x → Q x) → All P xs → All Q xs
all_still P Q xs f h k d lt = f (get_or xs k d) (h k d lt)

-- and it holds of one more
pub all_and_one : {X : Type 0} (P Q : X → Type 0) (xs ys : List X) (x : X) → ((w : X) → P w → Q w) → All P xs → Q x → ys ≡ xs ++ x ∷ [] → All Q ys
all_and_one P Q xs ys x f h q is = All-same Q ys (xs ++ x ∷ []) is (All-append Q xs (x ∷ []) (all_still P Q xs f h) (All-cons Q x [] q (All-nil Q)))
