-- Lists that are written row by row.
use Rattle.std.proofs.Common.{◌≡◌, ℕ, suc, ◌+◌, ◌<◌, List, ◌++◌, length, drop, get_or, sym, ap, ◌∙◌, append_assoc, drop-cons, add-one}
use Rattle.std.specs.List.{flat_map}

-- one more row
pub row_more : {A : Type 0} (f : A → List ℕ) (rows : List A) (i : ℕ) (row : A) (old new all : List ℕ) → i < length rows → row ≡ get_or rows i row
    → old ++ flat_map f (drop i rows) ≡ all → new ≡ old ++ f row → new ++ flat_map f (drop (i + 1) rows) ≡ all
row_more f rows i row old new all within is before written =
    let rest = flat_map f (drop (i + 1) rows) in
    let next : flat_map f (drop i rows) ≡ f row ++ rest =
    ap (flat_map f) (drop-cons rows i row within) ∙ ap (λ x. f x ++ flat_map f (drop (suc i) rows)) (sym is)
    ∙ ap (λ k. f row ++ flat_map f (drop k rows)) (sym (add-one i)) in
    ap (λ l. l ++ rest) written ∙ append_assoc old (f row) rest ∙ ap (λ l. old ++ l) (sym next) ∙ before

-- rows, and what is written behind them
pub listed : (old first all rows end : List ℕ) → first ≡ old ++ rows → all ≡ first ++ end → all ≡ old ++ (rows ++ end)
listed old first all rows end written behind = behind ∙ ap (λ l. l ++ end) written ∙ append_assoc old rows end

-- the same behind a head
pub listed_behind : (old first second all head rows end : List ℕ) → first ≡ old ++ head → second ≡ first ++ rows → all ≡ second ++ end
    → all ≡ old ++ (head ++ (rows ++ end))
listed_behind old first second all head rows end before written behind =
    listed first second all rows end written behind ∙ ap (λ l. l ++ (rows ++ end)) before ∙ append_assoc old head (rows ++ end)
