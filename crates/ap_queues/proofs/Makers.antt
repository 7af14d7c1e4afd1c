-- How many operators the makers of all queues have made.
use Rattle.std.proofs.Common.{◌≡◌, ◌≢◌, ◌<◌, ◌≤◌, ◌+◌, ℕ, List, [], ◌∷◌, ◌++◌, length, slice_get, slice_set, get_or, Some, sym, ap, ◌∙◌, subst, arith}
use mathlib.Core.Logic.{dite}
use native.Mathlib.Decide.{ℕ_discrete}
use Rattle.ap_queues.specs.declared.queue.PassMaker.{PassMaker}
use Rattle.ap_rows.proofs.Standing.{beside, earlier, found, last_is, one_value, put_there}

-- each of these has made n
abbrev pub Made : ℕ → List PassMaker → Type 0
Made n ms = (at : ℕ) (m : PassMaker) → slice_get ms at ≡ Some m → m.made ≡ n

-- each before k has made n
abbrev pub MadeBefore : ℕ → ℕ → List PassMaker → Type 0
MadeBefore k n ms = (at : ℕ) (m : PassMaker) → at < k → slice_get ms at ≡ Some m → m.made ≡ n

-- each from k on has made n
abbrev pub MadeFrom : ℕ → ℕ → List PassMaker → Type 0
MadeFrom k n ms = (at : ℕ) (m : PassMaker) → k ≤ at → slice_get ms at ≡ Some m → m.made ≡ n

-- the element that was put
put_is : (ms : List PassMaker) (k at : ℕ) (m x : PassMaker) → k < length ms → at ≡ k → slice_get (slice_set ms k m) at ≡ Some x → m ≡ x
put_is ms k at m x low is there =
    one_value (slice_set ms k m) k m x (put_there ms k m low) (subst (λ (j : ℕ). slice_get (slice_set ms k m) j ≡ Some x) is there)

-- one more
pub made_push : (n : ℕ) (ms ms' : List PassMaker) (m : PassMaker) → ms' ≡ ms ++ m ∷ [] → m.made ≡ n → Made n ms → Made n ms'
made_push n ms ms' m are is all at x there' =
    let there : slice_get (ms ++ m ∷ []) at ≡ Some x = subst (λ (l : List PassMaker). slice_get l at ≡ Some x) are there' in
    dite (ℕ_discrete at (length ms)) (λ e. ap (λ (y : PassMaker). y.made) (sym (last_is ms m at x e there)) ∙ is) (λ ne. all at x (earlier ms m at x ne there))

-- one is replaced by one that has made as many
pub made_set : (n : ℕ) (ms : List PassMaker) (k : ℕ) (m : PassMaker) → k < length ms → m.made ≡ n → Made n ms → Made n (slice_set ms k m)
made_set n ms k m low is all at x there =
    dite (ℕ_discrete at k) (λ e. ap (λ (y : PassMaker). y.made) (sym (put_is ms k at m x low e there)) ∙ is) (λ ne. all at x (beside ms k at m x ne there))

-- the maker at k makes one more
pub made_before : (n : ℕ) (ms : List PassMaker) (k : ℕ) (m m' : PassMaker) → k < length ms → m ≡ get_or ms k m → m'.made ≡ m.made + 1 → MadeFrom k n ms → MadeBefore k (n + 1) ms
    → MadeBefore (k + 1) (n + 1) (slice_set ms k m')
made_before n ms k m m' low here more from before at x below there =
    let was : m.made ≡ n = from k m (omega arith) (found ms k m low here) in
    let is : m'.made ≡ n + 1 = more ∙ ap (λ (a : ℕ). a + 1) was in
    dite (ℕ_discrete at k) (λ e. ap (λ (y : PassMaker). y.made) (sym (put_is ms k at m' x low e there)) ∙ is)
    (λ ne. before at x (omega (arith, ne)) (beside ms k at m' x ne there))

pub made_from : (n : ℕ) (ms : List PassMaker) (k : ℕ) (m : PassMaker) → MadeFrom k n ms → MadeFrom (k + 1) n (slice_set ms k m)
made_from n ms k m from at x past there =
    let ne : at ≢ k = λ e. absurd (omega (arith, e)) in
    from at x (omega arith) (beside ms k at m x ne there)
