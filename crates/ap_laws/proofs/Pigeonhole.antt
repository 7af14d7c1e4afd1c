-- The pigeonhole principle.
use Rattle.std.proofs.Common.{◌≡◌, ◌≢◌, ℕ, zero, suc, ◌+◌, ◌<◌, ◌⊎◌, inl, inr, ⊎_elim, refl, sym, ◌∙◌, subst, arith}
use Rattle.std.proofs.lemmas.Bool.{cases_lt, cases_eq}

-- f is injective below n
abbrev pub KeepsApart : ℕ → (ℕ → ℕ) → Type 0
KeepsApart n f = (i j : ℕ) → i < n → j < n → f i ≡ f j → i ≡ j

-- `from` becomes `to`; other numbers stay
redirect : ℕ → ℕ → ℕ → ℕ
redirect from to x = ⊎_elim (λ e. to) (λ ne. x) (cases_eq x from)

redirect_cases : (from to x : ℕ) → ((x ≡ from) × (redirect from to x ≡ to)) ⊎ ((x ≢ from) × (redirect from to x ≡ x))
unfolding redirect
redirect_cases from to x = by_cases (cases_eq x from)
  where
    by_cases : (d : (x ≡ from) ⊎ (x ≢ from)) → ((x ≡ from) × (⊎_elim (λ e. to) (λ ne. x) d ≡ to)) ⊎ ((x ≢ from) × (⊎_elim (λ e. to) (λ ne. x) d ≡ x))
    by_cases (inl e) = inl (e, refl)
    by_cases (inr ne) = inr (ne, refl)

-- no injection of n + 1 numbers into n
too_few : (n : ℕ) (f : ℕ → ℕ) → ((i : ℕ) → i < n + 1 → f i < n) → KeepsApart (n + 1) f → ⊥
too_few zero f below apart = let lt : f 0 < 0 = below 0 (omega arith) in absurd (omega arith)
too_few (suc n) f below apart =
    let g : ℕ → ℕ = λ i. redirect n (f (n + 1)) (f i) in
    let g_below : (i : ℕ) → i < n + 1 → g i < n =
    λ i lt.
    ⊎_elim
    (λ hit.
    let far : f (n + 1) < suc n = below (n + 1) (omega arith) in
    let other : f (n + 1) ≢ n = λ e. let same : i ≡ n + 1 = apart i (n + 1) (omega arith) (omega arith) (hit.0 ∙ sym e) in absurd (omega arith) in
    let is : g i ≡ f (n + 1) = hit.1 in
    omega arith)
    (λ miss.
    let far : f i < suc n = below i (omega arith) in
    let other : f i ≢ n = miss.0 in
    let is : g i ≡ f i = miss.1 in
    omega arith)
    (redirect_cases n (f (n + 1)) (f i)) in
    let g_apart : KeepsApart (n + 1) g =
    λ i j lt lt2 same.
    ⊎_elim
    (λ hit.
    ⊎_elim
    (λ hit2. apart i j (omega arith) (omega arith) (hit.0 ∙ sym hit2.0))
    (λ miss2. let e : j ≡ n + 1 = apart j (n + 1) (omega arith) (omega arith) (sym miss2.1 ∙ sym same ∙ hit.1) in absurd (omega arith))
    (redirect_cases n (f (n + 1)) (f j)))
    (λ miss.
    ⊎_elim
    (λ hit2. let e : i ≡ n + 1 = apart i (n + 1) (omega arith) (omega arith) (sym miss.1 ∙ same ∙ hit2.1) in absurd (omega arith))
    (λ miss2. apart i j (omega arith) (omega arith) (sym miss.1 ∙ same ∙ miss2.1))
    (redirect_cases n (f (n + 1)) (f j)))
    (redirect_cases n (f (n + 1)) (f i)) in
    too_few n g g_below g_apart

-- an injection of n + 1 numbers into themselves misses none
pub misses_none : (n : ℕ) (f : ℕ → ℕ) (m : ℕ) → m < n + 1 → ((i : ℕ) → i < n + 1 → f i < n + 1) → KeepsApart (n + 1) f → ((i : ℕ) → i < n + 1 → f i ≢ m) → ⊥
misses_none n f m fits below apart missed =
    let g : ℕ → ℕ = λ i. redirect n m (f i) in
    too_few n g
    (λ i lt.
    ⊎_elim
    (λ hit. let other : f i ≢ m = missed i lt in let at = hit.0 in let is : g i ≡ m = hit.1 in omega arith)
    (λ miss. let far = below i lt in let other : f i ≢ n = miss.0 in let is : g i ≡ f i = miss.1 in omega arith)
    (redirect_cases n m (f i)))
    (λ i j lt lt2 same.
    ⊎_elim
    (λ hit.
    ⊎_elim
    (λ hit2. apart i j lt lt2 (hit.0 ∙ sym hit2.0))
    (λ miss2. absurd (missed j lt2 (sym miss2.1 ∙ sym same ∙ hit.1)))
    (redirect_cases n m (f j)))
    (λ miss.
    ⊎_elim
    (λ hit2. absurd (missed i lt (sym miss.1 ∙ same ∙ hit2.1)))
    (λ miss2. apart i j lt lt2 (sym miss.1 ∙ same ∙ miss2.1))
    (redirect_cases n m (f j)))
    (redirect_cases n m (f i)))

-- if P can't fail at any number below n, it can't fail to hold at all of them
pub all_at_once : (P : ℕ → Type 0) (n : ℕ) → ((m : ℕ) → m < n → (P m → ⊥) → ⊥) → (((m : ℕ) → m < n → P m) → ⊥) → ⊥
all_at_once P zero each fails = fails (λ m lt. absurd (omega arith))
all_at_once P (suc n) each fails =
    all_at_once P n (λ m lt. each m (omega arith)) (λ below.
    each n (omega arith) (λ here.
    fails (λ m lt. ⊎_elim (λ less. below m less) (λ from. let e : n ≡ m = omega arith in subst P e here) (cases_lt m n))))
