-- The search from the newest entry backwards.
use Rattle.std.proofs.Common.{◌≡◌, ℕ, zero, suc, ◌+◌, ◌-◌, ◌<◌, ◌≤◌, List, [], ◌∷◌, ◌++◌, length, take, get_or, true, false, Option, Some, None, refl, ap, arith, sym, subst, ◌∙◌, cond, take-suc}
use Rattle.std.specs.Prelude.{if◌then◌else◌}
use Rattle.bpf_absstate.specs.View.{View}
use Rattle.bpf_absstate.specs.Inclusion.{state_included}
use Rattle.bpf_prune.specs.declared.kept.Entry.{Entry}
use Rattle.bpf_prune.specs.Covering.{newest_covering, or_else}
use Rattle.bpf_prune.specs.Spending.{comparisons}

or_else-assoc : (a b c : Option ℕ) → or_else (or_else a b) c ≡ or_else a (or_else b c)
or_else-assoc (Some x) b c = refl
or_else-assoc None b c = refl

or_else-none : (a : Option ℕ) → or_else a None ≡ a
or_else-none (Some x) = refl
or_else-none None = refl

abbrev alone : Entry → View → Option ℕ
alone e s = if state_included s e.state then Some e.budget else None

newest_last : (es : List Entry) (e : Entry) (s : View) → newest_covering (es ++ e ∷ []) s ≡ or_else (alone e s) (newest_covering es s)
unfolding newest_covering
newest_last [] e s = sym (or_else-none (alone e s))
newest_last (x ∷ es) e s = ap (λ t. or_else t (alone x s)) (newest_last es e s) ∙ or_else-assoc (alone e s) (newest_covering es s) (alone x s)

before : (k : ℕ) → suc k - 1 ≡ k
before k = omega arith

one_more : (es : List Entry) (k : ℕ) (s : View) (d : Entry) → 0 < k → k ≤ length es → newest_covering (take k es) s ≡ or_else (alone (get_or es (k - 1) d) s) (newest_covering (take (k - 1) es) s)
one_more es zero s d h within = absurd (omega (arith, h))
one_more es (suc k) s d h within =
    rw (take-suc es k d (omega (arith, within))) (newest_last (take k es) (get_or es k d) s ∙ ap (λ n. or_else (alone (get_or es n d) s) (newest_covering (take n es) s)) (sym (before k)))

-- the entry before index k includes s
pub found : (es : List Entry) (k : ℕ) (s : View) (d e : Entry) → 0 < k → k ≤ length es → e ≡ get_or es (k - 1) d → state_included s e.state ≡ true → newest_covering es s ≡ newest_covering (take k es) s → Some e.budget ≡ newest_covering es s
found es k s d e h within is so so_far =
    sym (so_far ∙ one_more es k s d h within ∙ rw (← is) (ap (λ t. or_else (cond t (Some e.budget) None) (newest_covering (take (k - 1) es) s)) so))

-- it doesn't, and the search continues below it
pub passed : (es : List Entry) (k : ℕ) (s : View) (d e : Entry) → 0 < k → k ≤ length es → e ≡ get_or es (k - 1) d → state_included s e.state ≡ false → newest_covering es s ≡ newest_covering (take k es) s → newest_covering es s ≡ newest_covering (take (k - 1) es) s
passed es k s d e h within is differs so_far =
    so_far ∙ one_more es k s d h within ∙ rw (← is) (ap (λ t. or_else (cond t (Some e.budget) None) (newest_covering (take (k - 1) es) s)) differs)

pub none_left : (es : List Entry) (k : ℕ) (s : View) → k ≤ 0 → newest_covering es s ≡ newest_covering (take k es) s → None ≡ newest_covering es s
unfolding newest_covering
none_left es zero s h so_far = sym so_far
none_left es (suc k) s h so_far = absurd (omega (arith, h))

-- a state is compared with the newest entry, and with others only if that one doesn't include it
last_found : (es : List Entry) (e : Entry) (s : View) → state_included s e.state ≡ true → comparisons (es ++ e ∷ []) s ≡ 1
unfolding newest_covering comparisons
last_found [] e s so = refl
last_found (x ∷ es) e s so = rw (newest_last es e s) (rw so (rw (last_found es e s so) refl))

later : (a b : ℕ) → a + 1 + b ≡ a + b + 1
later a b = omega arith

last_passed : (es : List Entry) (e : Entry) (s : View) → state_included s e.state ≡ false → comparisons (es ++ e ∷ []) s ≡ comparisons es s + 1
unfolding newest_covering comparisons
last_passed [] e s differs = refl
last_passed (x ∷ es) e s differs = rw (newest_last es e s) (rw differs (rw (last_passed es e s differs) (later (comparisons es s) _)))

pub compared_found : (es : List Entry) (k : ℕ) (s : View) (d e : Entry) → 0 < k → k ≤ length es → e ≡ get_or es (k - 1) d → state_included s e.state ≡ true → comparisons (take k es) s ≡ 1
compared_found es zero s d e h within is so = absurd (omega (arith, h))
compared_found es (suc k) s d e h within is so =
    rw (take-suc es k d (omega (arith, within)))
    (last_found (take k es) (get_or es k d) s (subst (λ (x : Entry). state_included s x.state ≡ true) (is ∙ ap (λ n. get_or es n d) (before k)) so))

pub compared_passed : (es : List Entry) (k : ℕ) (s : View) (d e : Entry) → 0 < k → k ≤ length es → e ≡ get_or es (k - 1) d → state_included s e.state ≡ false → comparisons (take k es) s ≡ comparisons (take (k - 1) es) s + 1
compared_passed es zero s d e h within is differs = absurd (omega (arith, h))
compared_passed es (suc k) s d e h within is differs =
    rw (take-suc es k d (omega (arith, within)))
    (last_passed (take k es) (get_or es k d) s (subst (λ (x : Entry). state_included s x.state ≡ false) (is ∙ ap (λ n. get_or es n d) (before k)) differs)
    ∙ ap (λ n. comparisons (take n es) s + 1) (sym (before k)))

pub none_compared : (es : List Entry) (k : ℕ) (s : View) → k ≤ 0 → comparisons (take k es) s ≡ 0
unfolding comparisons
none_compared es zero s h = refl
none_compared es (suc k) s h = absurd (omega (arith, h))
