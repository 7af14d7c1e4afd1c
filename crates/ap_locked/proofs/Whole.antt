-- Pages that are a journal.
use Rattle.std.proofs.Common.{◌≡◌, ◌⊎◌, inl, inr, ◌<◌, ◌≤◌, ◌+◌, ◌^◌, ℕ, zero, suc, List, [], ◌∷◌, length, refl, ap, sym, ◌∙◌, arith}
use Rattle.std.proofs.Math.Pow.{pow-lt}
use Rattle.std.specs.Prelude.{◌==◌, Bool, cond, true, false, count_by, sum_by}
use Rattle.std.specs.List.{All}
use Rattle.std.proofs.lemmas.Bool.Decides.{nat_tests}
use Rattle.std.proofs.lemmas.List.Sums.{sum_by-cons}
use Rattle.std.proofs.lemmas.List.Elements.{All-nil, All-cons, All-head, All-tail}
use Rattle.std.proofs.lemmas.List.Recursion.{is_count_by}
use Rattle.ap_model.specs.Runs.{Entry}
use Rattle.ap_locked.specs.Pages.{AreWhole, IsComplete, IsOnOnePage, Page, Signed, signed_by, with_first}
use Rattle.ap_locked.specs.Accounts.{AreMade, ArePowers, IsMade, IsPower, mark_of, size_of}
use Rattle.ap_locked.specs.Tokens.{IsAmong, another, its_own, nothing}
use Rattle.ap_locked.proofs.Powers.{are_below, below, one_if, times, weight}

-- what is among entries is no longer, and if it is as long, it is these
among_length : {own all : List Entry} → IsAmong own all → length own ≤ length all
among_length nothing = omega arith
among_length (another own all e n) = omega (arith, among_length n)
among_length (its_own own all e n) = omega (arith, among_length n)

among_whole : {own all : List Entry} → IsAmong own all → length own ≡ length all → own ≡ all
among_whole nothing is = refl
among_whole (another own all e n) is = absurd (omega (arith, among_length n, is))
among_whole (its_own own all e n) is = ap (λ es. e ∷ es) (among_whole n (omega (arith, is)))

-- on how many pages this mark is
abbrev pub on_pages : ℕ → List Page → ℕ
on_pages mark [] = 0
on_pages mark (p ∷ pages) = one_if (mark == p.mark) + on_pages mark pages

-- how many entries of the journal the pages' marks have
abbrev pub total : List Signed → List Page → ℕ
total journal [] = 0
total journal (p ∷ pages) = length (signed_by p.mark journal) + total journal pages

first_length : (b : Bool) (e : Entry) (es : List Entry) → length (with_first b e es) ≡ one_if b + length es
first_length true e es = omega arith
first_length false e es = omega arith

total_none : (pages : List Page) → total [] pages ≡ 0
total_none [] = refl
total_none (p ∷ pages) = omega (arith, total_none pages)

total_more : (s : Signed) (journal : List Signed) (pages : List Page) → total (s ∷ journal) pages ≡ on_pages s.mark pages + total journal pages
total_more s journal [] = omega arith
total_more s journal (p ∷ pages) =
    omega (arith, total_more s journal pages, first_length (s.mark == p.mark) s.entry (signed_by p.mark journal))

total_most : (journal : List Signed) (pages : List Page) → ((m : ℕ) → on_pages m pages ≤ 1) → total journal pages ≤ length journal
total_most [] pages few = omega (arith, total_none pages)
total_most (s ∷ journal) pages few = omega (arith, total_more s journal pages, total_most journal pages few, few s.mark)

-- how many entries are on the pages
abbrev pub sizes : List Page → ℕ
sizes [] = 0
sizes (p ∷ pages) = length p.made + sizes pages

sizes_most : (journal : List Signed) (pages : List Page) → AreMade journal pages → sizes pages ≤ total journal pages
sizes_most journal [] made = omega arith
sizes_most journal (p ∷ pages) made =
    omega (arith, among_length (All-head (IsMade journal) p pages made), sizes_most journal pages (All-tail (IsMade journal) p pages made))

all_made : (journal : List Signed) (pages : List Page) → AreMade journal pages → sizes pages ≡ total journal pages → All (IsComplete journal) pages
all_made journal [] made is = All-nil (IsComplete journal)
all_made journal (p ∷ pages) made is =
    let first = All-head (IsMade journal) p pages made in
    let later = All-tail (IsMade journal) p pages made in
    let less = among_length first in
    let others = sizes_most journal pages later in
    All-cons (IsComplete journal) p pages (among_whole first (omega (arith, is, less, others))) (all_made journal pages later (omega (arith, is, less, others)))

abbrev IsOnce : List Page → Signed → Type 0
IsOnce pages s = on_pages s.mark pages ≡ 1

all_once : (journal : List Signed) (pages : List Page) → ((m : ℕ) → on_pages m pages ≤ 1) → total journal pages ≡ length journal → All (IsOnce pages) journal
all_once [] pages few is = All-nil (IsOnce pages)
all_once (s ∷ journal) pages few is =
    let more = total_more s journal pages in
    let most = total_most journal pages few in
    All-cons (IsOnce pages) s journal (omega (arith, more, most, few s.mark, is)) (all_once journal pages few (omega (arith, more, most, few s.mark, is)))

-- the exponents of the marks
abbrev pub exponents : (pages : List Page) → ArePowers pages → List ℕ
exponents [] powers = []
exponents (p ∷ pages) powers = (All-head IsPower p pages powers).0 ∷ exponents pages (All-tail IsPower p pages powers)

many : (pages : List Page) (powers : ArePowers pages) → length (exponents pages powers) ≡ length pages
many [] powers = refl
many (p ∷ pages) powers = ap suc (many pages (All-tail IsPower p pages powers))

weights : (pages : List Page) (powers : ArePowers pages) → weight (exponents pages powers) ≡ sum_by mark_of pages
weights [] powers = refl
weights (p ∷ pages) powers = omega (arith, weights pages (All-tail IsPower p pages powers), (All-head IsPower p pages powers).1, sum_by-cons mark_of p pages)

sizes_sum : (pages : List Page) → sizes pages ≡ sum_by size_of pages
sizes_sum [] = refl
sizes_sum (p ∷ pages) = omega (arith, sizes_sum pages, sum_by-cons size_of p pages)

counts : (mark : ℕ) (pages : List Page) → on_pages mark pages ≡ count_by (λ p. mark == p.mark) pages
counts mark pages = is_count_by (on_pages mark) (λ p. mark == p.mark) refl (λ p ps. step (mark == p.mark) (on_pages mark ps)) pages
  where
    step : (b : Bool) (n : ℕ) → one_if b + n ≡ cond b (1 + n) n
    step true n = refl
    step false n = omega arith

-- powers of two are equal only if their exponents are
same_power : (j k : ℕ) → 2 ^ j ≡ 2 ^ k → j ≡ k
same_power j k is = by (less_or j k)
  where
    less_or : (j k : ℕ) → (j < k) ⊎ ((k < j) ⊎ (j ≡ k))
    less_or zero zero = inr (inr refl)
    less_or zero (suc k) = inl (omega arith)
    less_or (suc j) zero = inr (inl (omega arith))
    less_or (suc j) (suc k) = up (less_or j k)
      where
        up : (j < k) ⊎ ((k < j) ⊎ (j ≡ k)) → (suc j < suc k) ⊎ ((suc k < suc j) ⊎ (suc j ≡ suc k))
        up (inl l) = inl (omega (arith, l))
        up (inr (inl l)) = inr (inl (omega (arith, l)))
        up (inr (inr e)) = inr (inr (ap suc e))

    by : (j < k) ⊎ ((k < j) ⊎ (j ≡ k)) → j ≡ k
    by (inl l) = absurd (omega (arith, pow-lt l, is))
    by (inr (inl l)) = absurd (omega (arith, pow-lt l, is))
    by (inr (inr e)) = e

same_test : (j k : ℕ) (b c : Bool) → (2 ^ j == 2 ^ k) ≡ b → (j == k) ≡ c → b ≡ c
same_test j k true true p q = refl
same_test j k false false p q = refl
same_test j k true false p q =
    let powers : 2 ^ j ≡ 2 ^ k = grind (arith, nat_tests) in
    let same : j ≡ k = same_power j k powers in
    grind (arith, nat_tests)
same_test j k false true p q =
    let same : j ≡ k = grind (arith, nat_tests) in
    let powers : 2 ^ j ≡ 2 ^ k = ap (λ x. 2 ^ x) same in
    grind (arith, nat_tests)

at_power : (j : ℕ) (pages : List Page) (powers : ArePowers pages) → on_pages (2 ^ j) pages ≡ times j (exponents pages powers)
at_power j [] powers = refl
at_power j (p ∷ pages) powers =
    let k = All-head IsPower p pages powers in
    let here : (2 ^ j == p.mark) ≡ (j == k.0) = ap (λ m. 2 ^ j == m) k.1 ∙ same_test j k.0 (2 ^ j == 2 ^ k.0) (j == k.0) refl refl in
    omega (arith, ap one_if here, at_power j pages (All-tail IsPower p pages powers))

-- a mark is on no page, or a power of two
found : (mark : ℕ) (pages : List Page) → ArePowers pages → (on_pages mark pages ≡ 0) ⊎ ((k : ℕ) × (mark ≡ 2 ^ k))
found mark [] powers = inl refl
found mark (p ∷ pages) powers = here (mark == p.mark) refl (All-head IsPower p pages powers) (found mark pages (All-tail IsPower p pages powers))
  where
    here : (b : Bool) → (mark == p.mark) ≡ b → (k : ℕ) × (p.mark ≡ 2 ^ k) → (on_pages mark pages ≡ 0) ⊎ ((k : ℕ) × (mark ≡ 2 ^ k)) → (one_if (mark == p.mark) + on_pages mark pages ≡ 0) ⊎ ((k : ℕ) × (mark ≡ 2 ^ k))
    here true is power later = let same : mark ≡ p.mark = grind (arith, nat_tests) in inr (power.0, same ∙ power.1)
    here false is power (inl none) = inl (omega (arith, ap one_if is, none))
    here false is power (inr k) = inr k

below_few : (j n : ℕ) → below j n ≤ 1
below_few j zero = omega arith
below_few zero (suc n) = omega arith
below_few (suc j) (suc n) = below_few j n

few_pages : (n : ℕ) (pages : List Page) → ArePowers pages → length pages ≡ n → sum_by mark_of pages + 1 ≡ 2 ^ n → (m : ℕ) → on_pages m pages ≤ 1
few_pages n pages powers all ones m = few (found m pages powers)
  where
    few : (on_pages m pages ≡ 0) ⊎ ((k : ℕ) × (m ≡ 2 ^ k)) → on_pages m pages ≤ 1
    few (inl none) = omega (arith, none)
    few (inr k) =
        let are = are_below n (exponents pages powers) (omega (arith, many pages powers, all)) (omega (arith, weights pages powers, ones)) in
        omega (arith, ap (λ x. on_pages x pages) k.1, at_power k.0 pages powers, are.once k.0, below_few k.0 n)

pub are_whole : (n : ℕ) (pages : List Page) (journal : List Signed) → AreMade journal pages → ArePowers pages → length pages ≡ n →
    sum_by mark_of pages + 1 ≡ 2 ^ n → sum_by size_of pages ≡ length journal → AreWhole pages journal
are_whole n pages journal made powers all ones size =
    let few = few_pages n pages powers all ones in
    let less = sizes_most journal pages made in
    let most = total_most journal pages few in
    let sum = sizes_sum pages in
    record {
      each = all_made journal pages made (omega (arith, less, most, sum, size));
      once = counted journal (all_once journal pages few (omega (arith, less, most, sum, size)));
    }
  where
    counted : (ss : List Signed) → All (IsOnce pages) ss → All (IsOnOnePage pages) ss
    counted [] a = All-nil (IsOnOnePage pages)
    counted (s ∷ ss) a = All-cons (IsOnOnePage pages) s ss (sym (counts s.mark pages) ∙ All-head (IsOnce pages) s ss a) (counted ss (All-tail (IsOnce pages) s ss a))
