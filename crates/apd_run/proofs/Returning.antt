-- The pages that come back at the end of a run, and the whole histories of the shards.
use Rattle.std.proofs.Common.{◌≡◌, ◌⊎◌, inl, inr, ◌+◌, ◌-◌, ◌<◌, ◌≤◌, ℕ, zero, suc, Bool, true, false, List, [], ◌∷◌, ◌++◌, get_or, length, map, refl, sym, ap, subst, ◌∙◌, append_assoc, append-nil, length-append, add-zero, zero-add, arith}
use Rattle.std.specs.Prelude.{◌==◌, OnOk, Result, Ok, Err, cond, count_by}
use Rattle.std.specs.List.{All}
use Rattle.std.proofs.lemmas.Bool.Decides.{nat_tests}
use Rattle.std.proofs.lemmas.List.Elements.{All-append, All-cons, All-head, All-nil, All-tail}
use Rattle.std.proofs.lemmas.List.Recursion.{is_count_by}
use mathlib.Core.List.{IsPrefix}
use Rattle.ap_model.specs.Readings.{Config}
use Rattle.ap_model.specs.Runs.{Entry}
use Rattle.ap_core.specs.Handles.{rules}
use Rattle.ap_books.specs.Counts.{Counts, Portion, counts_in, none, plus}
use Rattle.ap_books.specs.Holdings.{HasMerged, HasParts, Holding, sum_of}
use Rattle.ap_locked.specs.Pages.{AreWhole, IsComplete, Page, Signed, new_page, new_pages, signed_by, with_first}
use Rattle.ap_locked.specs.Pages as page
use Rattle.ap_locked.specs.Tokens.{AreTheJournal}
use Rattle.ap_live.specs.Lives.{Live}
use Rattle.ap_live.specs.Upholding.{token_at}
use Rattle.ap_live.proofs.Growing.{by_shard}
use Rattle.ap_shards.specs.Opening.{whole}
use Rattle.ap_shards.specs.Pages.{AreNewPages, AreTheJournals, EightPages, HasPages, both_pages, pages_of}
use Rattle.ap_shards.specs.Tokens.{Eight, holding_of}
use Rattle.ap_live.specs.Counting.{counted_by}
use Rattle.versions.specs.declared.list.Load.{Load}
use Rattle.apd_run.specs.Batches.{Batch, batches_of}
use Rattle.apd_run.specs.Dealing.{IsUnused}
use Rattle.apd_run.specs.Deciding.{AreOfBatches, IsHistory}
use Rattle.apd_files.specs.Held.{Held}
use Rattle.apd_run.specs.Hands.{AreUnused, IsOfWorker, IsRunOperator, IsRunWorker, RunOperator, RunWorker, work_of}
use Rattle.apd_run.specs.Returning.{AreOfWorkers, ArePagesOf, AreWritten, TookBack}
use Rattle.apd_run.specs.Work.{AllTold, Decision, IsWhole, Work, counts_of_all, decided_by, entries_of}
use Rattle.apd_run.proofs.Batches.{of_more_loads, of_same}
use Rattle.apd_run.proofs.Deciding.{accounts_empty}
use Rattle.apd_run.proofs.Sums.{merged_sum, one_more_part, plus_none}

-- ---- the pages of a worker

-- what a worker wrote that has reported all of its events is of its batches
pub pages_of_worker : (place : Live) (w : RunWorker) → IsRunWorker place w → w.handled ≡ [] → (loads : List Load) → IsPrefix w.token.seen.loads loads
    → (batches : List Batch) → batches_of w.number w.batches ≡ batches_of w.number batches → (s : ℕ) → s < 8 → AreOfBatches s loads (batches_of w.number batches) (token_at s w.token.shards).page.made
pages_of_worker place w h empty loads seen batches agree s low =
    let was = h.accounts.written s low in
    let unowned : (token_at s w.token.shards).own ≡ [] = accounts_empty (batches_of w.number w.batches) w.told w.token w.handled empty h.accounts s low in
    of_same s loads (batches_of w.number w.batches) (batches_of w.number batches) was.before (token_at s w.token.shards).page.made agree
    (sym (was.page ∙ (ap (λ (l : List Entry). was.before ++ l) unowned ∙ append-nil was.before)))
    (of_more_loads s w.token.seen.loads loads seen (batches_of w.number w.batches) was.before was.of_batches)

-- ---- empty pages

new_unused : (n : ℕ) → All IsUnused (new_pages n)
new_unused zero = All-nil IsUnused
new_unused (suc n) = All-cons IsUnused (new_page n) (new_pages n) refl (new_unused n)

-- new ones behind others
unused_two : (n : ℕ) (ps qs : List Page) → All IsUnused ps → qs ≡ new_pages n → All IsUnused (ps ++ qs)
unused_two n ps qs h is = All-append IsUnused ps qs h (subst (λ (l : List Page). All IsUnused l) (sym is) (new_unused n))

pub rest_unused : (n : ℕ) (e : Eight) (pages : EightPages) → AreUnused (pages_of e) → AreNewPages n pages → AreUnused (both_pages (pages_of e) pages)
rest_unused n e pages h is = (
  unused_two n (e.of0.page ∷ []) pages.of0 h.0 is.0,
  unused_two n (e.of1.page ∷ []) pages.of1 h.1 is.1,
  unused_two n (e.of2.page ∷ []) pages.of2 h.2 is.2,
  unused_two n (e.of3.page ∷ []) pages.of3 h.3 is.3,
  unused_two n (e.of4.page ∷ []) pages.of4 h.4 is.4,
  unused_two n (e.of5.page ∷ []) pages.of5 h.5 is.5,
  unused_two n (e.of6.page ∷ []) pages.of6 h.6 is.6,
  unused_two n (e.of7.page ∷ []) pages.of7 h.7 is.7,
)

-- those of all tokens together
unused_one : (p : Page) → IsUnused p → All IsUnused (p ∷ [])
unused_one p is = All-cons IsUnused p [] is (All-nil IsUnused)

pub whole_unused : (n : ℕ) (e : Eight) → e ≡ whole n → AreUnused (pages_of e)
whole_unused n e is =
    let one = unused_one (new_page (n - 1)) refl in
    subst (λ (x : Eight). AreUnused (pages_of x)) (sym is) (one, one, one, one, one, one, one, one)

-- ---- pages that came back

count_more : (n : ℕ) (ps qs : List Page) → length ps ≡ n → length qs ≡ 1 → length (ps ++ qs) ≡ n + 1
count_more n ps qs many one = length-append ps qs ∙ (λ i. many i + one i)

pub pages_count : (n : ℕ) (a b : EightPages) → HasPages n a → HasPages 1 b → HasPages (n + 1) (both_pages a b)
pages_count n a b h one = (
  count_more n a.of0 b.of0 h.0 one.0,
  count_more n a.of1 b.of1 h.1 one.1,
  count_more n a.of2 b.of2 h.2 one.2,
  count_more n a.of3 b.of3 h.3 one.3,
  count_more n a.of4 b.of4 h.4 one.4,
  count_more n a.of5 b.of5 h.5 one.5,
  count_more n a.of6 b.of6 h.6 one.6,
  count_more n a.of7 b.of7 h.7 one.7,
)

-- those of one more worker
workers_more : (s : ℕ) (published : List Load) (bs : List Batch) (k : ℕ) (ps : List Page) (p : Page) → AreOfWorkers s published bs k ps → AreOfBatches s published (batches_of (k + length ps) bs) p.made
    → AreOfWorkers s published bs k (ps ++ p ∷ [])
workers_more s published bs k [] p h one = (subst (λ (n : ℕ). AreOfBatches s published (batches_of n bs) p.made) (add-zero k) one, tt)
workers_more s published bs k (q ∷ ps) p h one =
    let next : k + suc (length ps) ≡ k + 1 + length ps = omega arith in
    (h.0, workers_more s published bs (k + 1) ps p h.1 (subst (λ (n : ℕ). AreOfBatches s published (batches_of n bs) p.made) next one))

pages_more : (s : ℕ) (w : Work) (n : ℕ) (ps : List Page) (p : Page) → ArePagesOf s w n ps → AreOfBatches s w.loads.loads (batches_of n w.batches) p.made → ArePagesOf s w (n + 1) (ps ++ p ∷ [])
pages_more s w n ps p h one =
    record {
      kept = h.kept;
      written = h.written ++ p ∷ [];
      all = ap (λ (l : List Page). l ++ p ∷ []) h.all ∙ append_assoc h.kept h.written (p ∷ []);
      unused = h.unused;
      many = length-append h.written (p ∷ []) ∙ ap (λ (k : ℕ). k + 1) h.many;
      each = workers_more s w.loads.loads w.batches 0 h.written p h.each (subst (λ (k : ℕ). AreOfBatches s w.loads.loads (batches_of k w.batches) p.made) (sym (zero-add (length h.written) ∙ h.many)) one);
    }

written_more_pages : (all : ℕ) (w : Work) (n : ℕ) (pages : EightPages) (e : Eight) → AreWritten all w n pages → ((s : ℕ) → s < 8 → AreOfBatches s w.loads.loads (batches_of n w.batches) (token_at s e).page.made)
    → AreWritten all w (n + 1) (both_pages pages (pages_of e))
written_more_pages all w n pages e h one =
    record {
      of_workers = h.of_workers;
      of0 = pages_more 0 w n pages.of0 e.of0.page h.of0 (one 0 (omega arith));
      of1 = pages_more 1 w n pages.of1 e.of1.page h.of1 (one 1 (omega arith));
      of2 = pages_more 2 w n pages.of2 e.of2.page h.of2 (one 2 (omega arith));
      of3 = pages_more 3 w n pages.of3 e.of3.page h.of3 (one 3 (omega arith));
      of4 = pages_more 4 w n pages.of4 e.of4.page h.of4 (one 4 (omega arith));
      of5 = pages_more 5 w n pages.of5 e.of5.page h.of5 (one 5 (omega arith));
      of6 = pages_more 6 w n pages.of6 e.of6.page h.of6 (one 6 (omega arith));
      of7 = pages_more 7 w n pages.of7 e.of7.page h.of7 (one 7 (omega arith));
    }

-- the same after a worker came back
pub parts_back : (published : List Load) (number : ℕ) (batches : List Batch) (hoard shares hoard2 : Holding) (e : Eight) → HasParts 1 (holding_of e) → counted_by e ≡ none → shares ≡ holding_of e → HasMerged hoard shares hoard2
    → ((n : ℕ) → HasParts n hoard → HasParts (n + 1) hoard2) × (sum_of hoard2 ≡ sum_of hoard)
parts_back published number batches hoard shares hoard2 e one nothing is merged = (
  λ n h. one_more_part n hoard shares hoard2 h (subst (HasParts 1) (sym is) one) merged,
  merged_sum hoard shares hoard2 merged ∙ (ap (λ (x : Holding). plus (sum_of hoard) (sum_of x)) is ∙ (ap (plus (sum_of hoard)) nothing ∙ plus_none (sum_of hoard))),
)

pub pages_back : (published : List Load) (number : ℕ) (batches : List Batch) (hoard hoard2 : Holding) (pages pages2 : EightPages) → TookBack published number batches hoard hoard2 pages pages2
    → (n : ℕ) → HasPages n pages → HasPages (n + 1) pages2
pages_back published number batches hoard hoard2 pages pages2 t n h =
    subst (HasPages (n + 1)) (sym t.pages_are) (pages_count n pages (pages_of t.token) h (refl, refl, refl, refl, refl, refl, refl, refl))

pub written_back : (published : List Load) (number : ℕ) (batches : List Batch) (hoard hoard2 : Holding) (pages pages2 : EightPages) → TookBack published number batches hoard hoard2 pages pages2
    → (w : Work) (all : ℕ) → w.batches ≡ batches → w.loads.loads ≡ published → AreWritten all w number pages → AreWritten all w (number + 1) pages2
written_back published number batches hoard hoard2 pages pages2 t w all same loads h =
    subst (λ (x : EightPages). AreWritten all w (number + 1) x) (sym t.pages_are)
    (written_more_pages all w number pages t.token h
    (λ s low.
    subst (λ (l : List Batch). AreOfBatches s w.loads.loads (batches_of number l) (token_at s t.token).page.made) (sym same)
    (subst (λ (l : List Load). AreOfBatches s l (batches_of number batches) (token_at s t.token).page.made) (sym loads) (t.written s low))))

-- empty ones
pages_none : (s : ℕ) (w : Work) (ps : List Page) (p : Page) → All IsUnused ps → IsUnused p → ArePagesOf s w 0 (ps ++ p ∷ [])
pages_none s w ps p unused mine =
    record {
      kept = ps ++ p ∷ [];
      written = [];
      all = sym (append-nil (ps ++ p ∷ []));
      unused = All-append IsUnused ps (p ∷ []) unused (All-cons IsUnused p [] mine (All-nil IsUnused));
      many = refl;
      each = tt;
    }

written_none : (all : ℕ) (w : Work) (pages : EightPages) (e : Eight) → All (IsOfWorker all) w.batches → AreUnused pages → ((s : ℕ) → s < 8 → IsUnused (token_at s e).page) → AreWritten all w 0 (both_pages pages (pages_of e))
written_none all w pages e of_workers unused mine =
    record {
      of_workers = of_workers;
      of0 = pages_none 0 w pages.of0 e.of0.page unused.0 (mine 0 (omega arith));
      of1 = pages_none 1 w pages.of1 e.of1.page unused.1 (mine 1 (omega arith));
      of2 = pages_none 2 w pages.of2 e.of2.page unused.2 (mine 2 (omega arith));
      of3 = pages_none 3 w pages.of3 e.of3.page unused.3 (mine 3 (omega arith));
      of4 = pages_none 4 w pages.of4 e.of4.page unused.4 (mine 4 (omega arith));
      of5 = pages_none 5 w pages.of5 e.of5.page unused.5 (mine 5 (omega arith));
      of6 = pages_none 6 w pages.of6 e.of6.page unused.6 (mine 6 (omega arith));
      of7 = pages_none 7 w pages.of7 e.of7.page unused.7 (mine 7 (omega arith));
    }

-- ---- lists

all_first : {X : Type 0} (P : X → Type 0) (xs ys : List X) → All P (xs ++ ys) → All P xs
all_first P [] ys h = All-nil P
all_first P (x ∷ xs) ys h = All-cons P x xs (All-head P x (xs ++ ys) h) (all_first P xs ys (All-tail P x (xs ++ ys) h))

all_last : {X : Type 0} (P : X → Type 0) (xs ys : List X) → All P (xs ++ ys) → All P ys
all_last P [] ys h = h
all_last P (x ∷ xs) ys h = all_last P xs ys (All-tail P x (xs ++ ys) h)

-- ---- marks

-- on how many pages a mark is
abbrev marked : ℕ → List Page → ℕ
marked mark [] = 0
marked mark (p ∷ ps) = cond (mark == p.mark) 1 0 + marked mark ps

marked_counts : (mark : ℕ) (ps : List Page) → marked mark ps ≡ count_by (λ (p : Page). mark == p.mark) ps
marked_counts mark ps = is_count_by (marked mark) (λ (p : Page). mark == p.mark) refl (λ p ps. step (mark == p.mark) (marked mark ps)) ps
  where
    step : (b : Bool) (n : ℕ) → cond b 1 0 + n ≡ cond b (1 + n) n
    step true n = refl
    step false n = omega arith

marked_two : (mark : ℕ) (xs ys : List Page) → marked mark (xs ++ ys) ≡ marked mark xs + marked mark ys
marked_two mark [] ys = omega arith
marked_two mark (x ∷ xs) ys = omega (arith, marked_two mark xs ys)

-- no entry has the mark of an empty page
unsigned_one : (b : Bool) (e : Entry) (es : List Entry) → with_first b e es ≡ [] → (b ≡ false) × (es ≡ [])
unsigned_one true e es is = absurd (cc is)
unsigned_one false e es is = (refl, is)

unsigned : (mark : ℕ) (journal : List Signed) → signed_by mark journal ≡ [] → All (λ (s : Signed). (s.mark == mark) ≡ false) journal
unsigned mark [] is = All-nil (λ (s : Signed). (s.mark == mark) ≡ false)
unsigned mark (s ∷ journal) is =
    let two = unsigned_one (s.mark == mark) s.entry (signed_by mark journal) is in
    All-cons (λ (x : Signed). (x.mark == mark) ≡ false) s journal two.0 (unsigned mark journal two.1)

unmarked : (journal : List Signed) (kept : List Page) → All IsUnused kept → All (IsComplete journal) kept → All (λ (s : Signed). marked s.mark kept ≡ 0) journal
unmarked journal [] unused complete k d low = refl
unmarked journal (p ∷ ps) unused complete k d low =
    let here : signed_by p.mark journal ≡ [] = sym (All-head (IsComplete journal) p ps complete) ∙ All-head IsUnused p ps unused in
    let none : ((get_or journal k d).mark == p.mark) ≡ false = unsigned p.mark journal here k d low in
    let zero_here : cond ((get_or journal k d).mark == p.mark) 1 0 ≡ 0 = ap {B = ℕ} (λ (b : Bool). cond b 1 0) none in
    omega (arith, zero_here, unmarked journal ps (All-tail IsUnused p ps unused) (All-tail (IsComplete journal) p ps complete) k d low)

-- the number of the first page with a mark, if the pages are numbered from k on
abbrev number_in : ℕ → List Page → ℕ → ℕ
number_in k [] mark = k
number_in k (p ∷ ps) mark = cond (mark == p.mark) k (number_in (suc k) ps mark)

number_least : (k : ℕ) (ps : List Page) (mark : ℕ) → k ≤ number_in k ps mark
number_least k [] mark = omega arith
number_least k (p ∷ ps) mark = by (mark == p.mark) (number_least (suc k) ps mark)
  where
    by : (b : Bool) → suc k ≤ number_in (suc k) ps mark → k ≤ cond b k (number_in (suc k) ps mark)
    by true later = omega arith
    by false later = omega (arith, later)

number_most : (k : ℕ) (ps : List Page) (mark : ℕ) → marked mark ps ≡ 1 → number_in k ps mark < k + length ps
number_most k [] mark once = absurd (omega (arith, once))
number_most k (p ∷ ps) mark once = by (mark == p.mark) once (number_most (suc k) ps mark)
  where
    by : (b : Bool) → cond b 1 0 + marked mark ps ≡ 1 → (marked mark ps ≡ 1 → number_in (suc k) ps mark < suc k + length ps) → cond b k (number_in (suc k) ps mark) < k + suc (length ps)
    by true once later = omega arith
    by false once later =
        let rest : marked mark ps ≡ 1 = omega (arith, once) in
        let low : number_in (suc k) ps mark < suc k + length ps = later rest in
        omega (arith, low)

unmarked_at : (ps : List Page) (mark i : ℕ) (d : Page) → i < length ps → marked mark ps ≡ 0 → (mark == (get_or ps i d).mark) ≡ false
unmarked_at [] mark i d low none = absurd (omega (arith, low))
unmarked_at (p ∷ ps) mark zero d low none = by (mark == p.mark) none
  where
    by : (b : Bool) → cond b 1 0 + marked mark ps ≡ 0 → b ≡ false
    by true none = absurd (omega (arith, none))
    by false none = refl
unmarked_at (p ∷ ps) mark (suc i) d low none =
    let rest : marked mark ps ≡ 0 = omega (arith, none) in
    unmarked_at ps mark i d (omega (arith, low)) rest

same_number : (m n : ℕ) (b : Bool) → m ≡ n → (m == n) ≡ b → b ≡ true
same_number m n true is e = refl
same_number m n false is e = grind (arith, nat_tests)

other_number : (m n : ℕ) (b : Bool) → (m ≡ n → ⊥) → (m == n) ≡ b → b ≡ false
other_number m n false apart e = refl
other_number m n true apart e =
    let same : m ≡ n = grind (arith, nat_tests) in
    absurd (apart same)

-- the entry is the worker's if it has the mark of the worker's page
number_at : (k : ℕ) (ps : List Page) (mark i : ℕ) (d : Page) → i < length ps → marked mark ps ≡ 1 → (number_in k ps mark == k + i) ≡ (mark == (get_or ps i d).mark)
number_at k [] mark i d low once = absurd (omega (arith, low))
number_at k (p ∷ ps) mark zero d low once = by (mark == p.mark) (number_least (suc k) ps mark)
  where
    by : (b : Bool) → suc k ≤ number_in (suc k) ps mark → (cond b k (number_in (suc k) ps mark) == k + zero) ≡ b
    by true later = same_number k (k + zero) (k == k + zero) (omega arith) refl
    by false later = other_number (number_in (suc k) ps mark) (k + zero) (number_in (suc k) ps mark == k + zero) (λ same. omega (arith, same, later)) refl
number_at k (p ∷ ps) mark (suc i) d low once = by (mark == p.mark) once (λ rest. number_at (suc k) ps mark i d (omega (arith, low)) rest)
  where
    by : (b : Bool) → cond b 1 0 + marked mark ps ≡ 1 → (marked mark ps ≡ 1 → (number_in (suc k) ps mark == suc k + i) ≡ (mark == (get_or ps i d).mark)) → (cond b k (number_in (suc k) ps mark) == k + suc i) ≡ (mark == (get_or ps i d).mark)
    by true once later =
        let rest : marked mark ps ≡ 0 = omega (arith, once) in
        other_number k (k + suc i) (k == k + suc i) (λ same. omega (arith, same)) refl ∙ sym (unmarked_at ps mark i d (omega (arith, low)) rest)
    by false once later =
        let rest : marked mark ps ≡ 1 = omega (arith, once) in
        let next : suc k + i ≡ k + suc i = omega arith in
        ap (λ (n : ℕ). number_in (suc k) ps mark == n) (sym next) ∙ later rest

-- ---- whole histories

-- the entry, and the number of the page with its mark
abbrev decision : List Page → Signed → Decision
decision ps s = record { worker = number_in 0 ps s.mark; entry = s.entry }

abbrev history_of : List Page → List Signed → List Decision
history_of ps journal = map (decision ps) journal

same_entries : (ps : List Page) (journal : List Signed) → entries_of (history_of ps journal) ≡ page.entries_of journal
same_entries ps [] = refl
same_entries ps (s ∷ journal) = ap (λ (l : List Entry). s.entry ∷ l) (same_entries ps journal)

decided_as : (ps : List Page) (worker mark : ℕ) (journal : List Signed) → All (λ (s : Signed). (number_in 0 ps s.mark == worker) ≡ (s.mark == mark)) journal → decided_by worker (history_of ps journal) ≡ signed_by mark journal
decided_as ps worker mark [] h = refl
decided_as ps worker mark (s ∷ journal) h =
    let here = All-head (λ (x : Signed). (number_in 0 ps x.mark == worker) ≡ (x.mark == mark)) s journal h in
    let later = decided_as ps worker mark journal (All-tail (λ (x : Signed). (number_in 0 ps x.mark == worker) ≡ (x.mark == mark)) s journal h) in
    λ i. with_first (here i) s.entry (later i)

decided_none : (ps : List Page) (worker : ℕ) (journal : List Signed) → All (λ (s : Signed). (number_in 0 ps s.mark == worker) ≡ false) journal → decided_by worker (history_of ps journal) ≡ []
decided_none ps worker [] h = refl
decided_none ps worker (s ∷ journal) h =
    let here = All-head (λ (x : Signed). (number_in 0 ps x.mark == worker) ≡ false) s journal h in
    let later = decided_none ps worker journal (All-tail (λ (x : Signed). (number_in 0 ps x.mark == worker) ≡ false) s journal h) in
    λ i. with_first (here i) s.entry (later i)

worker_at : (s : ℕ) (published : List Load) (bs : List Batch) (k : ℕ) (ps : List Page) (i : ℕ) (d : Page) → i < length ps → AreOfWorkers s published bs k ps → AreOfBatches s published (batches_of (k + i) bs) (get_or ps i d).made
worker_at s published bs k [] i d low h = absurd (omega (arith, low))
worker_at s published bs k (p ∷ ps) zero d low h = subst (λ (n : ℕ). AreOfBatches s published (batches_of n bs) p.made) (sym (add-zero k)) h.0
worker_at s published bs k (p ∷ ps) (suc i) d low h =
    let next : k + 1 + i ≡ k + suc i = omega arith in
    subst (λ (n : ℕ). AreOfBatches s published (batches_of n bs) (get_or ps i d).made) next (worker_at s published bs (k + 1) ps i d (omega (arith, low)) h.1)

no_batches : (workers worker : ℕ) (bs : List Batch) → workers ≤ worker → All (IsOfWorker workers) bs → batches_of worker bs ≡ []
no_batches workers worker [] high h = refl
no_batches workers worker (b ∷ bs) high h =
    let low : b.worker < workers = All-head (IsOfWorker workers) b bs h in
    let apart : (b.worker == worker) ≡ false = other_number b.worker worker (b.worker == worker) (λ same. omega (arith, same, low, high)) refl in
    (λ i. cond (apart i) (b ∷ batches_of worker bs) (batches_of worker bs)) ∙ no_batches workers worker bs high (All-tail (IsOfWorker workers) b bs h)

-- the whole history of a shard, and what it counts
record Whole (s : ℕ) (w : Work) (counted : Counts) : Type 0 where
  history : List Decision
  whole : IsWhole s w history
  counts : counted ≡ counts_in (entries_of history)

module _ (s : ℕ) (w : Work) (n : ℕ) (ps : List Page) (journal : List Signed) (whole : AreWhole ps journal) (h : ArePagesOf s w n ps) (of_workers : All (IsOfWorker n) w.batches) where
  complete : All (IsComplete journal) (h.kept ++ h.written)
  complete = subst (λ (l : List Page). All (IsComplete journal) l) h.all whole.each

  once : All (λ (x : Signed). marked x.mark h.written ≡ 1) journal
  once k d low =
      let mark : ℕ = (get_or journal k d).mark in
      let all : count_by (λ (p : Page). mark == p.mark) ps ≡ 1 = whole.once k d low in
      let both : marked mark (h.kept ++ h.written) ≡ 1 = ap (marked mark) (sym h.all) ∙ (marked_counts mark ps ∙ all) in
      omega (arith, both, marked_two mark h.kept h.written, unmarked journal h.kept h.unused (all_first (IsComplete journal) h.kept h.written complete) k d low)

  each_low : (worker : ℕ) → worker < n → AreOfBatches s w.loads.loads (batches_of worker w.batches) (decided_by worker (history_of h.written journal))
  each_low worker low =
      let d : Page = record { mark = 0; made = [] } in
      let within : worker < length h.written = omega (arith, low, h.many) in
      let p : Page = get_or h.written worker d in
      let made : p.made ≡ signed_by p.mark journal = all_last (IsComplete journal) h.kept h.written complete worker d within in
      let decided : decided_by worker (history_of h.written journal) ≡ signed_by p.mark journal =
      decided_as h.written worker p.mark journal (λ k x high. ap (λ (m : ℕ). number_in 0 h.written (get_or journal k x).mark == m) (sym (zero-add worker)) ∙ number_at 0 h.written (get_or journal k x).mark worker d within (once k x high)) in
      let batches : batches_of (0 + worker) w.batches ≡ batches_of worker w.batches = ap (λ (m : ℕ). batches_of m w.batches) (zero-add worker) in
      of_same s w.loads.loads (batches_of (0 + worker) w.batches) (batches_of worker w.batches) p.made (decided_by worker (history_of h.written journal)) batches (made ∙ sym decided)
      (worker_at s w.loads.loads w.batches 0 h.written worker d within h.each)

  each_high : (worker : ℕ) → n ≤ worker → AreOfBatches s w.loads.loads (batches_of worker w.batches) (decided_by worker (history_of h.written journal))
  each_high worker high =
      let none : decided_by worker (history_of h.written journal) ≡ [] =
      decided_none h.written worker journal
      (λ k x below.
      let mark : ℕ = (get_or journal k x).mark in
      let low : number_in 0 h.written mark < 0 + length h.written = number_most 0 h.written mark (once k x below) in
      other_number (number_in 0 h.written mark) worker (number_in 0 h.written mark == worker) (λ same. omega (arith, same, low, high, h.many)) refl) in
      of_same s w.loads.loads [] (batches_of worker w.batches) [] (decided_by worker (history_of h.written journal)) (sym (no_batches n worker w.batches high of_workers)) (sym none) refl

  each : (worker : ℕ) → AreOfBatches s w.loads.loads (batches_of worker w.batches) (decided_by worker (history_of h.written journal))
  each worker = by (less_or worker n)
    where
      less_or : (j k : ℕ) → (j < k) ⊎ (k ≤ j)
      less_or zero zero = inr (omega arith)
      less_or zero (suc k) = inl (omega arith)
      less_or (suc j) zero = inr (omega arith)
      less_or (suc j) (suc k) = up (less_or j k)
        where
          up : (j < k) ⊎ (k ≤ j) → (suc j < suc k) ⊎ (suc k ≤ suc j)
          up (inl l) = inl (omega (arith, l))
          up (inr l) = inr (omega (arith, l))

      by : (worker < n) ⊎ (n ≤ worker) → AreOfBatches s w.loads.loads (batches_of worker w.batches) (decided_by worker (history_of h.written journal))
      by (inl low) = each_low worker low
      by (inr high) = each_high worker high

whole_of : (s : ℕ) (w : Work) (n : ℕ) (p : Portion) (ps : List Page) → AreTheJournal (rules s w.config) p ps → ArePagesOf s w n ps → All (IsOfWorker n) w.batches → Whole s w p.counts
whole_of s w n p ps j h of_workers =
    let journal : List Signed = j.journal in
    let entries : page.entries_of journal ≡ entries_of (history_of h.written journal) = sym (same_entries h.written journal) in
    record {
      history = history_of h.written journal;
      whole = record {
        holds = subst (λ (l : List Entry). IsHistory s w.config l) entries j.handled;
        each = each s w n ps journal j.whole h of_workers;
      };
      counts = j.counted ∙ ap counts_in entries;
    }

-- whole histories of all shards
abbrev at_shard : List Decision → List Decision → List Decision → List Decision → List Decision → List Decision → List Decision → List Decision → ℕ → List Decision
at_shard h0 h1 h2 h3 h4 h5 h6 h7 s =
    cond (s == 0) h0 (cond (s == 1) h1 (cond (s == 2) h2 (cond (s == 3) h3 (cond (s == 4) h4 (cond (s == 5) h5 (cond (s == 6) h6 h7))))))

of_all : (w : Work) (counted : Counts) (h0 h1 h2 h3 h4 h5 h6 h7 : List Decision) → IsWhole 0 w h0 → IsWhole 1 w h1 → IsWhole 2 w h2 → IsWhole 3 w h3 → IsWhole 4 w h4 → IsWhole 5 w h5 → IsWhole 6 w h6 → IsWhole 7 w h7
    → counted ≡ counts_of_all (at_shard h0 h1 h2 h3 h4 h5 h6 h7) → AllTold counted w
of_all w counted h0 h1 h2 h3 h4 h5 h6 h7 w0 w1 w2 w3 w4 w5 w6 w7 counts =
    record {
      histories = at_shard h0 h1 h2 h3 h4 h5 h6 h7;
      whole = by_shard (λ (s : ℕ). IsWhole s w (at_shard h0 h1 h2 h3 h4 h5 h6 h7 s)) w0 w1 w2 w3 w4 w5 w6 w7;
      counts = counts;
    }

-- what they count
counts_all : (c0 c1 c2 c3 c4 c5 c6 c7 : Counts) (h0 h1 h2 h3 h4 h5 h6 h7 : List Decision) → c0 ≡ counts_in (entries_of h0) → c1 ≡ counts_in (entries_of h1) → c2 ≡ counts_in (entries_of h2) → c3 ≡ counts_in (entries_of h3) → c4 ≡ counts_in (entries_of h4)
    → c5 ≡ counts_in (entries_of h5) → c6 ≡ counts_in (entries_of h6) → c7 ≡ counts_in (entries_of h7) → plus (plus (plus (plus (plus (plus (plus c0 c1) c2) c3) c4) c5) c6) c7 ≡ counts_of_all (at_shard h0 h1 h2 h3 h4 h5 h6 h7)
counts_all c0 c1 c2 c3 c4 c5 c6 c7 h0 h1 h2 h3 h4 h5 h6 h7 e0 e1 e2 e3 e4 e5 e6 e7 i = plus (plus (plus (plus (plus (plus (plus (e0 i) (e1 i)) (e2 i)) (e3 i)) (e4 i)) (e5 i)) (e6 i)) (e7 i)

from_all : (w : Work) (h : Holding) (counted : Counts) → sum_of h ≡ counted → Whole 0 w h.of0.counts → Whole 1 w h.of1.counts → Whole 2 w h.of2.counts → Whole 3 w h.of3.counts → Whole 4 w h.of4.counts → Whole 5 w h.of5.counts → Whole 6 w h.of6.counts → Whole 7 w h.of7.counts
    → AllTold counted w
from_all w h counted sum w0 w1 w2 w3 w4 w5 w6 w7 =
    of_all w counted w0.history w1.history w2.history w3.history w4.history w5.history w6.history w7.history w0.whole w1.whole w2.whole w3.whole w4.whole w5.whole w6.whole w7.whole
    (sym sum
    ∙ counts_all h.of0.counts h.of1.counts h.of2.counts h.of3.counts h.of4.counts h.of5.counts h.of6.counts h.of7.counts w0.history w1.history w2.history w3.history w4.history w5.history w6.history w7.history
    w0.counts w1.counts w2.counts w3.counts w4.counts w5.counts w6.counts w7.counts)

all_told : (w : Work) (n : ℕ) (config : Config) (hoard : Holding) (pages : EightPages) (counted : Counts) → w.config ≡ config → AreTheJournals config hoard pages → AreWritten n w n pages → sum_of hoard ≡ counted → AllTold counted w
all_told w n config hoard pages counted same j h sum =
    let k : AreTheJournals w.config hoard pages = subst (λ (c : Config). AreTheJournals c hoard pages) (sym same) j in
    from_all w hoard counted sum
    (whole_of 0 w n hoard.of0 pages.of0 k.0 h.of0 h.of_workers)
    (whole_of 1 w n hoard.of1 pages.of1 k.1 h.of1 h.of_workers)
    (whole_of 2 w n hoard.of2 pages.of2 k.2 h.of2 h.of_workers)
    (whole_of 3 w n hoard.of3 pages.of3 k.3 h.of3 h.of_workers)
    (whole_of 4 w n hoard.of4 pages.of4 k.4 h.of4 h.of_workers)
    (whole_of 5 w n hoard.of5 pages.of5 k.5 h.of5 h.of_workers)
    (whole_of 6 w n hoard.of6 pages.of6 k.6 h.of6 h.of_workers)
    (whole_of 7 w n hoard.of7 pages.of7 k.7 h.of7 h.of_workers)

-- the end of an operator's run
pub closes_told : {F : Type 0} (held : F → Held) (shares : ℕ) (place : Live) (o : RunOperator F) → IsRunOperator shares place o → (batches : List Batch) → batches ≡ o.batches → (pages1 : EightPages) → pages1 ≡ both_pages o.pages (pages_of o.token.shards)
    → (hoard2 : Holding) (pages2 : EightPages) → sum_of hoard2 ≡ sum_of o.hoard
    → ((w : Work) (all : ℕ) → w.batches ≡ batches → w.loads.loads ≡ o.loads.loads → AreWritten all w 0 pages1 → AreWritten all w (length o.ap.queues) pages2)
    → AreTheJournals o.config hoard2 pages2 → AllTold (sum_of o.hoard) (work_of held o)
closes_told held shares place o h batches same pages1 is hoard2 pages2 sum back j =
    let w : Work = work_of held o in
    let n : ℕ = length o.ap.queues in
    all_told w n o.config hoard2 pages2 (sum_of o.hoard) refl j
    (back w n (sym same) refl (subst (λ (p : EightPages). AreWritten n w 0 p) (sym is) (written_none n w o.pages o.token.shards h.of_workers h.unused h.unwritten))) sum

-- if it succeeds
pub on_ok : {T E : Type 0} (r : Result T E) {A B : Type 0} → (A → B) → OnOk r A → OnOk r B
on_ok (Ok x) f a = f a
on_ok (Err e) f a = tt
