-- Signed entries, and pages of them.
use Rattle.std.proofs.Common.{◌≡◌, ◌<◌, ◌+◌, ◌-◌, ◌^◌, ℕ, zero, suc, List, [], ◌∷◌, ◌++◌, length, drop, refl, ap, sym, subst, ◌∙◌, arith, append_assoc, length-append}
use Rattle.std.specs.Prelude.{◌==◌, Bool, true, false, sum_by}
use Rattle.std.specs.List.{All}
use Rattle.std.proofs.lemmas.Bool.Decides.{nat_tests}
use Rattle.std.proofs.lemmas.List.{append-nil, map-append}
use Rattle.std.proofs.lemmas.List.Elements.{All-nil, All-cons, All-head, All-tail}
use Rattle.std.proofs.lemmas.List.Sums.{sum_by-append, sum_by-cons}
use Rattle.std.proofs.Math.Nat.{pow-succ'}
use mathlib.Core.List.{IsPrefix}
use Rattle.ap_model.specs.Runs.{Entry}
use Rattle.ap_locked.specs.Accounts.{AreMade, ArePowers, IsMade, IsPower, Weighs, mark_of, size_of}
use Rattle.ap_locked.specs.Pages.{Page, Signed, entries_of, first_page, new_page, new_pages, on_page, signed_by, with_first}
use Rattle.ap_locked.specs.Tokens.{EndsWith, IsAmong}
use Rattle.ap_locked.proofs.Among.{among_more, among_one, none_among}

-- the entries of more
pub entries_more : (xs ys : List Signed) → entries_of (xs ++ ys) ≡ entries_of xs ++ entries_of ys
entries_more xs ys = map-append (λ (s : Signed). s.entry) xs ys

pub entries_prefix : (xs ys : List Signed) → IsPrefix xs ys → IsPrefix (entries_of xs) (entries_of ys)
entries_prefix xs ys p = (entries_of p.0, sym (entries_more xs p.0) ∙ ap entries_of p.1)

-- those of a mark among more
first_more : (b : Bool) (e : Entry) (es fs : List Entry) → with_first b e (es ++ fs) ≡ with_first b e es ++ fs
first_more true e es fs = refl
first_more false e es fs = refl

pub signed_more : (m : ℕ) (xs ys : List Signed) → signed_by m (xs ++ ys) ≡ signed_by m xs ++ signed_by m ys
signed_more m [] ys = refl
signed_more m (x ∷ xs) ys = ap (with_first (x.mark == m) x.entry) (signed_more m xs ys) ∙ first_more (x.mark == m) x.entry (signed_by m xs) (signed_by m ys)

pub signed_longer : {own : List Entry} (m : ℕ) (xs ys : List Signed) → IsPrefix xs ys → IsAmong own (signed_by m xs) → IsAmong own (signed_by m ys)
signed_longer {own} m xs ys p n = subst (IsAmong own) (sym (signed_more m xs p.0) ∙ ap (signed_by m) p.1) (among_more (signed_by m p.0) n)

-- what is on pages is so in a longer prefix
pub made_longer : (pages : List Page) (xs ys : List Signed) → IsPrefix xs ys → AreMade xs pages → AreMade ys pages
made_longer [] xs ys p made = All-nil (IsMade ys)
made_longer (q ∷ pages) xs ys p made =
    All-cons (IsMade ys) q pages (signed_longer q.mark xs ys p (All-head (IsMade xs) q pages made)) (made_longer pages xs ys p (All-tail (IsMade xs) q pages made))

-- nothing is on empty pages
pub made_empty : (pages : List Page) (xs : List Signed) → All (λ p. p.made ≡ []) pages → AreMade xs pages
made_empty [] xs empty = All-nil (IsMade xs)
made_empty (q ∷ pages) xs empty =
    All-cons (IsMade xs) q pages (subst (λ (es : List Entry). IsAmong es (signed_by q.mark xs)) (sym (All-head (λ (p : Page). p.made ≡ []) q pages empty)) (none_among (signed_by q.mark xs)))
    (made_empty pages xs (All-tail (λ (p : Page). p.made ≡ []) q pages empty))

-- new pages
pub new_made : (n : ℕ) (xs : List Signed) → AreMade xs (new_pages n)
new_made zero xs = All-nil (IsMade xs)
new_made (suc n) xs = All-cons (IsMade xs) (new_page n) (new_pages n) (none_among (signed_by (2 ^ n) xs)) (new_made n xs)

pub new_powers : (n : ℕ) → ArePowers (new_pages n)
new_powers zero = All-nil IsPower
new_powers (suc n) = All-cons IsPower (new_page n) (new_pages n) (n, refl) (new_powers n)

pub new_length : (n : ℕ) → length (new_pages n) ≡ n
new_length zero = refl
new_length (suc n) = ap suc (new_length n)

pub new_sizes : (n : ℕ) → sum_by size_of (new_pages n) ≡ 0
new_sizes zero = refl
new_sizes (suc n) = omega (arith, new_sizes n, sum_by-cons size_of (new_page n) (new_pages n))

pub new_marks : (n : ℕ) → sum_by mark_of (new_pages n) + 1 ≡ 2 ^ n
new_marks zero = refl
new_marks (suc n) = omega (arith, new_marks n, sum_by-cons mark_of (new_page n) (new_pages n), pow-succ' 2 n)

-- pages added to pages
pub both_made : (ps qs : List Page) (xs : List Signed) → AreMade xs ps → AreMade xs qs → AreMade xs (ps ++ qs)
both_made [] qs xs a b = b
both_made (p ∷ ps) qs xs a b = All-cons (IsMade xs) p (ps ++ qs) (All-head (IsMade xs) p ps a) (both_made ps qs xs (All-tail (IsMade xs) p ps a) b)

pub both_powers : (ps qs : List Page) → ArePowers ps → ArePowers qs → ArePowers (ps ++ qs)
both_powers [] qs a b = b
both_powers (p ∷ ps) qs a b = All-cons IsPower p (ps ++ qs) (All-head IsPower p ps a) (both_powers ps qs (All-tail IsPower p ps a) b)

-- the page of the last entry of a journal
same_mark : (m : ℕ) (b : Bool) → (m == m) ≡ b → b ≡ true
same_mark m true is = refl
same_mark m false is = grind (arith, nat_tests)

pub signed_last : (m : ℕ) (e : Entry) (xs : List Signed) → signed_by m (xs ++ record { mark = m; entry = e } ∷ []) ≡ signed_by m xs ++ e ∷ []
signed_last m e xs =
    signed_more m xs (record { mark = m; entry = e } ∷ []) ∙ ap (λ b. signed_by m xs ++ with_first b e []) (same_mark m (m == m) refl)

pub made_last : (p : Page) (e : Entry) (xs ys : List Signed) → IsPrefix xs ys → IsMade xs p → IsMade (ys ++ record { mark = p.mark; entry = e } ∷ []) (on_page p e)
made_last p e xs ys pre made =
    subst (IsAmong (p.made ++ e ∷ [])) (sym (signed_last p.mark e ys)) (among_one e (signed_longer p.mark xs ys pre made))

pub one_page : (P : Page → Type 0) (p : Page) → P p → All P (p ∷ [])
one_page P p holds = All-cons P p [] holds (All-nil P)

-- a list of one page is that of its first page
pub one_first : (ps : List Page) (p : Page) → ps ≡ p ∷ [] → ps ≡ first_page ps ∷ []
one_first ps p is = is ∙ ap (λ (qs : List Page). first_page qs ∷ []) (sym is)

-- each list ends with nothing
pub ends_none : (all own : List Entry) → own ≡ [] → EndsWith all own
ends_none all own none = record { before = all; is = sym (append-nil all) ∙ ap (λ (es : List Entry). all ++ es) (sym none) }

pub ends_one : (all own : List Entry) (e : Entry) → EndsWith all own → EndsWith (all ++ e ∷ []) (own ++ e ∷ [])
ends_one all own e ends =
    record { before = ends.before; is = ap (λ (es : List Entry). es ++ e ∷ []) ends.is ∙ append_assoc ends.before own (e ∷ []) }

-- the first of new pages, and the others
pub new_rest : (count : ℕ) (ps : List Page) → 0 < count → ps ≡ new_pages count → drop 1 ps ≡ new_pages (count - 1)
new_rest zero ps some is = absurd (omega arith)
new_rest (suc n) ps some is = ap (drop 1) is ∙ ap new_pages (omega arith)

-- ---- what shares count

pub weighs_new_sizes : (n parts amount : ℕ) (ps : List Page) → ps ≡ new_pages n → parts ≡ n → amount ≡ 0 → Weighs size_of parts amount ps
weighs_new_sizes n parts amount ps is one none =
    record { one_each = omega (arith, one, ap length is, new_length n); sum = none ∙ (sym (new_sizes n) ∙ ap (sum_by size_of) (sym is)) }

pub weighs_new_marks : (n parts amount : ℕ) (ps : List Page) → ps ≡ new_pages n → parts ≡ n → amount + 1 ≡ 2 ^ n → Weighs mark_of parts amount ps
weighs_new_marks n parts amount ps is one ones =
    record { one_each = omega (arith, one, ap length is, new_length n); sum = omega (arith, ones, new_marks n, ap (sum_by mark_of) is) }

-- after the first of new pages was split off
pub marks_left : (count amount left : ℕ) (ps : List Page) → 0 < count → ps ≡ new_pages count → amount ≡ sum_by mark_of ps → left + 2 ^ (count - 1) ≡ amount → left + 1 ≡ 2 ^ (count - 1)
marks_left zero amount left ps some is sum rest = absurd (omega arith)
marks_left (suc n) amount left ps some is sum rest =
    let same : 2 ^ (suc n - 1) ≡ 2 ^ n = ap (λ k. 2 ^ k) (omega arith) in
    omega (arith, same, sum, rest, ap (sum_by mark_of) is, new_marks (suc n), pow-succ' 2 n)

pub weighs_both : (f : Page → ℕ) (p a q b p2 a2 : ℕ) (ps qs rs : List Page) → Weighs f p a ps → Weighs f q b qs → p2 ≡ p + q → a2 ≡ a + b → rs ≡ ps ++ qs → Weighs f p2 a2 rs
weighs_both f p a q b p2 a2 ps qs rs v w parts amount is =
    record {
      one_each = omega (arith, parts, v.one_each, w.one_each, ap length is, length-append ps qs);
      sum = omega (arith, amount, v.sum, w.sum, ap (sum_by f) is, sum_by-append f ps qs);
    }

pub size_turned : (p a p2 a2 : ℕ) (ps rs : List Page) (q : Page) (e : Entry) → ps ≡ q ∷ [] → rs ≡ on_page q e ∷ [] → Weighs size_of p a ps → p2 ≡ p → a2 ≡ a + 1 → Weighs size_of p2 a2 rs
size_turned p a p2 a2 ps rs q e one is w parts amount =
    record {
      one_each = omega (arith, parts, w.one_each, ap length one, ap length is);
      sum = omega (arith, amount, w.sum, ap (sum_by size_of) one, ap (sum_by size_of) is, sum_by-cons size_of q [], sum_by-cons size_of (on_page q e) [], length-append q.made (e ∷ []));
    }

pub mark_turned : (p a : ℕ) (ps rs : List Page) (q : Page) (e : Entry) → ps ≡ q ∷ [] → rs ≡ on_page q e ∷ [] → Weighs mark_of p a ps → Weighs mark_of p a rs
mark_turned p a ps rs q e one is w =
    record {
      one_each = omega (arith, w.one_each, ap length one, ap length is);
      sum = omega (arith, w.sum, ap (sum_by mark_of) one, ap (sum_by mark_of) is, sum_by-cons mark_of q [], sum_by-cons mark_of (on_page q e) []);
    }

pub of_one : (P : Page → Type 0) (ps : List Page) (q : Page) → ps ≡ q ∷ [] → All P ps → P q
of_one P ps q is all = All-head P q [] (subst (λ (qs : List Page). All P qs) is all)
