-- Counting reports in consecutive lists.
use Rattle.std.proofs.Common.{◌≡◌, ℕ, ◌+◌, List, [], ◌∷◌, ◌++◌, refl, sym, ap, subst, ◌∙◌, append_assoc, append-nil, add_assoc, add-zero, zero-add}
use Rattle.std.specs.List.{sum_by}
use Rattle.std.proofs.lemmas.List.Sums.{sum_by-append}
use Rattle.ap_books.specs.Counts.{Counts, none, plus}
use Rattle.apd_driver.specs.declared.reports.report.Report.{Report}
use Rattle.apd_driver.specs.Tallies.{told_counts, report_counts, tallied}
use Rattle.apd_driver.specs.Crews.{Crew, gains, with_work, Collects}
use Rattle.apd_driver.specs.Following.{FromNone, FromOneMore, TakesAll}
use Rattle.apd_driver.specs.Semantics.{Semantics}
use Rattle.apd_driver.specs.Tells.{Tells}

both : (f : Report → ℕ) (n : ℕ) (xs ys : List Report) → n + sum_by f xs + sum_by f ys ≡ n + sum_by f (xs ++ ys)
both f n xs ys = add_assoc n (sum_by f xs) (sum_by f ys) ∙ ap (λ m. n + m) (sym (sum_by-append f xs ys))

counts_append : (c : Counts) (xs ys : List Report) → plus (plus c (tallied xs)) (tallied ys) ≡ plus c (tallied (xs ++ ys))
counts_append c xs ys i =
    record {
      events = both (λ r. (report_counts r).events) c.events xs ys i;
      sent = both (λ r. (report_counts r).sent) c.sent xs ys i;
      up = both (λ r. (report_counts r).up) c.up xs ys i;
      dropped = both (λ r. (report_counts r).dropped) c.dropped xs ys i;
      notes = both (λ r. (report_counts r).notes) c.notes xs ys i;
    }

pub plus_none : (c : Counts) → plus c none ≡ c
plus_none c i =
    record {
      events = add-zero c.events i;
      sent = add-zero c.sent i;
      up = add-zero c.up i;
      dropped = add-zero c.dropped i;
      notes = add-zero c.notes i;
    }

pub none_plus : (c : Counts) → plus none c ≡ c
none_plus c i =
    record {
      events = zero-add c.events i;
      sent = zero-add c.sent i;
      up = zero-add c.up i;
      dropped = zero-add c.dropped i;
      notes = zero-add c.notes i;
    }

-- nothing was collected yet
pub collects_none : {s : Semantics} → (c : Crew s) (xs : List Report) → Collects c c xs xs
collects_none c xs =
    record {
      reports = [];
      listed = sym (append-nil xs);
      taken = FromNone;
      counted = λ i. record { workers = c.workers; counted = sym (plus_none c.counted) i; work = c.work };
    }

-- reports were taken over, and then more were
takes_more : (s : Semantics) (w0 w1 w2 : s.Work) (xs ys : List Report) → TakesAll s w0 w1 xs → TakesAll s w1 w2 ys → TakesAll s w0 w2 (xs ++ ys)
takes_more s w0 w1 w2 xs ys h FromNone = subst (λ (l : List Report). TakesAll s w0 w1 l) (sym (append-nil xs)) h
takes_more s w0 w1 w2 xs ys h (FromOneMore mid new reports more k one) =
    subst (λ (l : List Report). TakesAll s w0 new l) (append_assoc xs reports more) (FromOneMore mid new (xs ++ reports) more (takes_more s w0 w1 mid xs reports h k) one)

-- and then more was
pub collects_more : {s : Semantics} → (c d e : Crew s) (xs ys zs : List Report) → Collects c d xs ys → Collects d e ys zs → Collects c e xs zs
collects_more {s} c d e xs ys zs h k =
    record {
      reports = h.reports ++ k.reports;
      listed = k.listed ∙ ap (λ l. l ++ k.reports) h.listed ∙ append_assoc xs h.reports k.reports;
      taken = takes_more s c.work d.work e.work h.reports k.reports h.taken k.taken;
      counted = k.counted ∙ ap (λ (x : Crew s). with_work (gains x (tallied k.reports)) e.work) h.counted
          ∙ (λ i. record { workers = c.workers; counted = counts_append c.counted h.reports k.reports i; work = e.work });
    }

-- the operator has reported nothing
pub tells_none : (xs : List Report) → Tells xs xs
tells_none xs = record { reports = []; listed = sym (append-nil xs); nothing = refl }

pub tallied_joined : (xs ys : List Report) → tallied (xs ++ ys) ≡ plus (tallied xs) (tallied ys)
tallied_joined xs ys i =
    record {
      events = sum_by-append (λ r. (report_counts r).events) xs ys i;
      sent = sum_by-append (λ r. (report_counts r).sent) xs ys i;
      up = sum_by-append (λ r. (report_counts r).up) xs ys i;
      dropped = sum_by-append (λ r. (report_counts r).dropped) xs ys i;
      notes = sum_by-append (λ r. (report_counts r).notes) xs ys i;
    }

tallied_two : (xs ys : List Report) → tallied xs ≡ none → tallied ys ≡ none → tallied (xs ++ ys) ≡ none
tallied_two xs ys h k = tallied_joined xs ys ∙ ap (λ c. plus c (tallied ys)) h ∙ ap (plus none) k ∙ plus_none none

-- and then reports more
pub tells_more : (xs ys zs : List Report) → Tells xs ys → Tells ys zs → Tells xs zs
tells_more xs ys zs h k =
    record {
      reports = h.reports ++ k.reports;
      listed = k.listed ∙ ap (λ l. l ++ k.reports) h.listed ∙ append_assoc xs h.reports k.reports;
      nothing = tallied_two h.reports k.reports h.nothing k.nothing;
    }

counts_one : (r : Report) → told_counts r.told ≡ none → tallied (r ∷ []) ≡ none
unfolding report_counts
counts_one r h i =
    record {
      events = (zero-add (told_counts r.told).events ∙ ap (λ c. c.events) h) i;
      sent = (zero-add (told_counts r.told).sent ∙ ap (λ c. c.sent) h) i;
      up = (zero-add (told_counts r.told).up ∙ ap (λ c. c.up) h) i;
      dropped = (zero-add (told_counts r.told).dropped ∙ ap (λ c. c.dropped) h) i;
      notes = (zero-add (told_counts r.told).notes ∙ ap (λ c. c.notes) h) i;
    }

-- the operator appends one report that counts nothing
pub tells_one : (xs mid ys : List Report) (r : Report) → told_counts r.told ≡ none → mid ≡ xs → ys ≡ mid ++ r ∷ [] → Tells xs ys
tells_one xs mid ys r h d e = record { reports = r ∷ []; listed = e ∙ ap (λ l. l ++ r ∷ []) d; nothing = counts_one r h }
