-- What entries count, one at a time.
use Rattle.std.proofs.Common.{◌≡◌, ℕ, ◌+◌, List, [], ◌∷◌, ◌++◌, arith, refl}
use Rattle.std.proofs.lemmas.List.Sums.{sum_by-append}
use Rattle.std.specs.Prelude.{sum_by}
use Rattle.ap_model.specs.Runs.{Entry}
use Rattle.ap_books.specs.Counts.{none, plus, entry_counts, counts_in}

-- a sum with one more term
one_more : (f : Entry → ℕ) (es : List Entry) (e : Entry) → sum_by f (es ++ e ∷ []) ≡ sum_by f es + f e
one_more f es e = omega (arith, sum_by-append f es (e ∷ []))

-- the empty list counts nothing
pub counts_in-none : counts_in [] ≡ none
counts_in-none = refl

-- one more entry adds what it counts
pub counts_in-one : (es : List Entry) (e : Entry) → counts_in (es ++ e ∷ []) ≡ plus (counts_in es) (entry_counts e)
counts_in-one es e i =
    record {
      events = one_more (λ x. (entry_counts x).events) es e i;
      sent = one_more (λ x. (entry_counts x).sent) es e i;
      up = one_more (λ x. (entry_counts x).up) es e i;
      dropped = one_more (λ x. (entry_counts x).dropped) es e i;
      notes = one_more (λ x. (entry_counts x).notes) es e i;
    }
