-- The rule of a worker's queue: what was put is what was taken followed by what the queue holds, and each operator
-- knows what it put.
use Rattle.std.specs.Prelude.{◌≡◌, ◌==◌, ◌<◌, ◌≤◌, ℕ, true, false, List, [], ◌∷◌, ◌++◌, All, map, if◌then◌else◌}
use mathlib.Core.Option.{some}
use lib.ListN.{get_elem?}
use Rattle.ap_queues.specs.Items.{Item}
use Rattle.ap_queues.specs.declared.item.Queued.{Queued}
use Rattle.ap_queues.specs.declared.item.View.{View}

-- the items of one operator, in order
abbrev pub of : ℕ → List Queued → List Item
of p [] = []
of p (x ∷ xs) = if x.operator == p then x.item ∷ of p xs else of p xs

-- the items of all operators, in order
abbrev pub items_of : List Queued → List Item
items_of xs = map (λ x. x.item) xs

-- may do nothing
abbrev pub nobody : View
nobody =
    record {
      makes = false;
      made = 0;
      takes = false;
      taken = [];
      puts = false;
      operator = 0;
      put = [];
    }

-- makes operators, and has made n
abbrev pub maker : ℕ → View
maker n = record nobody { makes = true; made = n }

-- a worker, which has taken these
abbrev pub worker : List Queued → View
worker taken = record nobody { takes = true; taken = taken }

-- the operator p, which has put these items
abbrev pub operator : ℕ → List Item → View
operator p put = record nobody { puts = true; operator = p; put = put }

-- a worker, which has taken these, and meanwhile holds the handle of operator p
abbrev pub both : List Queued → ℕ → List Item → View
both taken p put =
    record nobody { takes = true; taken = taken; puts = true; operator = p; put = put }

-- holds the maker's handle too, which has made n operators
abbrev pub with_maker : View → ℕ → View
with_maker v n = record v { makes = true; made = n }

-- has returned the maker's handle
abbrev pub without_maker : View → View
without_maker v = record v { makes = false; made = 0 }

-- makes operators and takes
abbrev pub founder : View
founder = record nobody { makes = true; takes = true }

-- one handle makes operators, one takes, and each operator has one that puts; they know what was taken and what that
-- operator put
abbrev pub Fits : ℕ → ℕ → ℕ → (ℕ → ℕ) → List Queued → List Queued → ℕ → View → Type 0
Fits root taker made seat put taken pass v =
    (v.makes ≡ true → (pass ≡ root) × (v.made ≡ made))
    × (v.takes ≡ true → (pass ≡ taker) × (v.taken ≡ taken))
    × (v.puts ≡ true → (pass ≡ seat v.operator) × (v.operator < made) × (v.put ≡ of v.operator put))

-- what was taken is a prefix of what was put, in order, and the rest is in the queue; only operators that were made
-- put anything
abbrev pub OneQueue : List Queued → List View → Type 0
OneQueue items views =
    (root : ℕ) × (taker : ℕ) × (made : ℕ) × (seat : ℕ → ℕ)
    × (put : List Queued) × (taken : List Queued)
    × (put ≡ taken ++ items) × ((p : ℕ) → made ≤ p → of p put ≡ [])
    × ((pass : ℕ) (v : View) → get_elem? views pass ≡ some v →
    Fits root taker made seat put taken pass v)

-- this operator's items among these are the last that it put
abbrev pub EndsIn : View → List Queued → Type 0
EndsIn v items = (before : List Item) × (v.put ≡ before ++ of v.operator items)

-- this operator alone put all that was taken; what it put is what was taken, and then what the queue holds
pub record PutAll (v : View) (items : List Queued) : Type 0 where
  pub own : All (λ x. x.operator ≡ v.operator) v.taken
  pub put : v.put ≡ items_of v.taken ++ items_of items
