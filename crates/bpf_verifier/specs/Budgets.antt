-- The budgets left at slots: for each slot the greatest with which a state there was finished, 0 if none was.
use Rattle.std.specs.Prelude.{ℕ, ◌+◌, ◌-◌, ◌^◌, ◌==◌, min, max, List, [], ◌∷◌, length, take, drop, Option, Some, None, if◌then◌else◌, slice_index, slice_set}
use Rattle.bpf_verifier.specs.declared.observer.Heard.{Heard}
use Rattle.bpf_verifier.specs.declared.observer.Observer.{Observer}

-- the budgets once a state at a slot is finished with this one, too
abbrev pub raised : List ℕ → ℕ → ℕ → List ℕ
raised budgets slot budget = slice_set budgets slot (max (slice_index budgets slot) budget)

-- the budgets once the states at these slots are finished, of which each leads to the next: the last with this budget,
-- each other with one step more than the next, but none with more than 2^32 - 1
unfoldable pub raised_along : List ℕ → List ℕ → ℕ → List ℕ
raised_along budgets [] budget = budgets
raised_along budgets (slot ∷ slots) budget =
    raised_along (raised budgets slot (min (budget + length slots) (2 ^ 32 - 1))) slots budget

-- where on a path the states begin that follow the newest of so many kept ones
abbrev pub start_of : List ℕ → ℕ → ℕ
start_of starts kept = (if kept == 0 then 0 else slice_index starts (kept - 1))

-- the slots of the first so many states there, and of the one that comes next
abbrev pub slots_after : Heard → ℕ → ℕ → List ℕ
slots_after h kept after = take (after + 1) (drop (start_of h.starts.items kept) h.path.items)

-- the budgets of an observer, if it records any
abbrev pub budgets_of : Observer → List ℕ
budgets_of o = budgets_in o.heard where
  budgets_in : Option Heard → List ℕ
  budgets_in None = []
  budgets_in (Some h) = h.budgets.items

-- they, once the state after so many others is finished with this budget, and those others
abbrev pub ended : Observer → ℕ → ℕ → ℕ → List ℕ
ended o kept after budget = ended_in o.heard where
  ended_in : Option Heard → List ℕ
  ended_in None = []
  ended_in (Some h) = raised_along h.budgets.items (slots_after h kept after) budget
