-- Finished states, the oldest first, and which of them covers a state.
use Rattle.std.specs.Prelude.{◌≡◌, ℕ, ◌-◌, List, [], ◌∷◌, ◌++◌, length, drop, Option, Some, None, if◌then◌else◌, slice_index_or, slice_set, true}
use Rattle.std.specs.List.{Contains as Has}
use Rattle.bpf_absstate.specs.View.{View}
use Rattle.bpf_absstate.specs.Inclusion.{state_included}
use Rattle.bpf_absstate.specs.WellFormed.{IsView}
use Rattle.bpf_prune.specs.declared.kept.Entry.{Entry}

-- the newest 64 entries, the oldest first; all, if there are no more
abbrev pub newest_of : List Entry → List Entry
newest_of es = drop (length es - 64) es

-- a new entry comes last, and the newest 64 stay
unfoldable pub with_newest : List Entry → Entry → List Entry
with_newest es e = newest_of (es ++ e ∷ [])

-- the first, if it exists, otherwise the second
abbrev pub or_else : Option ℕ → Option ℕ → Option ℕ
or_else (Some budget) other = Some budget
or_else None other = other

-- the budget of the newest entry whose state includes this one
unfoldable pub newest_covering : List Entry → View → Option ℕ
newest_covering [] a = None
newest_covering (e ∷ es) a =
    or_else (newest_covering es a) (if state_included a e.state then Some e.budget else None)

-- one of these entries has that budget, and its state, which is well formed, includes this one
pub record Covers (es : List Entry) (a : View) (budget : ℕ) : Type 0 where
  pub entry : Entry
  pub kept : Has es entry
  pub budget_is : entry.budget ≡ budget
  pub included : state_included a entry.state ≡ true
  pub whole : IsView entry.state

-- what is kept at a slot; nothing outside the table
abbrev pub kept_at : List (List Entry) → ℕ → List Entry
kept_at table pc = slice_index_or table pc []

-- the table, with an entry at the slot of its state
abbrev pub with_entry : List (List Entry) → Entry → List (List Entry)
with_entry table e = slice_set table e.state.pc (with_newest (kept_at table e.state.pc) e)
