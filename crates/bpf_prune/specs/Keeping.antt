-- What is left of states that are kept one after another.
use Rattle.std.specs.Prelude.{◌≡◌, ◌==◌, ◌<◌, ◌≤◌, ℕ, Bool, List, [], ◌∷◌, ◌++◌, length, filter}
use Rattle.bpf_prune.specs.declared.kept.Entry.{Entry}
use Rattle.bpf_prune.specs.Covering.{newest_of, kept_at, with_entry}

-- the table, after entries are kept one by one
unfoldable pub with_entries : List (List Entry) → List Entry → List (List Entry)
with_entries table [] = table
with_entries table (e ∷ es) = with_entries (with_entry table e) es

-- the entry's state is at that slot
abbrev pub is_at : ℕ → Entry → Bool
is_at pc e = e.state.pc == pc

-- the entries at a slot
abbrev pub those_at : ℕ → List Entry → List Entry
those_at pc es = filter (is_at pc) es

-- at least 64 of the entries are at the slot of e, and push it out there
abbrev pub PushesOut : List Entry → Entry → Type 0
PushesOut es e = 64 ≤ length (those_at e.state.pc es)

-- kept one by one, the newest 64 of each slot are left
abbrev pub KeepsNewest : Type 0
KeepsNewest =
    (table : List (List Entry)) (es : List Entry) (pc : ℕ) → pc < length table → 0 < length (those_at pc es) →
    kept_at (with_entries table es) pc ≡ newest_of (kept_at table pc ++ those_at pc es)

-- an entry that later ones push out may as well be left out
abbrev pub LeavesOut : Type 0
LeavesOut =
    (table : List (List Entry)) (e : Entry) (es : List Entry) → PushesOut es e → with_entries (with_entry table e) es ≡ with_entries table es
