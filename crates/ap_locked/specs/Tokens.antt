-- A right to decide events at a shard.
use Rattle.std.specs.Prelude.{◌≡◌, ◌<◌, ℕ, List, [], ◌∷◌, ◌++◌}
use mathlib.Core.List.{IsPrefix}
pub use Rattle.ap_core.specs.Handles.{rules}
use Rattle.ap_model.specs.Readings.{Readings, Rules}
use Rattle.ap_model.specs.Runs.{Entry, Run, opening}
use Rattle.ap_books.specs.Counts.{Portion, counts_in, none}
use Rattle.ap_locked.specs.Pages.{Page, Signed, AreWhole, entries_of}

-- the entries of the first list are in the second, in order, each at a position of its own
pub data IsAmong : List Entry → List Entry → Type 0 where
  nothing : IsAmong [] []
  another : (own all : List Entry) (e : Entry) → IsAmong own all → IsAmong own (e ∷ all)
  its_own : (own all : List Entry) (e : Entry) → IsAmong own all → IsAmong (e ∷ own) (e ∷ all)

-- parts of the shard's ledgers, the seen entries of its journal, one's own entries since the parts were exchanged, and
-- the page with all entries of one's own
pub record Token : Type 0 where
  pub portion : Portion
  pub seen : List Entry
  pub own : List Entry
  pub page : Page

-- a shard with this number and configuration handled these entries from the opening, each as a step of the link
pub record AreHandled (c : Rules) (entries : List Entry) : Type 0 where
  pub readings : Readings
  pub run : Run c opening entries readings

-- parts of the shard's ledgers that have counted exactly what it handled, from the opening on
pub record CountJournal (c : Rules) (p : Portion) : Type 0 where
  pub journal : List Entry
  pub handled : AreHandled c journal
  pub counted : p.counts ≡ counts_in journal

-- The pages together are the journal of what the shard handled, each entry at its own place, and these parts of its
-- ledgers have counted exactly that.
pub record AreTheJournal (c : Rules) (p : Portion) (pages : List Page) : Type 0 where
  pub journal : List Signed
  pub handled : AreHandled c (entries_of journal)
  pub whole : AreWhole pages journal
  pub counted : p.counts ≡ counts_in (entries_of journal)

-- the second list is the end of the first
pub record EndsWith (all last : List Entry) : Type 0 where
  pub before : List Entry
  pub is : all ≡ before ++ last

-- what holds of each token of this shard: it has a part, the shard handled the seen entries, its own are among them and
-- are the last on its page, and its parts have counted its own
pub record IsToken (c : Rules) (t : Token) : Type 0 where
  pub some : 0 < t.portion.parts
  pub handled : AreHandled c t.seen
  pub among : IsAmong t.own t.seen
  pub counted : t.portion.counts ≡ counts_in t.own
  pub on_page : EndsWith t.page.made t.own

-- a token with this many parts, which has seen these entries, has none of its own, and writes on this page
abbrev pub newcomer : ℕ → List Entry → Page → Token
newcomer parts seen page =
    record { portion = record { parts = parts; counts = none }; seen = seen; own = []; page = page }

-- the token may have seen more; nothing else changed
pub record KeepsOwn (t t2 : Token) : Type 0 where
  pub portion : t2.portion ≡ t.portion
  pub own : t2.own ≡ t.own
  pub page : t2.page ≡ t.page
  pub seen : IsPrefix t.seen t2.seen
