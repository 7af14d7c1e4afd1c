-- What a shard's lock guards, and how one event changes it.
use Rattle.std.specs.Prelude.{◌≡◌, ℕ, Bool, List, [], ◌∷◌, ◌++◌}
use mathlib.Core.List.{IsPrefix}
use Rattle.ap_model.specs.declared.event.Event.{Event}
use Rattle.ap_model.specs.declared.event.Out.{Out}
use Rattle.ap_model.specs.Asks.{Ask, Answered}
use Rattle.ap_model.specs.Drops.{drops}
use Rattle.ap_model.specs.Readings.{Readings, Rules}
use Rattle.ap_model.specs.Runs.{Entry, Run, opening}
use Rattle.ap_model.specs.Steps.{Step}
use Rattle.ap_core.specs.declared.shard.Shard.{Shard}
use Rattle.ap_core.specs.Shards.{reads, ruled}
use Rattle.ap_books.specs.Counts.{Counts, plus, gains, counts_of, counts_in}
use Rattle.ap_locked.specs.Pages.{on_page}
use Rattle.ap_locked.specs.Tokens.{Token}

-- the shard, the entries of its journal, and what its books have counted
pub record Kept : Type 0 where
  pub shard : Shard
  pub journal : List Entry
  pub counts : Counts

-- the shard's number and configuration
abbrev pub rules_of : Kept → Rules
rules_of k = ruled k.shard

-- what its next step needs of its history
abbrev pub readings_of : Kept → Readings
readings_of k = reads k.shard

-- what holds under the lock of the shard with this number and configuration: the journal's entries lead from the
-- opening to the readings, each as a step of the link, and the books have counted exactly these entries
pub record Holds (c : Rules) (k : Kept) : Type 0 where
  pub rules : rules_of k ≡ c
  pub run : Run c opening k.journal (readings_of k)
  pub counted : k.counts ≡ counts_in k.journal

-- the entry of an event
abbrev pub entry_of : Event → List (Ask × ℕ) → List Out → Entry
entry_of event asked outs = record { event = event; asked = asked; outs = outs }

-- the event is one step of the link with these outputs and the judge's verdicts, and the flag says whether one of
-- these dropped data. The journal gains exactly its entry, the books and the token's parts its counts. The token,
-- which had seen a prefix of the journal, then has seen all of it, and gains exactly this entry of its own, on its page.
pub record Decided {S : Type 0} (R : S → Ask → ℕ → S → Type 0) (k : Kept) (t : Token) (event : Event) (j : S) (outs : List Out) (dropped : Bool)
    (k2 : Kept) (t2 : Token) (j2 : S) : Type 0 where
  pub asked : List (Ask × ℕ)
  pub listed : Answered R j asked j2
  pub flag : dropped ≡ drops asked
  pub step : Step (rules_of k) (readings_of k) event asked outs (readings_of k2)
  pub rules : rules_of k2 ≡ rules_of k
  pub journal : k2.journal ≡ k.journal ++ entry_of event asked outs ∷ []
  pub counts : k2.counts ≡ plus k.counts (counts_of outs dropped)
  pub had_seen : IsPrefix t.seen k.journal
  pub seen : t2.seen ≡ k2.journal
  pub own : t2.own ≡ t.own ++ entry_of event asked outs ∷ []
  pub page : t2.page ≡ on_page t.page (entry_of event asked outs)
  pub portion : t2.portion ≡ gains t.portion (counts_of outs dropped)
