-- Runs of a whole access point: eight shards.
use Rattle.std.specs.Prelude.{◌≡◌, ℕ, ◌<◌, ◌%◌, ◌==◌, Option, Some, None, List, [], ◌∷◌, ◌++◌, slice_index_or, if◌then◌else◌}
use Rattle.ap_model.specs.declared.event.Event.{Event}
use Rattle.ap_model.specs.declared.event.Event.TheVariants as event
use Rattle.ap_model.specs.declared.event.Out.{Out}
use Rattle.ap_model.specs.Asks.{Ask, Answered}
use Rattle.ap_model.specs.Readings.{Readings, Rules}
use Rattle.ap_model.specs.Runs.{Entry, Run}

-- the shard of an address: its last octet modulo 8
abbrev pub shard_of_address : List ℕ → ℕ
shard_of_address a = slice_index_or a 5 0 % 8

-- the shard that bytes concern: that of a frame's second address, whose last octet is byte 15; shard 0 if there is
-- none
abbrev pub shard_of_bytes : List ℕ → ℕ
shard_of_bytes bytes = slice_index_or bytes 15 0 % 8

-- the shard that an event concerns; a tick concerns all, so it has none here
abbrev pub shard_of : Event → Option ℕ
shard_of (event.Frame bytes) = Some (shard_of_bytes bytes)
shard_of (event.Tick n) = None
shard_of (event.Kick a reason) = Some (shard_of_address a)
shard_of (event.Close a tid) = Some (shard_of_address a)

-- what an access point handled: an entry at the shard of its event, or a tick at all eight shards with each shard's
-- outputs
pub data Turn : Type 0 where
  At : (shard : ℕ) → Entry → Turn
  Everywhere : (units : ℕ) → (ℕ → List Out) → Turn

-- the entries of one shard
abbrev pub entries_of : ℕ → List Turn → List Entry
entries_of s [] = []
entries_of s (At shard e ∷ turns) = if shard == s then e ∷ entries_of s turns else entries_of s turns
entries_of s (Everywhere units outs ∷ turns) = record { event = event.Tick units; asked = []; outs = outs s } ∷ entries_of s turns

-- the outputs; those of a tick are ordered by shard
abbrev pub outs_of : Turn → List Out
outs_of (At shard e) = e.outs
outs_of (Everywhere units outs) = outs 0 ++ (outs 1 ++ (outs 2 ++ (outs 3 ++ (outs 4 ++ (outs 5 ++ (outs 6 ++ outs 7))))))

-- the queries, with their answers
abbrev pub asked_of : List Turn → List (Ask × ℕ)
asked_of [] = []
asked_of (At shard e ∷ turns) = e.asked ++ asked_of turns
asked_of (Everywhere units outs ∷ turns) = asked_of turns

-- these turns are these events, each with its outputs; a refused event has no turn
pub data AreTurns : List Event → List (Option (List Out)) → List Turn → Type 0 where
  no_event : AreTurns [] [] []
  refused : (e : Event) (events : List Event) (results : List (Option (List Out))) (turns : List Turn) →
      AreTurns events results turns → AreTurns (e ∷ events) (None ∷ results) turns
  at_its_shard : (e : Entry) (s : ℕ) (events : List Event) (results : List (Option (List Out))) (turns : List Turn) →
      shard_of e.event ≡ Some s → AreTurns events results turns → AreTurns (e.event ∷ events) (Some e.outs ∷ results) (At s e ∷ turns)
  ticked : (n : ℕ) (outs : ℕ → List Out) (events : List Event) (results : List (Option (List Out))) (turns : List Turn) →
      AreTurns events results turns → AreTurns (event.Tick n ∷ events) (Some (outs_of (Everywhere n outs)) ∷ results) (Everywhere n outs ∷ turns)

-- the rules at each index are those of the shard with that number
abbrev pub InPlace : (ℕ → Rules) → Type 0
InPlace c = (s : ℕ) → s < 8 → (c s).shard ≡ s

-- a link run of an access point: for each shard, its entries are a run
abbrev pub LinkRun : (ℕ → Rules) → (ℕ → Readings) → List Turn → (ℕ → Readings) → Type 0
LinkRun c r turns r2 = (s : ℕ) → s < 8 → Run (c s) (r s) (entries_of s turns) (r2 s)

-- what events lead to at an access point from these readings: each event has its outputs or was refused, as turns of
-- the shards say, whose entries are a link run and whose queries the judge answered
pub record EventsLead {S : Type 0} (R : S → Ask → ℕ → S → Type 0) (c : ℕ → Rules) (r : ℕ → Readings) (events : List Event) (j : S)
    (results : List (Option (List Out))) (r2 : ℕ → Readings) (j2 : S) : Type 0 where
  pub turns : List Turn
  pub are : AreTurns events results turns
  pub run : LinkRun c r turns r2
  pub listed : Answered R j (asked_of turns) j2
