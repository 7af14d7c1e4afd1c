-- The queries of rows: each is about the frame of its packet. The steps of their runs are counted, and no others.
use Rattle.std.specs.Prelude.{◌≡◌, ◌==◌, ℕ, false, List, [], ◌∷◌, Option, Some, None}
use Rattle.bpf_regions.specs.declared.hooks.Hook.{Hook}
use Rattle.bpf_regions.specs.Hooks.{number_of}
use Rattle.bpf_helpers.specs.Hooked.{Given}
use Rattle.apd_eval.specs.Metered.{Metered}
use Rattle.capture.specs.Packets.{Seen}
use Rattle.ap_model.specs.declared.event.Event.{Event}
use Rattle.ap_model.specs.declared.event.Event.TheVariants as event
use Rattle.ap_model.specs.Asks.{Ask}
use Rattle.ap_model.specs.Readings.{Config}
use Rattle.ap_core.specs.declared.shard.Shard.{Shard}
use Rattle.ap_core.specs.AccessPoints.{AreFresh}
use Rattle.program_judge.specs.Programs.{program_at}
use Rattle.apd_policies.specs.Script.{start_of}
use Rattle.apd_eval.specs.Again.{query_of}
use Rattle.apd_eval.specs.Follows.{Follows}
use Rattle.apd_eval.specs.Rulings.{IsRuling}
use Rattle.apd_eval.specs.declared.ruling.Ruling.{Ruling}
use Rattle.apd_eval.specs.declared.row.Row.{Row}
use Rattle.apd_eval.specs.declared.tried.Policy.{Policy}

-- no other hook has a program
pub record IsAlone (p : Policy) : Type 0 where
  pub others : (hook : Hook) → (number_of hook == number_of p.hook) ≡ false → program_at hook p.programs.now ≡ None

-- the ruling of programs on a query about the frame of an event; its run takes the counts of steps from one list to another
pub record IsRuledOn (p : Policy) (e : Event) (counts : List ℕ) (r : Ruling) (counts' : List ℕ) : Type 0 where
  pub given : Given
  pub before : Metered
  pub after : Metered
  pub from : before.counts ≡ counts
  pub to : after.counts ≡ counts'
  pub ask : Ask
  pub came : e ≡ event.Frame ask.frame
  pub is : IsRuling given p.programs.now before ask r after

-- the last query of an event, if there was one; without a query the counts stay
abbrev pub IsLastOf : Policy → Event → List ℕ → Option Ruling → List ℕ → Type 0
IsLastOf p e counts None counts' = counts' ≡ counts
IsLastOf p e counts (Some r) counts' = IsRuledOn p e counts r counts'

-- The row is the ruling of programs on this hook, its context, and on the frame of its packet; its run takes the counts
-- of steps from one list to another.
pub record IsAsked (p : Policy) (packets : List Seen) (counts : List ℕ) (row : Row) (counts' : List ℕ) : Type 0 where
  pub hook : row.ruling.hook ≡ p.hook
  pub given : Given
  pub before : Metered
  pub after : Metered
  pub from : before.counts ≡ counts
  pub to : after.counts ≡ counts'
  pub is : IsRuling given p.programs.now before (query_of packets row) row.ruling after

-- each row is, one after another
abbrev pub AreAsked : Policy → List Seen → List ℕ → List Row → List ℕ → Type 0
AreAsked p packets counts [] counts' = counts' ≡ counts
AreAsked p packets counts (row ∷ rows) counts' =
    (mid : List ℕ) × IsAsked p packets counts row mid × AreAsked p packets mid rows counts'

-- the rows of a whole capture at a new access point
pub record IsFollowed (p : Policy) (config : Config) (packets : List Seen) (h : Metered) (rows : List Row) (h' : Metered) : Type 0 where
  pub shards : List Shard
  pub fresh : AreFresh config shards
  pub shards' : List Shard
  pub follows : Follows p (start_of packets) 1 0 shards h packets rows shards' h'
  pub asked : AreAsked p packets h.counts rows h'.counts
