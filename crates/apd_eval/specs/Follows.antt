-- What the packets of a capture lead to at an access point whose programs are tried.
use Rattle.std.specs.Prelude.{◌≡◌, ℕ, ◌+◌, ◌-◌, ◌==◌, ◌&&◌, nat_lt, nat_le, min, max, List, [], ◌∷◌, ◌++◌, length, Option, Some, None, Result, Ok, Err, if◌then◌else◌, Bool, true, false}
use Rattle.bpf_regions.specs.declared.hooks.Hook.{Hook}
use Rattle.bpf_regions.specs.Hooks.{number_of}
use Rattle.apd_eval.specs.Metered.{Metered}
use Rattle.capture.specs.Packets.{Seen}
use Rattle.capture.specs.declared.fault.LeftOut.{LeftOut}
use Rattle.ap_model.specs.declared.event.Event.TheVariants as event
use Rattle.ap_core.specs.declared.shard.Shard.{Shard}
use Rattle.apd_policies.specs.Script.{unit_of}
use Rattle.apd_eval.specs.Leading.{Happens}
use Rattle.apd_eval.specs.declared.ruling.Ruling.{Ruling}
use Rattle.apd_eval.specs.declared.row.Row.{Row}
use Rattle.apd_eval.specs.declared.tried.Policy.{Policy}

-- nothing happens
pub record Stays (last : Option Ruling) (shards : List Shard) (h : Metered) (shards' : List Shard) (h' : Metered) : Type 0 where
  pub unasked : last ≡ None
  pub shards_stay : shards' ≡ shards
  pub held_stays : h' ≡ h

-- the first of two facts if the test holds, and else the second
abbrev pub Chosen : Bool → Type 0 → Type 0 → Type 0
Chosen true A B = A
Chosen false A B = B

-- the time from a unit to a later one passes, at most 2^32 - 1 units
abbrev pub TimePasses : Policy → ℕ → ℕ → Option Ruling → List Shard → Metered → List Shard → Metered → Type 0
TimePasses p clock now last shards h shards' h' =
    Chosen (nat_lt clock now) (Happens p (event.Tick (min (now - clock) 4294967295)) last shards h shards' h')
    (Stays last shards h shards' h')

-- frames that are received have 1 to 2400 bytes
abbrev pub is_received : List ℕ → Bool
is_received bytes = nat_le 1 (length bytes) && nat_le (length bytes) 2400

-- the frame is received, if the packet has one
abbrev pub FrameComes : Policy → Result (List ℕ) LeftOut → Option Ruling → List Shard → Metered → List Shard → Metered → Type 0
FrameComes p (Ok bytes) last shards h shards' h' =
    Chosen (is_received bytes) (Happens p (event.Frame bytes) last shards h shards' h')
    (Stays last shards h shards' h')
FrameComes p (Err left_out) last shards h shards' h' = Stays last shards h shards' h'

-- time passes up to a packet, and then its frame is received
pub record PacketComes (p : Policy) (clock now : ℕ) (frame : Result (List ℕ) LeftOut) (last : Option Ruling) (shards : List Shard) (h : Metered) (shards' : List Shard) (h' : Metered) : Type 0 where
  pub tick : Option Ruling
  pub between : List Shard
  pub held : Metered
  pub time : TimePasses p clock now tick shards h between held
  pub comes : FrameComes p frame last between held shards' h'

-- the row of a packet: its last query, if that was of this hook
abbrev pub rows_of : Hook → ℕ → Option Ruling → List Row
rows_of hook number None = []
rows_of hook number (Some r) =
    (if number_of r.hook == number_of hook then record { packet = number; ruling = r } ∷ [] else [])

-- the rows of the packets from this number on; `clock` is the latest unit so far
abbrev pub Follows : Policy → ℕ → ℕ → ℕ → List Shard → Metered → List Seen → List Row → List Shard → Metered → Type 0
Follows p start number clock shards h [] rows shards' h' = (rows ≡ []) × (shards' ≡ shards) × (h' ≡ h)
Follows p start number clock shards h (packet ∷ packets) rows shards' h' =
    (last : Option Ruling) × (between : List Shard) × (held : Metered) × (more : List Row)
    × PacketComes p clock (unit_of start packet.time) packet.frame last shards h between held
    × (rows ≡ rows_of p.hook number last ++ more)
    × Follows p start (number + 1) (max clock (unit_of start packet.time)) between held packets more shards' h'
