-- The agreements of a shard: how contracts see them, and how they are looked up.
use Rattle.std.specs.Prelude.{◌≡◌, ℕ, ◌+◌, ◌<◌, ◌≤◌, nat_le, Bool, true, cond, Option, Some, None, List, [], ◌∷◌, length, slice_index_or, sum_by, ◌==◌, ◌&&◌, if◌then◌else◌, AllPairs}
use Rattle.std.specs.Ordering.{nat_cmp, ordering_then}
use Rattle.std.specs.declared.cmp.Ordering.{Ordering}
use Rattle.std.specs.declared.cmp.Ordering.TheVariants.{Less, Greater}
use Rattle.std.specs.Cmp.Lexicographic.{slice_cmp}
use Rattle.assoc.specs.Standings.{same_address}
use Rattle.blockack.specs.Reading.{numbers_held}
use Rattle.blockack.specs.Sinks.{ReceivesAll}
use Rattle.ap_model.specs.Readings.{Using, Held}
use Rattle.ap_agreements.specs.Uses.{DataUse, AloneUse, RequestUse}

-- an agreement, with its station and TID
pub record Kept : Type 0 where
  pub station : List ℕ
  pub tid : ℕ
  pub using : Using

-- the station and the TID of an agreement
abbrev pub key_of : Kept → List ℕ × ℕ
key_of k = (k.station, k.tid)

-- the order of keys: by the first octet in which the addresses differ, then by the TID
abbrev pub key_cmp : List ℕ × ℕ → List ℕ × ℕ → Ordering
key_cmp p q = ordering_then (slice_cmp nat_cmp p.0 q.0) (nat_cmp p.1 q.1)

-- the agreements are in strictly increasing order of keys
abbrev pub IsRising : List Kept → Type 0
IsRising ks = AllPairs (λ p q. key_cmp (key_of p) (key_of q) ≡ Less) ks

-- the agreement of this key is at this index
pub record IsPlaceOf (ks : List Kept) (key : List ℕ × ℕ) (at : ℕ) : Type 0 where
  pub inside : at < length ks
  pub is : (d : Kept) → key_of (slice_index_or ks at d) ≡ key

-- this key has no agreement, and would have this index
pub record IsPlaceFor (ks : List Kept) (key : List ℕ × ℕ) (at : ℕ) : Type 0 where
  pub inside : at ≤ length ks
  pub below : (k : ℕ) (d : Kept) → k < at → key_cmp (key_of (slice_index_or ks k d)) key ≡ Less
  pub above : (k : ℕ) (d : Kept) → at ≤ k → k < length ks → key_cmp (key_of (slice_index_or ks k d)) key ≡ Greater

-- what contracts see of a table: its agreements, and how many more it has room for
pub record Table : Type 0 where
  pub kept : List Kept
  pub room : ℕ

-- whether it is the agreement of station a for a TID
abbrev pub is_for : List ℕ → ℕ → Kept → Bool
is_for a tid k = same_address k.station a && (k.tid == tid)

-- the agreement of station a for a TID
abbrev pub agreement_in : List Kept → List ℕ → ℕ → Option Using
agreement_in [] a tid = None
agreement_in (k ∷ ks) a tid = if is_for a tid k then Some k.using else agreement_in ks a tid

-- how many numbers an agreement's window holds; 0 without an agreement
abbrev pub held_under : Option Using → ℕ
held_under None = 0
held_under (Some u) = numbers_held u.window

-- k, the agreement of station a for a TID, is at this index
pub record Stands (ks : List Kept) (a : List ℕ) (tid at : ℕ) (k : Kept) : Type 0 where
  pub place : IsPlaceOf ks (a, tid) at
  pub is : (d : Kept) → slice_index_or ks at d ≡ k
  pub agreed : agreement_in ks a tid ≡ Some k.using

-- the agreement of station a for a TID becomes u, and no other changes
abbrev pub Sets : List Kept → List ℕ → ℕ → Option Using → List Kept → Type 0
Sets old a tid u new = (q : List ℕ) (t : ℕ) → agreement_in new q t ≡ cond (same_address a q && (tid == t)) u (agreement_in old q t)

-- all agreements of station a are removed, and no other changes
abbrev pub Discards : List Kept → List ℕ → List Kept → Type 0
Discards old a new = (q : List ℕ) (t : ℕ) → agreement_in new q t ≡ cond (same_address a q) None (agreement_in old q t)

-- the agreement, if it exists, changes as data changes its window; no other changes
abbrev pub UsesData : Bool → List Kept → List ℕ → ℕ → ℕ → Option Held → ℕ → List Kept → List (ℕ × Held) → Type 0
UsesData took old a tid number item clock new passed =
    (u : Using) → agreement_in old a tid ≡ Some u → (u2 : Using) × DataUse took number item clock u u2 passed × Sets old a tid (Some u2) new

-- the agreement changes as data that is taken changes its window, and a sink receives what this passes up
pub record PassesData {S : Type 0} (R : S → ℕ → Held → S → Type 0) (old : List Kept) (a : List ℕ) (tid number : ℕ) (item : Option Held) (clock : ℕ) (new : List Kept) (sink sink2 : S) : Type 0 where
  pub passed : List (ℕ × Held)
  pub uses : UsesData true old a tid number item clock new passed
  pub received : ReceivesAll R sink passed sink2

-- as `UsesData`, for data that is passed up at once, and nothing after it, whatever its item
abbrev pub UsesAlone : List Kept → List ℕ → ℕ → ℕ → ℕ → List Kept → Type 0
UsesAlone old a tid number clock new =
    (u : Using) → agreement_in old a tid ≡ Some u → (u2 : Using) × AloneUse number clock u u2 × Sets old a tid (Some u2) new

-- the same for a BlockAckReq, after which this is the scoreboard
abbrev pub UsesRequest : List Kept → List ℕ → ℕ → ℕ → ℕ → List Kept → List (ℕ × Held) → ℕ × ℕ → Type 0
UsesRequest old a tid start clock new passed board =
    (u : Using) → agreement_in old a tid ≡ Some u →
    (u2 : Using) × RequestUse start clock u u2 passed × Sets old a tid (Some u2) new
    × (board.0 ≡ u2.window.scoreboard_start) × (board.1 ≡ u2.window.scoreboard_bits)

-- the agreement has a timeout, and was unused for at least that long
abbrev pub is_late : ℕ → Using → Bool
is_late clock u = nat_le 1 u.timeout && nat_le (u.last_use + u.timeout) clock

-- how many numbers the windows of these agreements hold in all
abbrev pub all_held : List Kept → ℕ
all_held ks = sum_by (λ k. numbers_held k.using.window) ks

-- how many numbers the windows of the timed-out agreements hold in all
abbrev pub late_held : ℕ → List Kept → ℕ
late_held clock ks = sum_by (λ k. cond (is_late clock k.using) (numbers_held k.using.window) 0) ks

-- k is in the table, and has timed out
pub record IsLateIn (clock : ℕ) (ks : List Kept) (k : Kept) : Type 0 where
  pub is : agreement_in ks k.station k.tid ≡ Some k.using
  pub late : is_late clock k.using ≡ true

-- an agreement, unless it has timed out
abbrev pub unless_late : ℕ → Option Using → Option Using
unless_late clock None = None
unless_late clock (Some u) = if is_late clock u then None else Some u
