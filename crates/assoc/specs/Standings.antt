-- The standings of a shard's stations (IEEE 802.11-2016, 11.3.1), and the association identifiers.
use Rattle.std.specs.Prelude.{◌≡◌, ℕ, ◌+◌, ◌*◌, ◌/◌, ◌%◌, ◌≤◌, Option, None, Some, cond, nat_eq, List, length, true, Bool, IsSome, is_some, count_by, slice_index_or}
use Rattle.std.specs.List.{IsDistinct, list_any}
use Rattle.std.specs.Cmp.Lexicographic.{pointwise}
use Rattle.std.specs.Map.{lookup}
use Rattle.assoc.specs.declared.standing.Known.{Known}
use Rattle.assoc.specs.declared.standing.Known.TheVariants.{Authenticated, Associated}

-- the standing of one station: None is State 1
abbrev pub Standing : Type 0
Standing = Option Known

-- the standing of each station, by the octets of its address
abbrev pub Standings : Type 0
Standings = List ℕ → Standing

-- whether two addresses are equal
abbrev pub same_address : List ℕ → List ℕ → Bool
same_address = pointwise nat_eq

-- the state of a known station: 2, or 3
abbrev pub known_state : Known → ℕ
known_state Authenticated = 2
known_state (Associated n) = 3

-- the number of the state
abbrev pub state_of : Standing → ℕ
state_of None = 1
state_of (Some k) = known_state k

-- its association identifier; 0 if it has none
abbrev pub known_aid : Known → ℕ
known_aid Authenticated = 0
known_aid (Associated n) = n

-- the association identifier, 0 for none
abbrev pub aid_of : Standing → ℕ
aid_of None = 0
aid_of (Some k) = known_aid k

-- the association ends
abbrev pub only_authenticated : Known → Known
only_authenticated k = Authenticated

-- the standing after a disassociation: State 2 if the station is known, State 1 if not
abbrev pub disassociated : Standing → Standing
disassociated None = None
disassociated (Some k) = Some (only_authenticated k)

-- 512 different stations are known
pub record IsFull (f : Standings) : Type 0 where
  pub stations : List (List ℕ)
  pub apart : IsDistinct same_address stations
  pub known : (q : List ℕ) → list_any (same_address q) stations ≡ true → IsSome (f q)
  pub many : 512 ≤ length stations

-- n is one of the identifiers that shard s may grant
pub record IsOwn (s n : ℕ) : Type 0 where
  pub low : 1 ≤ n
  pub high : n ≤ 2007
  pub mine : n % 8 ≡ s

-- shard s may grant n to station a: no other station has it
pub record IsFree (s : ℕ) (f : Standings) (a : List ℕ) (n : ℕ) : Type 0 where
  pub own : IsOwn s n
  pub free : (b : List ℕ) → f b ≡ Some (Associated n) → b ≡ a

-- n is the least such identifier
pub record IsLeastFree (s : ℕ) (f : Standings) (a : List ℕ) (n : ℕ) : Type 0 where
  pub free : IsFree s f a n
  pub least : (m : ℕ) → IsFree s f a m → n ≤ m

-- no two stations have the same identifier
abbrev pub NoneTwice : Standings → Type 0
NoneTwice f = (a b : List ℕ) (n : ℕ) → f a ≡ Some (Associated n) → f b ≡ Some (Associated n) → a ≡ b

-- what a contract sees of the stations of a shard: the known ones in any order, and at index k the station that has
-- identifier 8 k + shard
pub record Linked : Type 0 where
  pub shard : ℕ
  pub stations : List (List ℕ × Known)
  pub holders : List (Option (List ℕ))

-- a station's standing, by the table of stations
abbrev pub standing : Linked → Standings
standing v a = lookup (same_address a) v.stations

-- the identifiers are held exactly as the standings say
pub record HoldsAsTheyStand (v : Linked) : Type 0 where
  pub held : (k : ℕ) (a : List ℕ) → slice_index_or v.holders k None ≡ Some a →
      standing v a ≡ Some (Associated (8 * k + v.shard))
  pub holds : (a : List ℕ) (n : ℕ) → standing v a ≡ Some (Associated n) →
      slice_index_or v.holders (n / 8) None ≡ Some a
  pub own : (a : List ℕ) (n : ℕ) → standing v a ≡ Some (Associated n) → IsOwn v.shard n

-- how many stations are associated: as many as identifiers are held
abbrev pub associated_count : Linked → ℕ
associated_count v = count_by is_some v.holders

-- g is f, but for station a, whose standing is s
abbrev pub IsMoved : Standings → List ℕ → Standing → Standings → Type 0
IsMoved f a s g = (q : List ℕ) → g q ≡ cond (same_address a q) s (f q)
