-- The rule of a table of map words, and what each step shows.
use Rattle.std.specs.Prelude.{◌≡◌, ◌⊎◌, ℕ, ◌+◌, ◌*◌, ◌/◌, ◌^◌, ◌<◌, ◌≤◌, List, [], length, map}
use mathlib.Core.Option.{some}
use lib.ListN.{get_elem?}
use Rattle.atomic_table.specs.Table.{State, Me, Step}
use Rattle.bpf_regions.specs.declared.maps.Shape.{Shape}
use Rattle.bpf_regions.specs.declared.maps.WordWidth.{WordWidth}
use Rattle.bpf_regions.specs.declared.maps.WordWidth.TheVariants.{Four, Eight}
use Rattle.bpf_regions.specs.declared.maps.MapOp.{MapOp}
use Rattle.shared_maps.specs.declared.seen.Entry.{Entry}
use Rattle.shared_maps.specs.declared.seen.View.{View}
use Rattle.shared_maps.specs.History.{modulus, answer_to, array_of, zeros, IsLegal, accesses_by, StartsWith}
use Rattle.shared_maps.specs.Seats.{Known, Witnesses, Extends}

-- how many bits a number is shifted left in its word of 64 bits
abbrev pub shift_of : WordWidth → ℕ
shift_of Four = 32
shift_of Eight = 0

-- What the rule says of view v of seat `id`; `places` has the seat of each number.
pub record Fits (log : List Entry) (places : List ℕ) (id : ℕ) (v : View) : Type 0 where
  pub seen : StartsWith log v.seen
  pub told : StartsWith log v.told
  pub own : accesses_by v.number log ≡ v.own
  pub mine : accesses_by v.number v.seen ≡ v.own
  pub placed : (v.number ≡ 0) ⊎ (get_elem? places v.number ≡ some id)
  pub numbers : (v.following ≡ 0) ⊎ ((id ≡ 0) × (v.following ≡ length places))

-- The words hold the numbers of the array that a legal history leads to, and each seat has seen a prefix of that
-- history.
pub record IsKept (shape : Shape) (words : List ℕ) (views : List View) : Type 0 where
  pub log : List Entry
  pub places : List ℕ
  pub some_place : 0 < length places
  pub legal : IsLegal shape log
  pub words_are : words
      ≡ map (λ n. n * 2 ^ shift_of shape.width) (array_of (modulus shape.width) (zeros shape) log)
  pub nobody : accesses_by 0 log ≡ []
  pub later : (n : ℕ) → length places ≤ n → accesses_by n log ≡ []
  pub each : (id : ℕ) (v : View) → get_elem? views id ≡ some v → Fits log places id v

-- the rule that each step of a table keeps
abbrev pub Kept : Shape → State Unit View → Type 0
Kept shape s = IsKept shape s.words s.views

-- the view that numbers the seats
abbrev pub numbering : ℕ → View
numbering n = record { number = 0; following = n; seen = []; own = []; told = [] }

-- what a seat knows, by its view
abbrev pub known : View → Known
known v = record { number = v.number; seen = v.seen; own = v.own }

-- what an access shows; for a store the number found is the one stored, and is ignored
abbrev pub Made : Shape → MapOp → Step Unit → Me Unit View → ℕ → Me Unit View → Type 0
Made shape operation s me found me' =
    (me'.1 ≡ me.1) × Extends shape (known me.0) s.word operation
    (answer_to operation (found / 2 ^ shift_of shape.width)) (known me'.0)

-- the view of the next seat
abbrev pub seated : View → View
seated v = record { number = v.following; following = 0; seen = []; own = []; told = [] }

-- the view that numbers seats after the next one
abbrev pub numbered : View → View
numbered v = numbering (v.following + 1)

-- a note for another seat of what one has seen
abbrev pub note : List Entry → View
note seen = record { number = 0; following = 0; seen = seen; own = []; told = [] }

-- v has been told what w has seen
abbrev pub hearing : View → View → View
hearing v w =
    record { number = v.number; following = v.following; seen = v.seen; own = v.own; told = w.seen }

-- v has seen what w has seen
abbrev pub following : View → View → View
following v w =
    record { number = v.number; following = v.following; seen = w.seen; own = v.own; told = v.told }

-- what a read shows: the history so far
pub record Learned (shape : Shape) (me me' : Me Unit View) : Type 0 where
  pub slots : me'.1 ≡ me.1
  pub number : me'.0.number ≡ me.0.number
  pub seen : StartsWith me'.0.seen me.0.seen
  pub told : StartsWith me'.0.seen me.0.told
  pub own : me'.0.own ≡ me.0.own
  pub witnessed : Witnesses shape (known me'.0)

-- what a read that changes nothing shows
pub record Confirmed (shape : Shape) (me me' : Me Unit View) : Type 0 where
  pub same : me' ≡ me
  pub witnessed : Witnesses shape (known me.0)
