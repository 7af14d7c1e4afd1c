-- How the table of stations and the table of identifiers agree.
use Rattle.std.specs.Prelude.{◌≡◌, ◌≢◌, ℕ, ◌+◌, ◌*◌, ◌/◌, ◌<◌, ◌≤◌, Option, None, Some, List, slice_index_or}
use Rattle.assoc.specs.declared.standing.Known.TheVariants.{Associated}
use Rattle.assoc.specs.Standings.{Standings, IsOwn}

-- at most 512 stations; associated ones have identifiers of their shard, each held in the table by just that station
pub record IsSound
    (s : ℕ) (f : Standings) (count : ℕ) (holders : List (Option (List ℕ))) : Type 0 where
  pub shard : s < 8
  pub few : count ≤ 512
  pub own : (a : List ℕ) (n : ℕ) → f a ≡ Some (Associated n) → IsOwn s n
  pub holds : (a : List ℕ) (n : ℕ) → f a ≡ Some (Associated n) →
      slice_index_or holders (n / 8) None ≡ Some a
  pub held : (k : ℕ) (a : List ℕ) → slice_index_or holders k None ≡ Some a →
      f a ≡ Some (Associated (8 * k + s))

-- the identifier at index k isn't one that the shard may grant, or another station than a has it
abbrev pub IsTaken : ℕ → List (Option (List ℕ)) → List ℕ → ℕ → Type 0
IsTaken s holders a k =
    IsOwn s (8 * k + s) → (b : List ℕ) × (slice_index_or holders k None ≡ Some b) × (b ≢ a)
