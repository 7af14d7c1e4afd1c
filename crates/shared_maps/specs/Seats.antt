-- What a seat knows, and how it comes to know more.
use Rattle.std.specs.Prelude.{◌≡◌, ℕ, List, [], ◌∷◌, ◌++◌}
use Rattle.bpf_regions.specs.declared.maps.Shape.{Shape}
use Rattle.bpf_regions.specs.declared.maps.MapOp.{MapOp}
use Rattle.shared_maps.specs.declared.seen.Entry.{Entry}
use Rattle.shared_maps.specs.History.{entry, IsLegal, accesses_by, StartsWith}

-- its number, the history that it has seen, and its own accesses
pub record Known : Type 0 where
  pub number : ℕ
  pub seen : List Entry
  pub own : List Entry

-- a seat that has seen nothing and made no access
abbrev pub newcomer : ℕ → Known
newcomer number = record { number = number; seen = []; own = [] }

-- `seen` is a legal history, in which this seat's accesses are exactly `own`, each once, in the order made
pub record Witnesses (shape : Shape) (v : Known) : Type 0 where
  pub legal : IsLegal shape v.seen
  pub own : accesses_by v.number v.seen ≡ v.own

-- After an access the seat has seen a history that extends what it had seen and ends with this access.
pub record Extends (shape : Shape) (v : Known) (word : ℕ) (operation : MapOp) (answer : ℕ)
    (w : Known) : Type 0 where
  pub between : List Entry
  pub number : w.number ≡ v.number
  pub seen : w.seen ≡ (v.seen ++ between) ++ entry v.number word operation answer ∷ []
  pub own : w.own ≡ v.own ++ entry v.number word operation answer ∷ []
  pub witnessed : Witnesses shape w

-- after two seats met, one of them has seen a history that extends what each had seen
pub record Shares (shape : Shape) (v other w : Known) : Type 0 where
  pub number : w.number ≡ v.number
  pub seen : StartsWith w.seen v.seen
  pub others : StartsWith w.seen other.seen
  pub own : w.own ≡ v.own
  pub witnessed : Witnesses shape w

-- both have seen the same history
pub record Meets (shape : Shape) (v w v' w' : Known) : Type 0 where
  pub same : w'.seen ≡ v'.seen
  pub one : Shares shape v w v'
  pub other : Shares shape w v w'
