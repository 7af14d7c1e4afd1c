-- How many bytes are known to follow labels: a list of rooms, in the order of their labels.
use Rattle.std.specs.Prelude.{ℕ, ◌+◌, ◌<◌, ◌≤◌, ◌==◌, nat_lt, not, if◌then◌else◌, max, List, [], ◌∷◌, filter, Option, Some, None}
use Rattle.bpf_absval.specs.declared.room.Room.{Room}

-- the room of a label
unfoldable pub find_room : List Room → ℕ → Option ℕ
find_room [] label = None
find_room (r ∷ rs) label = (if r.label == label then Some r.size else find_room rs label)

-- at least n bytes follow the label's position: a new room goes before the first of a higher label
unfoldable pub raised : List Room → ℕ → ℕ → List Room
raised [] label n = record { label = label; size = n } ∷ []
raised (r ∷ rs) label n =
    (if r.label == label then record r { size = max r.size n } ∷ rs else
    (if nat_lt label r.label then record { label = label; size = n } ∷ r ∷ rs else
    r ∷ raised rs label n))

-- nothing is known of the label
abbrev pub rooms_without : ℕ → List Room → List Room
rooms_without label rooms = filter (λ r. not (r.label == label)) rooms

-- labels increase from room to room; each is at least low, and below end
unfoldable pub Between : ℕ → ℕ → List Room → Type 0
Between low end [] = Unit {0}
Between low end (r ∷ rs) = (low ≤ r.label) × (r.label < end) × Between (r.label + 1) end rs
