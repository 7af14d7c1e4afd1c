-- The rooms of a tree, from left to right.
use Rattle.std.specs.Prelude.{◌≡◌, ℕ, ◌+◌, ◌<◌, ◌≤◌, ◌^◌, List, [], ◌∷◌, length, Option, Some, None}
use Rattle.bpf_absval.specs.declared.room.Room.{Room}
use Rattle.bpf_absval.specs.declared.tree.Tree.{Tree}
use Rattle.bpf_absval.specs.declared.tree.Tree.TheVariants.{Empty, One, Fork}
use Rattle.bpf_absval.specs.Rooms.{find_room, raised, Between}

-- none, one room, or those of the left side, then the right
abbrev pub rooms_of : Tree → List Room
rooms_of Empty = []
rooms_of (One room) = room ∷ []
rooms_of (Fork pair) = pair.value

-- all labels are from low to high: on the left below the split, on the right not
pub record IsParted (low split high : ℕ) (left right : List Room) : Type 0 where
  pub begins : low ≤ split
  pub ends : split ≤ high
  pub lower : Between low split left
  pub upper : Between split (high + 1) right

-- the same at a fork, whose sides both have rooms
pub record IsFork (low split high : ℕ) (left right : List Room) : Type 0 where
  pub parted : IsParted low split high left right
  pub some_left : 0 < length left
  pub some_right : 0 < length right

-- a list with one more room, if there is one
abbrev pub with_newest : Option Room → List Room → List Room
with_newest None rooms = rooms
with_newest (Some room) rooms = raised rooms room.label room.size

-- the room has a label of two bytes, of which the list has no room
pub record IsNew (room : Room) (rooms : List Room) : Type 0 where
  pub label : room.label < 2 ^ 16
  pub apart : find_room rooms room.label ≡ None

-- the newest room, if any, is new
abbrev pub IsNewest : Option Room → List Room → Type 0
IsNewest None rooms = Unit {0}
IsNewest (Some room) rooms = IsNew room rooms

-- labels increase, and the newest is none of them
pub record IsApart (newest : Option Room) (rooms : List Room) : Type 0 where
  pub order : Between 0 (2 ^ 16) rooms
  pub new : IsNewest newest rooms
