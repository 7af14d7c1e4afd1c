-- A port's answers from a list.
use Rattle.std.specs.Prelude.{ℕ, ◌%◌, ◌^◌, ◌*◌, List, drop, slice_index, slice_get, Option, Some, None}
use Rattle.bpf_regions.specs.declared.maps.Shape.{Shape}
use Rattle.bpf_regions.specs.declared.maps.MapOp.{MapOp}
use Rattle.bpf_regions.specs.declared.maps.MapOp.TheVariants.{Store}
use Rattle.bpf_regions.specs.declared.asks.Helper.{Helper}
use Rattle.bpf_regions.specs.declared.asks.Helper.TheVariants.{Now, Stations, Draw}
use Rattle.bpf_regions.specs.declared.asks.Ask.{Ask}
use Rattle.bpf_regions.specs.declared.asks.Ask.TheVariants.{Access, Help}
use Rattle.bpf_regions.specs.Maps.{bytes_of}

-- the shapes of its maps, and the remaining numbers
pub record Listed : Type 0 where
  pub shapes : List Shape
  pub left : List ℕ

-- the next number, 0 past the end
abbrev pub taken : Listed → ℕ
taken p = slice_index p.left 0

-- the port after one answer
abbrev pub left_after : Listed → Listed
left_after p = record p { left = drop 1 p.left }

-- a number reduced mod the size of a map's word
abbrev pub cut_to_word : Option Shape → ℕ → ℕ
cut_to_word None x = 0
cut_to_word (Some shape) x = x % 2 ^ (8 * bytes_of shape.width)

-- a number reduced to the answers of an access: 0 to a store
abbrev pub cut_to_access : MapOp → Option Shape → ℕ → ℕ
cut_to_access (Store y) shape x = 0
cut_to_access op shape x = cut_to_word shape x

-- a number reduced to the helper's answers: at most 2007 stations
abbrev pub cut_to_helper : Helper → ℕ → ℕ
cut_to_helper Now x = x
cut_to_helper Stations x = x % 2008
cut_to_helper Draw x = x

-- the next number, reduced to the range of the query's answers
abbrev pub answer_of : Listed → Ask → ℕ
answer_of p (Access map word op) = cut_to_access op (slice_get p.shapes map) (taken p)
answer_of p (Help helper) = cut_to_helper helper (taken p)
