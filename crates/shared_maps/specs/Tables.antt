-- What contracts see of a table and of a seat.
use Rattle.std.specs.Prelude.{◌≡◌, ◌<◌, ◌+◌, ℕ, []}
use Rattle.atomic_table.specs.Seated.{TableId}
use Rattle.atomic_table.specs.Perched.{Roost}
use Rattle.atomic_table.specs.Table.{Me}
use Rattle.bpf_regions.specs.declared.maps.Shape.{Shape}
use Rattle.bpf_regions.specs.Maps.{word_count, IsShape}
use Rattle.shared_maps.specs.declared.seen.View.{View}
use Rattle.shared_maps.specs.Seats.{Known}
use Rattle.shared_maps.specs.Kept.{numbering}

-- which table it is, its shape, how many seats it has, and how many of them are handed out
pub record Map : Type 0 where
  pub table : TableId
  pub shape : Shape
  pub seats : ℕ
  pub given : ℕ

-- the seat's table, and what the seat knows
pub record Place : Type 0 where
  pub table : TableId
  pub known : Known

-- the words are those of a map of this shape
pub record IsLaid (z : TableId) (key shape : Shape) : Type 0 where
  pub shaped : key ≡ shape
  pub valid : IsShape shape
  pub words : word_count shape ≡ z.words
  pub some_words : 0 < z.words

-- the perch is for the seat that numbers the others, after `given` of them
pub record IsNumbering (z : TableId) (root : Roost View) (given : ℕ) : Type 0 where
  pub table : root.table_id ≡ z
  pub view : root.view ≡ numbering (given + 1)

-- the seat holds no slot; its number is its view's, and not 0
pub record IsNumbered (me : Me Unit View) (number : ℕ) : Type 0 where
  pub empty : me.1 ≡ []
  pub some_number : 0 < number
  pub own_number : me.0.number ≡ number
