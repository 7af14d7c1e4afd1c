-- What a configuration's TOML says.
use Rattle.std.specs.Prelude.{◌≡◌, ℕ, ◌≤◌, ◌==◌, ◌&&◌, ◌||◌, Bool, true, if◌then◌else◌, nat_le, pos, List, [], ◌∷◌, length, codes, Option, Some, None, option_and_then}
use Rattle.std.specs.Str.{bytes_eq}
use Rattle.std.specs.List.{list_all}
use Rattle.std.specs.Result.{result_ok}
use Rattle.hex.specs.Hex.{decode_of, decode_sized}
use Rattle.toml.specs.Data.{Data, string, integer, array, table, Items, no_items, item, Members, no_members, member, get_member}
use Rattle.bpf_regions.specs.declared.maps.WordWidth.{WordWidth}
use Rattle.bpf_regions.specs.declared.maps.WordWidth.TheVariants.{Four, Eight}
use Rattle.bpf_regions.specs.declared.maps.Scope.{Scope}
use Rattle.bpf_regions.specs.declared.maps.Scope.TheVariants.{Shared, Worker}
use Rattle.bpf_regions.specs.declared.maps.Shape.{Shape}

-- ---- the values of the keys

-- six bytes in hex
abbrev pub bssid_of : Data → Option (List ℕ)
bssid_of (string text) = result_ok (decode_sized text 6)
bssid_of _ = None

-- at most 32 bytes of text
abbrev pub ssid_of : Data → Option (List ℕ)
ssid_of (string text) = (if nat_le (length text) 32 then Some text else None)
ssid_of _ = None

-- 1 to 8 bytes
abbrev pub if_few : List ℕ → Option (List ℕ)
if_few rates = (if nat_le 1 (length rates) && nat_le (length rates) 8 then Some rates else None)

-- 1 to 8 bytes in hex
abbrev pub rates_of : Data → Option (List ℕ)
rates_of (string text) = option_and_then if_few (result_ok (decode_of text))
rates_of _ = None

-- a number of at least 0
abbrev pub draw_of : Data → Option ℕ
draw_of (integer (pos n)) = Some n
draw_of _ = None

-- a number from 1 to the limit
abbrev pub count_of : ℕ → Data → Option ℕ
count_of limit (integer (pos n)) = (if nat_le 1 n && nat_le n limit then Some n else None)
count_of limit _ = None

-- words of 4 or 8 bytes
abbrev pub width_of : Data → Option WordWidth
width_of (integer (pos n)) = (if n == 4 then Some Four else (if n == 8 then Some Eight else None))
width_of _ = None

-- `shared` by all workers, or one for each `worker`
abbrev pub scope_of : Data → Option Scope
scope_of (string text) =
    (if bytes_eq text (codes "shared") then Some Shared
    else (if bytes_eq text (codes "worker") then Some Worker else None))
scope_of _ = None

-- a map is shared if its table has no key for the scope
abbrev pub scope_or_shared : Option Data → Option Scope
scope_or_shared None = Some Shared
scope_or_shared (Some d) = scope_of d

-- ---- tables

-- the keys of a table, in order
abbrev pub keys_in : Members → List (List ℕ)
keys_in no_members = []
keys_in (member key value rest) = key ∷ keys_in rest

-- a key that a configuration may have
abbrev pub is_key : List ℕ → Bool
is_key text =
    bytes_eq text (codes "bssid") || (bytes_eq text (codes "ssid")
    || (bytes_eq text (codes "rates") || (bytes_eq text (codes "draw")
    || bytes_eq text (codes "map"))))

-- a key that a map's table may have
abbrev pub is_map_key : List ℕ → Bool
is_map_key text =
    bytes_eq text (codes "entries") || (bytes_eq text (codes "words")
    || (bytes_eq text (codes "width") || bytes_eq text (codes "scope")))

-- a map's table spells this shape, and has no other keys
pub record SaysShape (m : Members) (s : Shape) : Type 0 where
  pub keys : list_all is_map_key (keys_in m) ≡ true
  pub entries : option_and_then (count_of 4096) (get_member (codes "entries") m) ≡ Some s.entries
  pub words : option_and_then (count_of 8) (get_member (codes "words") m) ≡ Some s.words
  pub width : option_and_then width_of (get_member (codes "width") m) ≡ Some s.width
  pub scope : scope_or_shared (get_member (codes "scope") m) ≡ Some s.scope

-- the item is a table that spells this shape
abbrev pub SaysMap : Data → Shape → Type 0
SaysMap (table m) s = SaysShape m s
SaysMap _ s = ⊥

-- each item is a table that spells the shape at its index
abbrev pub SaysShapes : Items → List Shape → Type 0
SaysShapes no_items [] = Unit {0}
SaysShapes no_items (s ∷ shapes) = ⊥
SaysShapes (item d rest) [] = ⊥
SaysShapes (item d rest) (s ∷ shapes) = SaysMap d s × SaysShapes rest shapes

-- at most 16 tables; none if the key is missing
abbrev pub SaysMaps : Option Data → List Shape → Type 0
SaysMaps None shapes = shapes ≡ []
SaysMaps (Some (array maps)) shapes = (length shapes ≤ 16) × SaysShapes maps shapes
SaysMaps (Some _) shapes = ⊥
