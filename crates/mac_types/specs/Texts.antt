-- How values are shown.
use Rattle.std.specs.Prelude.{ℕ, ◌/◌, ◌%◌, false, List, [], ◌∷◌}
use Rattle.std.specs.List.{flat_map}
use Rattle.std.specs.Fmt.{digit_glyph}

-- two lower-case hexadecimal digits
abbrev pub octet_text : ℕ → List ℕ
octet_text octet = digit_glyph false (octet / 16) ∷ digit_glyph false (octet % 16) ∷ []

-- the six octets, one after another
abbrev pub address_text : List ℕ → List ℕ
address_text octets = flat_map octet_text octets
