-- Code as lines of hex digits.
use Rattle.std.specs.Prelude.{ℕ, zero, suc, List, [], ◌∷◌, ◌++◌, take, drop}
use Rattle.hex.specs.Hex.{encode_lower}

-- a line ends with a line feed
abbrev pub line_of : List ℕ → List ℕ
line_of text = text ++ 10 ∷ []

-- bytes as hex digits, on one line
abbrev pub digits_line : List ℕ → List ℕ
digits_line bytes = line_of (encode_lower bytes)

-- n slots of 8 bytes: 16 digits each
unfoldable pub slot_lines : ℕ → List ℕ → List ℕ
slot_lines zero code = []
slot_lines (suc n) code = digits_line (take 8 code) ++ slot_lines n (drop 8 code)
