-- The limits of maps, and the sizes of their parts.
use Rattle.std.specs.Prelude.{ℕ, ◌*◌, ◌≤◌, List, length}
use Rattle.std.specs.List.{All}
use Rattle.bpf_regions.specs.declared.maps.WordWidth.{WordWidth}
use Rattle.bpf_regions.specs.declared.maps.WordWidth.TheVariants.{Four, Eight}
use Rattle.bpf_regions.specs.declared.maps.Shape.{Shape}

-- the bytes of a word
abbrev pub bytes_of : WordWidth → ℕ
bytes_of Four = 4
bytes_of Eight = 8

-- the bytes of one entry
abbrev pub entry_bytes : Shape → ℕ
entry_bytes s = s.words * bytes_of s.width

-- the words of the whole map
abbrev pub word_count : Shape → ℕ
word_count s = s.entries * s.words

-- a map has 1 to 4096 entries of 1 to 8 words
pub record IsShape (s : Shape) : Type 0 where
  pub some_entries : 1 ≤ s.entries
  pub few_entries : s.entries ≤ 4096
  pub some_words : 1 ≤ s.words
  pub few_words : s.words ≤ 8

-- a program has at most 16 maps, each of such a shape
pub record AreShapes (shapes : List Shape) : Type 0 where
  pub few : length shapes ≤ 16
  pub each : All IsShape shapes
