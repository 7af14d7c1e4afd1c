-- Numbers in either byte order.
use Rattle.std.specs.Prelude.{ℕ, List, drop}
use Rattle.byteorder.specs.Endian.{big_number, little_number}
use Rattle.capture.specs.declared.fields.Endian.{Endian}
use Rattle.capture.specs.declared.fields.Endian.TheVariants.{Little, Big}

-- the number in the first n bytes
abbrev pub number : Endian → ℕ → List ℕ → ℕ
number Little n bytes = little_number n bytes
number Big n bytes = big_number n bytes

-- the number in the n bytes at a position
abbrev pub number_at : Endian → ℕ → ℕ → List ℕ → ℕ
number_at endian n place bytes = number endian n (drop place bytes)
