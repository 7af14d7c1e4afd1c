-- Bytes as hex digits.
use Rattle.std.specs.Prelude.{ℕ, List, [], unwrap_or}
use Rattle.std.specs.Result.{result_ok}
use Rattle.hex.specs.Hex.{decode_of}

-- the bytes that hex digits of either case spell; empty if a text spells none
abbrev pub bytes_of : List ℕ → List ℕ
bytes_of digits = unwrap_or (result_ok (decode_of digits)) []
