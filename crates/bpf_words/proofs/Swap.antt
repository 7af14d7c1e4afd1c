-- Swapping bytes stays within their width.
use Rattle.std.proofs.Common.{ℕ, ◌^◌, ◌<◌, arith}
use Rattle.std.specs.Int.{swap_bytes, w16, w32, w64}

pub swap_16-lt : (n : ℕ) → swap_bytes w16 n < 2 ^ 16
swap_16-lt n = omega arith

pub swap_32-lt : (n : ℕ) → swap_bytes w32 n < 2 ^ 32
swap_32-lt n = omega arith

pub swap_64-lt : (n : ℕ) → swap_bytes w64 n < 2 ^ 64
swap_64-lt n = omega arith
