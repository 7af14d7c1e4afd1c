-- What a program that is tried changes, while its steps are counted.
use Rattle.std.specs.Prelude.{ℕ, List}
use Rattle.bpf_helpers.specs.Hooked.{Held}

-- what it holds, and how many steps were made at each of its slots, mod 2^64; without counts nothing is counted
pub record Metered : Type 0 where
  pub held : Held
  pub counts : List ℕ
