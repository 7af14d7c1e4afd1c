-- The view of an `Accepted` that callers have.
use Rattle.std.specs.Prelude.{ℕ}
use Rattle.bpf_regions.specs.declared.hooks.Hook.{Hook}
use Rattle.bpf_decode.specs.Program.{Code}

-- a program with its shapes, its hook, and the most steps of a run
pub record Verified : Type 0 where
  pub code : Code
  pub hook : Hook
  pub budget : ℕ
