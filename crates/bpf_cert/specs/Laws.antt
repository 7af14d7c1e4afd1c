-- What claims show.
use Rattle.std.specs.Prelude.{ℕ, List}
use Rattle.std.specs.List.{All}
use Rattle.bpf_decode.specs.Program.{Code, IsWhole}
use Rattle.bpf_model.specs.Run.{Safe}
use Rattle.bpf_regions.specs.Maps.{AreShapes}
use Rattle.bpf_absstate.specs.WellFormed.{IsView}
use Rattle.bpf_cert.specs.declared.claim.Claim.{Claim}
use Rattle.bpf_cert.specs.Covered.{AreCovered}

-- a program that claims cover is safe within their budget
abbrev pub CoveredIsSafe : Type 0
CoveredIsSafe = (c : Code) (es : List Claim) (b : ℕ) → IsWhole c → AreShapes c.shapes → All (λ e. IsView e.state) es → AreCovered c es b → Safe c.slots c.shapes b
