-- The bytes that spell a program.
use Rattle.std.proofs.Common.{◌≡◌, ℕ, List}
use Rattle.bpf_decode.specs.Program.{Code, Spells}
use Rattle.bpf_decode.proofs.Bytes.{same_bytes}

-- different bytes spell different programs
pub one_text : (a b : List ℕ) (c : Code) → Spells a c → Spells b c → a ≡ b
one_text a b c s t = same_bytes a b c.slots s.table t.table s.well_formed.whole t.well_formed.whole
