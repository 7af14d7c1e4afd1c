use Rattle.std.proofs.Common.{ap, w64}
use Rattle.std.specs.Prelude.{◌==◌}
use Rattle.std.proofs.lemmas.Nat.Bits.{bit_at_clear_same, bit_at_clear_other}
use Rattle.bpf_absval.proofs.marks.Marks.without.Goals as goal

pub returns-clause-here : goal.returns-clause-here
returns-clause-here c = ap (λ b. b == 1) (bit_at_clear_same w64 c.args.self.bits c.args.index c.requires)

pub returns-clause-others : goal.returns-clause-others
returns-clause-others c i within apart = ap (λ b. b == 1) (bit_at_clear_other w64 c.args.self.bits c.args.index c.requires i within apart)
