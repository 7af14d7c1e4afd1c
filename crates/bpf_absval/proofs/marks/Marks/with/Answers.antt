use Rattle.std.proofs.Common.{ap, eq-eqb, w64}
use Rattle.std.specs.Prelude.{◌==◌}
use Rattle.std.proofs.lemmas.Nat.Bits.{bit_at_set_same, bit_at_set_other}
use Rattle.bpf_absval.proofs.marks.Marks.with.Goals as goal

pub returns-clause-here : goal.returns-clause-here
returns-clause-here c = eq-eqb _ 1 (bit_at_set_same w64 c.args.self.bits c.args.index c.requires)

pub returns-clause-others : goal.returns-clause-others
returns-clause-others c i within apart = ap (λ b. b == 1) (bit_at_set_other w64 c.args.self.bits c.args.index c.requires i apart)
