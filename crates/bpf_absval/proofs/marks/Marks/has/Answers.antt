use Rattle.std.proofs.Common.{ap}
use Rattle.std.specs.Prelude.{◌==◌}
use Rattle.std.proofs.lemmas.Nat.Bits.{shr_and_one}
use Rattle.bpf_absval.proofs.marks.Marks.has.Goals as goal

pub returns : goal.returns
returns c = ap (λ b. b == 1) (shr_and_one c.args.self.bits c.args.index)
