use Rattle.std.proofs.Common.{◌≤◌, length, arith}
use Rattle.std.proofs.lemmas.Grind.{common_steps}
use Rattle.bpf_decode.proofs.Whole.{spelled_whole}
use Rattle.bpf_decode.proofs.program.Program.len.Goals as goal

pub returns-clause-some : goal.returns-clause-some
returns-clause-some c =
    let whole = spelled_whole c.self.invariant.bytes _ c.self.invariant.spelled in
    let some : 1 ≤ length c.self.inside.slots.items = whole.some in
    grind (arith, common_steps)

pub returns-clause-short : goal.returns-clause-short
returns-clause-short c =
    let whole = spelled_whole c.self.invariant.bytes _ c.self.invariant.spelled in
    let short : length c.self.inside.slots.items ≤ 16384 = whole.short in
    grind (arith, common_steps)
