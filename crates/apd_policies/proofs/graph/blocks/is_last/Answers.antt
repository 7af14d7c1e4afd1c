use Rattle.std.proofs.Common.{◌↔◌, IsTrue, ℕ, subst}
use Rattle.bpf_decode.specs.Program.{IsTarget}
use Rattle.apd_policies.proofs.Either.{fact_is_left}
use Rattle.apd_policies.proofs.graph.blocks.is_last.Goals as goal

pub returns-else-turns : goal.returns-else-turns
returns-else-turns c =
    let P : ℕ → Type 0 = λ n. (IsTrue c.is_target.result) ↔ IsTarget c.args.program.now.slots n in
    record { is = fact_is_left _ _ _ _ c.turns.ensures.is c.if-turns.false (subst P c.slot_after.ensures.is c.is_target.ensures.is) }
