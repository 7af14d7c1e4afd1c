use Rattle.std.proofs.Common.{rules, ℕ}
use Rattle.std.proofs.lemmas.Result.{IfOk-weaker}
use Rattle.bpf_decode.specs.Flow.{IsJump}
use Rattle.apd_policies.proofs.Drawn.{IsJumpEdge-leads, IsJumpEdge-astray}
use Rattle.apd_policies.proofs.graph.nodes.append_jump.Goals as goal

pub returns-in-Some : goal.returns-in-Some
returns-in-Some c =
    let leads : IsJump c.args.from.slot c.args.by c.in-Some.to = search rules in
    record { ok = IfOk-weaker c.append_edge.result _ _ (λ _ e. IsJumpEdge-leads _ _ _ _ _ _ _ leads e) c.append_edge.ensures.ok }

pub returns-in-None : goal.returns-in-None
returns-in-None c =
    let astray : (to : ℕ) → IsJump c.args.from.slot c.args.by to → ⊥ = search rules in
    record { ok = IsJumpEdge-astray _ _ _ _ _ astray }
