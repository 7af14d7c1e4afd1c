use Rattle.std.proofs.Common.{rules}
use Rattle.std.specs.String.{string_bytes}
use Rattle.std.proofs.lemmas.Result.{IfOk-weaker}
use Rattle.apd_policies.specs.Graph.{Appends, IsJumpEdge}
use Rattle.apd_policies.proofs.Drawn.{AreTwoEdges-of}
use Rattle.apd_policies.proofs.graph.nodes.append_two.Goals as goal

pub returns : goal.returns
returns c =
    let jump : Appends (IsJumpEdge c.args.from.head c.args.from.slot c.args.by c.args.way) (string_bytes c.args.text.now) (string_bytes c.append_jump.new.text) = search rules in
    record { ok = IfOk-weaker c.append_edge.result _ _ (λ _ e. AreTwoEdges-of _ _ _ _ _ _ _ _ jump e) c.append_edge.ensures.ok }
