use Rattle.std.proofs.Common.{rules, ◌≡◌}
use Rattle.std.specs.String.{string_bytes}
use Rattle.apd_policies.specs.Graph.{beginning}
use Rattle.apd_policies.proofs.Drawn.{IsBegun-start, IsBegun-more}
use Rattle.apd_policies.proofs.graph.nodes.graph_text.Goals as goal

pub loop-slot-init : goal.loop-slot-init
loop-slot-init c =
    let first : string_bytes c.in_ok-text.text ≡ beginning = search rules in
    IsBegun-start _ _ _ first

pub loop-slot-preserved : goal.loop-slot-preserved
loop-slot-preserved c = IsBegun-more _ _ _ _ _ _ _ c.loop-slot.invariant c.in_ok-head.ensures.ok
