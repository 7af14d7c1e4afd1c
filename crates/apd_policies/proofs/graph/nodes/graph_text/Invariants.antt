-- The slots so far are drawn.
use Rattle.std.specs.String.{string_bytes}
use Rattle.apd_policies.specs.Overlays.{overlay_of}
use Rattle.apd_policies.proofs.Drawn.{IsBegun}
use Rattle.apd_policies.proofs.graph.nodes.graph_text.Given as goal

abbrev pub invariant-loop-slot : goal.invariant-loop-slot
invariant-loop-slot l = IsBegun (overlay_of l.sketch.overlay) l.program.slots l.slot l.head (string_bytes l.text)
