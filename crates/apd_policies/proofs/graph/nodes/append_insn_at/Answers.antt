use Rattle.std.proofs.Common.{◌≡◌, if◌then◌else◌}
use Rattle.apd_policies.proofs.Drawn.{IsDrawn-of}
use Rattle.apd_policies.proofs.graph.nodes.append_insn_at.Goals.{then-first, else-first}
use Rattle.apd_policies.proofs.graph.nodes.append_insn_at.Goals as goal

pub returns : goal.returns
returns c =
    let head : c.if-first.head ≡ (if c.is_first-first.result then c.args.slot else c.args.before) =
    elim c.if-first.branch [ then-first w ↦ rw w.if-first.true w.head-is | else-first w ↦ rw w.if-first.false w.head-is ] in
    record {
      ok = IsDrawn-of _ c.args.sketch.program.now.slots _ _ _ _ _ _ _ _ _ _ c.is_first-first.ensures.is c.is_last-last.ensures.is head c.in_ok-append_opening.ensures.ok c.in_ok-append_insn.ensures.ok c.in_ok-append_ending.ensures.ok;
    }
