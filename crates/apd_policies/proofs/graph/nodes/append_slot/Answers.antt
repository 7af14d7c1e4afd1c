use Rattle.std.proofs.Common.{◌≡◌, ◌∙◌, Some, None, slice_get, sym, ap}
use Rattle.std.proofs.lemmas.Result.{IfOk-weaker}
use Rattle.apd_policies.specs.Overlays.{overlay_of}
use Rattle.apd_policies.proofs.Drawn.{IsDrawnAt-insn, IsDrawnAt-second, IsDrawnAt-past}
use Rattle.apd_policies.proofs.graph.nodes.append_slot.Goals as goal

pub returns-in-Some-Some : goal.returns-in-Some-Some
returns-in-Some-Some c =
    let there : slice_get c.args.sketch.program.now.slots c.args.slot ≡ Some (Some c.in-Some-Some.insn) =
    sym c.insn_at.ensures.is ∙ (c.in-Some-Some.is ∙ ap Some c.in-Some-Some.field-0-is) in
    record {
      ok = IfOk-weaker c.append_insn_at.result _ _ (λ head a. IsDrawnAt-insn (overlay_of c.args.sketch.overlay) c.args.sketch.program.now.slots c.args.slot c.args.before head _ _ _ there a) c.append_insn_at.ensures.ok;
    }

pub returns-in-Some-None : goal.returns-in-Some-None
returns-in-Some-None c =
    let there : slice_get c.args.sketch.program.now.slots c.args.slot ≡ Some None =
    sym c.insn_at.ensures.is ∙ (c.in-Some-None.is ∙ ap Some c.in-Some-None.field-0-is) in
    record { ok = IsDrawnAt-second (overlay_of c.args.sketch.overlay) c.args.sketch.program.now.slots c.args.slot c.args.before _ there }

pub returns-in-None : goal.returns-in-None
returns-in-None c = record { ok = IsDrawnAt-past (overlay_of c.args.sketch.overlay) c.args.sketch.program.now.slots c.args.slot c.args.before _ (sym c.insn_at.ensures.is ∙ c.in-None.is) }
