use Rattle.std.proofs.Common.{◌≡◌, ◌∙◌, Some, None, slice_get, sym, ap}
use Rattle.std.proofs.lemmas.Result.{IfOk-weaker}
use Rattle.apd_text.proofs.Listed.{Grows-line, Grows-second, Grows-past}
use Rattle.apd_text.proofs.listing.lines.append_slot.Goals as goal

pub returns-in-Some-Some : goal.returns-in-Some-Some
returns-in-Some-Some c =
    let there : slice_get c.args.program.now.slots c.args.slot ≡ Some (Some c.in-Some-Some.insn) =
    sym c.insn_at.ensures.is ∙ (c.in-Some-Some.is ∙ ap Some c.in-Some-Some.field-0-is) in
    record {
      ok = IfOk-weaker c.append_line.result _ _ (λ _ grown. Grows-line _ _ _ _ _ _ there c.is_target.ensures.is grown) c.append_line.ensures.ok;
    }

pub returns-in-Some-None : goal.returns-in-Some-None
returns-in-Some-None c =
    let there : slice_get c.args.program.now.slots c.args.slot ≡ Some None =
    sym c.insn_at.ensures.is ∙ (c.in-Some-None.is ∙ ap Some c.in-Some-None.field-0-is) in
    record { ok = Grows-second _ _ _ there }

pub returns-in-None : goal.returns-in-None
returns-in-None c = record { ok = Grows-past _ _ _ (sym c.insn_at.ensures.is ∙ c.in-None.is) }
