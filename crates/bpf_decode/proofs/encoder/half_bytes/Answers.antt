use Rattle.std.proofs.Common.{◌≡◌, ◌-◌, Some, None, subst, sym}
use Rattle.std.specs.Prelude.{slice_get}
use Rattle.bpf_decode.specs.Code.{slot}
use Rattle.bpf_decode.proofs.Bytes.{before_get, half_read, no_half_after_half, no_half_first}
use Rattle.bpf_decode.proofs.encoder.half_bytes.Goals as goal

pub returns-then-at-eq0 : goal.returns-then-at-eq0
returns-then-at-eq0 c =
    record { is = λ bytes table. absurd (no_half_first bytes c.args.slots.now table (subst (λ k. slice_get c.args.slots.now k ≡ Some None) c.if-at-eq0.true c.requires.half)) }

pub to_slots-requires : goal.to_slots-requires
to_slots-requires c = record { valid = c.requires.insns (c.args.at - 1) c.in-Some.insn (before_get c.args.slots.now c.args.at _ _ c.requires.place c.if-at-eq0.false c.in-Some.is) }

pub returns-in-Some : goal.returns-in-Some
returns-in-Some c =
    let here : slice_get c.args.slots.now (c.args.at - 1) ≡ Some (Some c.in-Some.insn) = before_get c.args.slots.now c.args.at _ _ c.requires.place c.if-at-eq0.false c.in-Some.is in
    record {
      is = λ bytes table. subst (λ x. x ≡ slot bytes c.args.at) (sym c.unwrap_or.ensures)
          (half_read bytes c.args.slots.now c.args.at c.in-Some.insn c.to_slots.result.1 _ table c.if-at-eq0.false c.requires.half here c.to_slots.ensures.second);
    }

pub returns-in-None : goal.returns-in-None
returns-in-None c =
    let here : slice_get c.args.slots.now (c.args.at - 1) ≡ Some None = before_get c.args.slots.now c.args.at _ _ c.requires.place c.if-at-eq0.false c.in-None.is in
    record { is = λ bytes table. absurd (no_half_after_half bytes c.args.slots.now c.args.at table c.if-at-eq0.false c.requires.half here) }
