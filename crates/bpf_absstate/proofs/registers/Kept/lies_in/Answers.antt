use Rattle.std.proofs.Common.{◌∙◌, sym, arith}
use Rattle.bpf_absval.specs.declared.value.AbsVal.TheVariants.{Unset}
use Rattle.bpf_absstate.proofs.Marked.{kept_whole}
use Rattle.bpf_absstate.proofs.Pointers.{got_or}
use Rattle.bpf_absstate.proofs.registers.Kept.lies_in.Goals as goal

pub returns : goal.returns
returns c =
    let a = got_or c.args.self.now c.args.number Unset _
    (kept_whole c.self.inside.marks.bits c.self.inside.values c.args.number c.index-self-number.result _ c.self.view_is (omega (arith, c.requires, c.self.invariant)) (sym c.has.ensures ∙ c.if-has.false)) in
    let b = got_or c.args.other.now c.args.number Unset _
    (kept_whole c.other.inside.marks.bits c.other.inside.values c.args.number c.index-other-number.result _ c.other.view_is (omega (arith, c.requires, c.other.invariant)) (sym c.has-else-has.ensures ∙ c.if-has-2.false)) in
    let told = rw (c.deref.ensures, c.deref-2.ensures) at c.is_included-2.ensures in
    record { is = rw (a, b) told }
