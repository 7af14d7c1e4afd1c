use Rattle.std.proofs.Common.{◌∙◌, sym, ap, arith, Some}
use Rattle.bpf_absval.specs.Unlabelled.{bare}
use Rattle.bpf_absstate.proofs.Marked.{kept_bare, kept_whole}
use Rattle.bpf_absstate.proofs.registers.Kept.get.Goals as goal

pub returns-then-has : goal.returns-then-has
returns-then-has c =
    let r = c.index-self-number.result in
    let read = c.deref-value.ensures in
    record {
      is = kept_bare c.self.inside.marks.bits c.self.inside.values c.args.number r _ c.self.view_is (omega (arith, c.requires, c.self.invariant)) (sym c.has.ensures ∙ c.if-has.true)
          ∙ ap Some (sym (c.bare.ensures ∙ ap bare read));
    }

pub returns : goal.returns
returns c =
    let r = c.index-self-number.result in
    let read = c.deref-value.ensures in
    record {
      is = kept_whole c.self.inside.marks.bits c.self.inside.values c.args.number r _ c.self.view_is (omega (arith, c.requires, c.self.invariant)) (sym c.has.ensures ∙ c.if-has.false)
          ∙ ap Some (sym read);
    }
