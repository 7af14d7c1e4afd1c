use Rattle.std.proofs.Common.{◌≡◌, ◌↔◌, List, Bool, false, IsTrue, slice_index_or, ap, subst, sym, ◌∙◌}
use Rattle.bpf_decode.specs.Program.{Code, IsTarget}
use Rattle.bpf_decode.proofs.program.Program.is_target.Goals as goal

pub returns : goal.returns
returns c =
    let told = c.self.invariant.told c.args.pc in
    let same : c.marked.result ≡ slice_index_or c.self.inside.targets.items c.args.pc false =
    c.marked.ensures.is ∙ ap (λ (t : List Bool). slice_index_or t c.args.pc false) c.deref.ensures.value in
    record {
      is = subst (λ (v : Code). IsTrue c.marked.result ↔ IsTarget v.slots c.args.pc) c.self.view_is
          (subst (λ (b : Bool). IsTrue b ↔ IsTarget c.self.inside.slots.items c.args.pc) (sym same) told);
    }
