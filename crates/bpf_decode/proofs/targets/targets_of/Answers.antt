use Rattle.std.proofs.Common.{◌≡◌, ◌++◌, ◌<◌, ◌↔◌, List, Bool, false, IsTrue, take, drop, length, get_or, arith, sym, ap, subst, ◌∙◌}
use Rattle.std.proofs.lemmas.Grind.{common_steps}
use Rattle.bpf_decode.specs.Program.{IsTarget}
use Rattle.bpf_decode.proofs.Marks.{marks_told}
use Rattle.bpf_decode.proofs.targets.targets_of.Goals as goal

pub returns : goal.returns
returns c =
    let back : c.mark_each.new.targets ≡ take c.in_ok-targets.targets.len (c.mark_each.new.targets ++ drop (length c.mark_each.new.targets) c.in_ok-targets.targets.items) = grind (arith, common_steps) in
    let same : length c.deref_mut.result.now ≡ length c.args.slots.now = ap length c.deref_mut.ensures.value ∙ c.in_ok-targets.ensures.len in
    record {
      told = λ t. subst (λ (v : List Bool). IsTrue (get_or v t false) ↔ ((t < length c.args.slots.now) × IsTarget c.args.slots.now t)) back
          (marks_told c.args.slots.now t _ _ _ _ same
          (subst (λ (v : List Bool). IsTrue (get_or v t false) ↔ ((t < length c.args.slots.now) × (t ≡ 0))) (sym c.deref_mut.ensures.value) (c.in_ok-targets.ensures.told t))
          (c.mark_each.ensures.is t));
    }
