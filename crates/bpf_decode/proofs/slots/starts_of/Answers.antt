use Rattle.std.proofs.Common.{◌≡◌, refl, arith, sym, ◌∙◌}
use Rattle.std.proofs.lemmas.Grind.{common_steps}
use Rattle.std.specs.Prelude.{not, ◌&&◌}
use Rattle.bpf_decode.specs.Code.{starts, is_wide}
use Rattle.bpf_decode.proofs.Firsts.{starts_next, told_push}
use Rattle.bpf_decode.proofs.slots.starts_of.Goals as goal

pub loop-at-init : goal.loop-at-init
unfolding starts
loop-at-init c = record { count = grind (arith, common_steps, c.new-table.ensures.items); next = refl; told = λ k h. absurd (grind (arith, common_steps, c.new-table.ensures.items)) }

cc_next : (c : goal.After-next_starts-start) → not (c.loop-at.start && c.begins_wide.result) ≡ not (starts c.args.code.now c.loop-at.at && is_wide c.args.code.now c.loop-at.at)
cc_next c = let a = c.loop-at.invariant.next in let b = c.begins_wide.ensures.is in rw (a, b) refl

pub loop-at-preserved : goal.loop-at-preserved
loop-at-preserved c = record {
  count = grind (arith, common_steps);
  next = c.next_starts-start.ensures.is ∙ cc_next c ∙ sym (starts_next c.args.code.now c.loop-at.at);
  told = told_push c.args.code.now c.loop-at.table.items c.push.new.self.items c.loop-at.start c.loop-at.at c.in_ok-push.ensures.items c.loop-at.invariant.count c.loop-at.invariant.next c.loop-at.invariant.told;
}
