use Rattle.std.proofs.Common.{◌≡◌, ◌≤◌, ◌-◌, ◌%◌, ℕ, List, length, sym, ap, ◌∙◌, subst, arith}
use Rattle.ap_model.specs.declared.event.Event.{Event}
use Rattle.ap_model.specs.declared.event.Event.TheVariants.{Tick}
use Rattle.ap_queues.specs.Items.{Item}
use Rattle.ap_queues.specs.Lines.{puts_of, WasFullAt}
use Rattle.ap_queues.specs.Putting.{item, served, with_item}
use Rattle.ap_queues.proofs.Steps.{served_next}
use Rattle.ap_queues.proofs.lines.lines.EventLines.submit_at.Goals as goal

pub loop-next-init : goal.loop-next-init
loop-next-init g c =
    let none : c.args.shard - c.args.shard ≡ 0 = omega arith in
    record {
      own = c.requires.own;
      put = ap (λ (n : ℕ). served (puts_of c.args.operator.now) c.args.call c.args.event c.args.shard n) (sym none);
    }

pub put_one-requires : goal.put_one-requires
put_one-requires g c = record { own = c.loop-next.invariant.own }

pub loop-next-preserved : goal.loop-next-preserved
loop-next-preserved g c =
    let puts : List (List Item) = puts_of c.args.operator.now in
    let next : ℕ = c.loop-next.next in
    let low : c.args.shard ≤ next = c.loop-next.auto.next in
    record {
      own = c.put_one.ensures.own;
      put =
          c.in_default-put_one.ensures.put
          ∙ (ap (λ (ps : List (List Item)). with_item ps (item c.args.call next (Tick c.in-Tick.units))) c.loop-next.invariant.put
          ∙ (ap (λ (e : Event). with_item (served puts c.args.call c.args.event c.args.shard (next - c.args.shard)) (item c.args.call next e)) (sym c.in-Tick.is)
          ∙ served_next puts c.args.call c.args.event c.args.shard next low));
    }

pub returns-in-Err-clause-refused : goal.returns-in-Err-clause-refused
returns-in-Err-clause-refused g c =
    let next : ℕ = c.loop-next.next in
    let low : c.args.shard ≤ next = c.loop-next.auto.next in
    let is = c.item.view_is ∙ c.in-Err.ensures.back in
    let shard_is : c.item.inside.shard ≡ next = ap (λ (x : Item). x.shard) is in
    record {
      event = ap (λ (x : Item). x.event) is ∙ sym c.in-Tick.is;
      first_is = omega arith;
      within = omega arith;
      before = c.in-Err.ensures.refused ∙ (c.loop-next.invariant.put ∙ ap (λ (n : ℕ). served (puts_of c.args.operator.now) c.args.call c.args.event c.args.shard (n - c.args.shard)) (sym shard_is));
      full = subst (λ (n : ℕ). WasFullAt (n % length c.args.self.now) c.put_one.new.operator) (sym shard_is) c.in-Err.ensures.full;
    }

pub returns-clause-own : goal.returns-clause-own
returns-clause-own g c = c.loop-next.invariant.own

pub returns-clause-put : goal.returns-clause-put
returns-clause-put g c =
    let all : c.loop-next.next ≡ 8 = omega arith in
    c.loop-next.invariant.put ∙ ap (λ (n : ℕ). served (puts_of c.args.operator.now) c.args.call c.args.event c.args.shard (n - c.args.shard)) all
