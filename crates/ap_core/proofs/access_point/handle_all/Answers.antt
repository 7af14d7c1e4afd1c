use Rattle.std.proofs.Common.{◌≡◌, ◌+◌, ◌++◌, List, Option, [], ◌∷◌, take, sym, ap, subst, ◌∙◌, arith}
use Rattle.std.specs.Option.{option_map}
use Rattle.std.specs.Global.{Vec}
use Rattle.std.proofs.lemmas.List.{map_push, take_more}
use Rattle.ap_model.specs.declared.event.Event.{Event}
use Rattle.ap_model.specs.declared.event.Out.{Out}
use Rattle.ap_core.specs.AccessPoints.{outs_in, RunsAll}
use Rattle.ap_core.proofs.AccessLaws.{no_events, runs_append}
use Rattle.ap_core.proofs.access_point.handle_all.Goals as goal

pub loop-event-init : goal.loop-event-init
loop-event-init g c =
    record {
      run =
          subst (λ (t : List (Option (Vec Out))). RunsAll g.J.Judge.gives c.args.shards.now [] c.args.judge.now (outs_in t) c.args.shards.now c.args.judge.now)
          (sym c.in_ok-results.ensures.items) (no_events g.J.Judge.gives c.args.shards.now c.args.judge.now);
      many = omega (arith, c.in_ok-results.ensures.len);
      room = omega (arith, c.in_ok-results.ensures.capacity);
    }

pub loop-event-preserved : goal.loop-event-preserved
loop-event-preserved g c =
    let l = c.loop-event in
    let r = c.handle_one-result in
    let taken : take (l.event-index + 1) c.args.events.now ≡ take l.event-index c.args.events.now ++ c.event-item.result ∷ [] =
    take_more c.args.events.now l.event-index c.event-item.result c.loop-event-test.true ∙ ap (λ (e : Event). take l.event-index c.args.events.now ++ e ∷ []) (sym c.event-item.is) in
    let listed : outs_in c.push_reserved.new.self.items ≡ outs_in l.results.items ++ option_map (λ outs. outs.items) r.result ∷ [] =
    ap outs_in c.push_reserved.ensures.items ∙ map_push (option_map (λ (outs : Vec Out). outs.items)) l.results.items r.result in
    record {
      run =
          subst (λ (es : List Event). RunsAll g.J.Judge.gives c.args.shards.now es c.args.judge.now (outs_in c.push_reserved.new.self.items) r.new.shards r.new.judge) (sym taken)
          (subst
          (λ (t : List (Option (List Out))).
          RunsAll g.J.Judge.gives c.args.shards.now (take l.event-index c.args.events.now ++ c.event-item.result ∷ []) c.args.judge.now t r.new.shards r.new.judge)
          (sym listed)
          (runs_append g.J.Judge.gives c.args.shards.now l.shards r.new.shards (take l.event-index c.args.events.now) (c.event-item.result ∷ []) c.args.judge.now l.judge
          r.new.judge (outs_in l.results.items) (option_map (λ outs. outs.items) r.result ∷ []) l.invariant.run r.ensures));
      many = omega (arith, c.push_reserved.ensures.len, l.invariant.many);
      room = omega (arith, c.push_reserved.ensures.capacity, l.invariant.room);
    }
