use Rattle.std.proofs.Common.{◌≡◌, ◌++◌, ◌+◌, ◌-◌, ℕ, List, Option, [], take, drop, sym, ap, subst, ◌∙◌, arith}
use Rattle.std.specs.Global.{Vec}
use Rattle.std.specs.Option.{option_map}
use Rattle.std.proofs.lemmas.List.{map-append, take-append-drop, take-take, drop-take}
use Rattle.ap_model.specs.declared.event.Event.{Event}
use Rattle.ap_model.specs.declared.event.Out.{Out}
use Rattle.ap_core.specs.AccessPoints.{outs_in}
use Rattle.uses_policies.specs.Eight.{EventsPoliced}
use Rattle.uses_policies.proofs.Policing.{no_events, events_append}
use Rattle.uses_policies.proofs.eight.go_on.Goals as goal

pub loop-at-init : goal.loop-at-init
loop-at-init c = record {
  policed =
      subst (λ (t : List (Option (Vec Out))). EventsPoliced c.args.policies c.args.shards.now [] (outs_in t) c.args.shards.now)
      (sym c.new-results.ensures.items) (no_events c.args.policies c.args.shards.now);
  place = c.requires.place;
  seats = c.requires.seats;
  within = omega arith;
}

-- one more event
one_more : (i n : ℕ) (xs : List Event) → n ≡ 1 → take (i + 1) xs ≡ take i xs ++ take n (drop i xs)
one_more i n xs one =
    sym (take-append-drop i (take (i + 1) xs))
    ∙ (ap (λ (t : List Event). t ++ drop i (take (i + 1) xs)) (take-take i (i + 1) xs (omega arith))
    ∙ ap (λ (t : List Event). take i xs ++ t) (drop-take i 1 xs ∙ ap (λ (m : ℕ). take m (drop i xs)) (sym one)))

pub loop-at-preserved : goal.loop-at-preserved
loop-at-preserved c =
    let l = c.loop-at in
    let p = c.args.policies in
    let events = c.args.events.now in
    let n : ℕ = l.at + 1 - l.at in
    let low = c.loop-at-test.true in
    let taken : take (l.at + 1) events ≡ take l.at events ++ take n (drop l.at events) = one_more l.at n events (omega arith) in
    let listed : outs_in c.append.new.self.items ≡ outs_in l.results.items ++ outs_in c.in_ok-one.one.items =
    ap outs_in c.in_ok-append.ensures.items ∙ map-append (option_map (λ (outs : Vec Out). outs.items)) l.results.items c.in_ok-one.one.items in
    record {
      policed =
          subst (λ (es : List Event). EventsPoliced p c.args.shards.now es (outs_in c.append.new.self.items) c.decide_at.new.shards) (sym taken)
          (subst (λ (t : List (Option (List Out))). EventsPoliced p c.args.shards.now (take l.at events ++ take n (drop l.at events)) t c.decide_at.new.shards) (sym listed)
          (events_append p c.args.shards.now l.shards c.decide_at.new.shards (take l.at events) (take n (drop l.at events)) (outs_in l.results.items) (outs_in c.in_ok-one.one.items)
          l.invariant.policed c.in_ok-one.ensures.policed));
      place = c.in_ok-one.ensures.place;
      seats = c.in_ok-one.ensures.seats;
      within = omega (arith, low);
    }
