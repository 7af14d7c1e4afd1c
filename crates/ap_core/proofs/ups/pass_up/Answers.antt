use Rattle.std.proofs.Common.{◌≡◌, ℕ, ◌<◌, List, ◌∷◌, ◌++◌, length, All, arith, ap, subst, ◌∙◌, length-append}
use Rattle.ap_model.specs.Readings.{Held}
use Rattle.ap_core.proofs.Lists.{passing_more, middle}
use Rattle.ap_core.proofs.ups.pass_up.Goals as goal

pub push_held-requires-clause-number : goal.push_held-requires-clause-number
push_held-requires-clause-number c =
    let p = c.loop-number.invariant.2 in
    let e : c.args.passed.items ≡ c.loop-number.yielded ++ (c.in-Some.number, c.in-Some.held) ∷ c.next.new.self =
    p.parts ∙ ap (λ (t : List (ℕ × Held)). c.loop-number.yielded ++ t) c.in-Some.ensures.steps in
    middle (λ (q : ℕ × Held). q.0 < 4096) c.loop-number.yielded c.next.new.self (c.in-Some.number, c.in-Some.held)
    (subst (λ (t : List (ℕ × Held)). All (λ q. q.0 < 4096) t) e c.requires.numbers)

pub push_held-requires-clause-room : goal.push_held-requires-clause-room
push_held-requires-clause-room c =
    let p = c.loop-number.invariant.2 in
    let e : c.args.passed.items ≡ c.loop-number.yielded ++ (c.in-Some.number, c.in-Some.held) ∷ c.next.new.self =
    p.parts ∙ ap (λ (t : List (ℕ × Held)). c.loop-number.yielded ++ t) c.in-Some.ensures.steps in
    omega (arith, ap length e, length-append c.loop-number.yielded ((c.in-Some.number, c.in-Some.held) ∷ c.next.new.self), p.few, c.requires.room, c.len-count.ensures.value, c.loop-number.invariant.3, c.loop-number.outs.ok.0, c.args.outs.now.ok.0)

pub loop-number-preserved : goal.loop-number-preserved
loop-number-preserved c = (
  tt,
  tt,
  passing_more c.args.station c.args.tid c.args.passed.items c.args.outs.now.items c.loop-number.yielded c.loop-number.number-iterator c.next.new.self
      c.loop-number.outs.items c.push_held.new.outs.items c.in-Some.number c.in-Some.held c.loop-number.invariant.2 c.in-Some.ensures.steps c.push_held.ensures.outs
      (omega (arith, c.push_held.ensures.len, c.loop-number.outs.ok.0, c.push_held.new.outs.ok.0)),
  c.push_held.ensures.capacity ∙ c.loop-number.invariant.3,
)
