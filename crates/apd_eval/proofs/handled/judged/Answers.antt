use Rattle.std.proofs.Common.{rules, ◌∙◌, subst}
use Rattle.std.specs.Option.{option_map}
use Rattle.apd_eval.specs.Metered.{Metered}
use Rattle.apd_eval.specs.Leading.{Leads}
use Rattle.apd_eval.proofs.Led.{led}
use Rattle.apd_eval.proofs.handled.judged.Goals as goal

pub returns-clause-led : goal.returns-clause-led
returns-clause-led c =
    let k = c.ask.new.judge in
    let x = c.ask.result in
    let outs = option_map (λ outs. outs.items) x.outs in
    let name = c.ask.ensures.keeps.state ∙ c.new-judge.ensures.same_state in
    let made = led c.args.policy c.args.event c.args.shards.now c.ask.new.shards c.new-judge.result k c.view_at-view.result outs x.last c.ask.ensures.run c.ask.ensures.last
    c.new-judge.ensures.programs c.new-judge.ensures.view c.view_at-view.ensures.given c.new-judge.ensures.unasked in
    subst (λ (h : Metered). Leads c.args.policy c.args.event outs x.last c.args.shards.now c.args.state.now c.ask.new.shards h) (search rules)
    (subst (λ (h : Metered). Leads c.args.policy c.args.event outs x.last c.args.shards.now h c.ask.new.shards k.state.now) c.new-judge.ensures.state made)
