use Rattle.std.proofs.Common.{rules, ◌≡◌, ◌∷◌, [], ℕ, Some, None, refl, ap, sym, ◌∙◌, subst}
use Rattle.std.specs.Option.{option_map}
use Rattle.bpf_helpers.specs.declared.worker.WorkerView.{WorkerView}
use Rattle.bpf_helpers.specs.Hooked.{Held}
use Rattle.bpf_helpers.specs.HookPorts.{given_by}
use Rattle.ap_model.specs.declared.event.Event.TheVariants as event
use Rattle.ap_core.specs.AccessPoints.{readings_of}
use Rattle.program_judge.specs.declared.judge.ProgramJudge.{ProgramJudge}
use Rattle.ap_model.specs.AccessPoint.{asked_of, shard_of}
use Rattle.program_judge.proofs.Judging.{judged}
use Rattle.ap_single.specs.Leading.{Parts, IsGiven, IsLike, Leads}
use Rattle.ap_single.proofs.Leading.{led_by, like_by, some_is}
use Rattle.ap_single.proofs.access_point.AccessPoint.receive.Goals as goal

pub returns-clause-led : goal.returns-clause-led
returns-clause-led c =
    let a : Parts = record { shards = c.self.inside.shards; programs = c.self.inside.programs } in
    let a' : Parts = record { shards = c.receive_one.new.shards; programs = c.self.inside.programs } in
    let e = event.Frame c.args.bytes.now in
    let j = c.new-judge.result in
    let k = c.receive_one.new.judge in
    let maps = c.args.maps.now in
    let result = option_map (λ outs. outs.items) c.receive_one.result in
    let ran = c.receive_one.ensures in
    let there : (s : ℕ) → shard_of e ≡ Some s → c.shard_of_bytes.result ≡ s = λ s at. c.shard_of_bytes.ensures.is ∙ some_is _ s at in
    let name = (judged j k (asked_of ran.leads.turns) ran.leads.listed).0.state ∙ c.new-judge.ensures.same_state in
    let led : Leads a e maps j.state.now result a' k.state.now =
    led_by a a' e maps j k result ran
    (λ s at. subst (λ (v : WorkerView). IsGiven maps (readings_of a.shards s) (given_by v)) (sym c.new-judge.ensures.view)
    (subst (λ (n : ℕ). IsGiven maps (readings_of a.shards n) (given_by c.view_in-view.result)) (there s at) c.view_in-view.ensures.given))
    (ap (λ p. p.now) c.new-judge.ensures.programs) refl in
    let from : Leads a e maps c.args.state.now result a' k.state.now = subst (λ (h : Held). Leads a e maps h result a' k.state.now) c.new-judge.ensures.state led in
    subst (λ (h : Held). Leads c.args.self.now e maps c.args.state.now result a' h) (search rules)
    (subst (λ (b : Parts). Leads b e maps c.args.state.now result a' k.state.now) c.self.view_is from)

pub returns-clause-refused : goal.returns-clause-refused
returns-clause-refused c =
    let a : Parts = record { shards = c.self.inside.shards; programs = c.self.inside.programs } in
    let a' : Parts = record { shards = c.receive_one.new.shards; programs = c.self.inside.programs } in
    λ none.
    let like = like_by a a' (event.Frame c.args.bytes.now) _ _ (option_map (λ outs. outs.items) c.receive_one.result ∷ []) c.receive_one.ensures (ap (λ o. option_map (λ outs. outs.items) o ∷ []) none) refl in (
      subst (λ (b : Parts). IsLike b a') c.self.view_is like.0,
      subst (λ (h : Held). h ≡ c.args.state.now) (search rules) (ap (λ (j : ProgramJudge). j.state.now) like.1 ∙ c.new-judge.ensures.state),
    )
