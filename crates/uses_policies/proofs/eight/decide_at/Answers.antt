use Rattle.std.proofs.Common.{rules, ◌≡◌, ◌∙◌, ap, sym, subst}
use Rattle.bpf_helpers.specs.declared.worker.WorkerView.{WorkerView}
use Rattle.bpf_helpers.specs.HookPorts.{given_by}
use Rattle.bpf_helpers.specs.Hooked.{IsFitting}
use Rattle.hook_judge.specs.Counted.{Counted}
use Rattle.ap_model.specs.AccessPoint.{asked_of}
use Rattle.ap_core.specs.AccessPoints.{readings_of, outs_in}
use Rattle.hook_judge.specs.Judges as judges
use Rattle.uses_policies.specs.Policed.{loads_of, IsGiven}
use Rattle.uses_policies.proofs.Conclusions.{fits_after}
use Rattle.uses_policies.proofs.Policing.{one_policed}
use Rattle.hook_judge.proofs.Judging.{judged}
use Rattle.uses_policies.proofs.eight.decide_at.Goals as goal

pub returns-clause-policed : goal.returns-clause-policed
returns-clause-policed c =
    let j = c.new-judge.result in
    let p = c.args.policies in
    let old = c.args.shards.now in
    let same : judges.loads_of j ≡ loads_of p = ap (λ s. s.now.loads) c.new-judge.ensures.set in
    one_policed judged p old c.handle_all.new.shards c.args.event.now c.index-event-0.result j c.handle_all.new.judge
    (outs_in c.in_ok-results.results.items) c.requires.one c.index-event-0.is c.in_ok-results.ensures.run same
    (λ s at. subst (λ (v : WorkerView). IsGiven p (readings_of old s) (given_by v)) (sym c.new-judge.ensures.view) (c.view_at-view.ensures.given s at))

pub returns-clause-seats : goal.returns-clause-seats
returns-clause-seats c =
    let j = c.new-judge.result in
    let k = c.handle_all.new.judge in
    let p = c.args.policies in
    let led = c.in_ok-results.ensures.run.leads in
    let keeps = (judged j k (asked_of led.turns) led.listed).0 in
    let made : (h' : Counted) → (_ ≡ k.state.ghost_name → h' ≡ k.state.now) → IsFitting p.maps.now p.worker h'.seats =
    λ h' written. fits_after p j k (rw c.new-judge.ensures.view c.view_at-view.ensures.maps) (rw c.new-judge.ensures.view c.view_at-view.ensures.worker) keeps h' (λ name. written (sym c.new-judge.ensures.same_state ∙ name)) in
    search (rules, made)
