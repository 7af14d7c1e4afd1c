use Rattle.std.proofs.Common.{rules, ◌≡◌, ap, refl, sym, ◌∙◌}
use Rattle.bpf_helpers.specs.Hooked.{IsFitting}
use Rattle.hook_judge.specs.Counted.{Counted}
use Rattle.bpf_helpers.specs.HookPorts.{given_by}
use Rattle.ap_core.specs.Shards.{reads}
use Rattle.hook_judge.specs.Judges as judges
use Rattle.uses_policies.specs.Policed.{loads_of, IsGiven}
use Rattle.uses_policies.specs.Headline.{EventHolds}
use Rattle.uses_policies.proofs.Conclusions.{at_one, fits_after}
use Rattle.hook_judge.proofs.Judging.{judged}
use Rattle.uses_policies.proofs.one.decide.Goals as goal

pub returns-clause-headline : goal.returns-clause-headline
returns-clause-headline c =
    let j = c.new-judge.result in
    let k = c.handle.new.judge in
    let p = c.args.policies in
    let same : judges.loads_of j ≡ loads_of p = ap (λ s. s.now.loads) c.new-judge.ensures.set in
    let given : IsGiven p (reads c.args.shard.now) (given_by j.view) = rw c.new-judge.ensures.view (record {
      maps = rw c.view_of.ensures.maps refl;
      worker = c.view_of.ensures.worker;
      clock = c.view_of.ensures.clock;
      stations = c.view_of.ensures.stations;
    }) in
    let made : (h' : Counted) → (_ ≡ k.state.ghost_name → h' ≡ k.state.now) → ∥ EventHolds p c.args.shard.now c.args.event.now c.args.state.now c.in_ok-outs.outs.items c.handle.new.self h' ∥₁ =
    λ h' written. at_one c.link_law.ensures.shard judged p c.args.shard.now c.handle.new.self c.args.event.now j k c.in_ok-outs.outs.items c.args.state.now h'
    c.view_of.ensures.history c.in_ok-outs.ensures.step same given c.new-judge.ensures.state (λ name. written (sym c.new-judge.ensures.same_state ∙ name)) in
    search (rules, made)

pub returns-clause-seats : goal.returns-clause-seats
returns-clause-seats c =
    let j = c.new-judge.result in
    let k = c.handle.new.judge in
    let p = c.args.policies in
    let step = c.in_ok-outs.ensures.step in
    let keeps = (judged j k step.asked step.listed).0 in
    let made : (h' : Counted) → (_ ≡ k.state.ghost_name → h' ≡ k.state.now) → IsFitting p.maps.now p.worker h'.seats =
    λ h' written. fits_after p j k (rw c.new-judge.ensures.view c.view_of.ensures.maps) (rw c.new-judge.ensures.view c.view_of.ensures.worker) keeps h' (λ name. written (sym c.new-judge.ensures.same_state ∙ name)) in
    search (rules, made)
