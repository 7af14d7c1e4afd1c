-- What callers conclude of one shard.
use Rattle.std.proofs.Common.{◌≡◌, ℕ, List, subst, sym}
use Rattle.std.proofs.Math.Logic.{∥∥₁_map}
use Rattle.ap_model.specs.declared.event.Event.{Event}
use Rattle.ap_model.specs.declared.event.Out.{Out}
use Rattle.ap_model.specs.Asks.{Ask, Answered}
use Rattle.ap_model.specs.Runs.{History}
use Rattle.ap_laws.specs.Headline.{EventsHold, EventHolds as LinkEventHolds}
use Rattle.ap_core.specs.declared.shard.Shard.{Shard}
use Rattle.ap_core.specs.Shards.{reads, ruled, Handles}
use Rattle.bpf_helpers.specs.Hooked.{IsFitting}
use Rattle.bpf_helpers.specs.HookPorts.{given_by}
use Rattle.versions.specs.declared.list.Load.{Load}
use Rattle.hook_judge.specs.Counted.{Counted}
use Rattle.hook_judge.specs.declared.judge.SetJudge.{SetJudge}
use Rattle.hook_judge.specs.Verdicts.{GivesVerdict}
use Rattle.hook_judge.specs.Judges.{Keeps, Judges}
use Rattle.hook_judge.specs.Judges as judges
use Rattle.uses_policies.specs.declared.policies.Policies.{Policies}
use Rattle.uses_policies.specs.Policed.{loads_of, IsGiven}
use Rattle.uses_policies.specs.Headline.{EventHolds}

-- the law of judges
abbrev pub JudgesSo : Type 0
JudgesSo =
    (j k : SetJudge) (asked : List (Ask × ℕ)) → Answered Judges j asked k →
    Keeps j k × Answered (GivesVerdict (given_by j.view) (judges.loads_of j)) j.state.now asked k.state.now

-- the seats still fit
pub fits_after : (p : Policies) (j k : SetJudge) → j.view.maps ≡ p.maps → j.view.worker ≡ p.worker → Keeps j k → (h' : Counted) →
    (j.state.ghost_name ≡ k.state.ghost_name → h' ≡ k.state.now) → IsFitting p.maps.now p.worker h'.seats
fits_after p j k maps worker keeps h' last =
    subst (λ (h : Counted). IsFitting p.maps.now p.worker h.seats) (sym (last (sym keeps.state)))
    (rw (keeps.view, maps, worker) at k.fitting)

-- the queries of a judge, by the policies of which it was made
pub at_one : EventsHold Judges → JudgesSo → (p : Policies) (old new : Shard) (event : Event) (j k : SetJudge) (outs : List Out) (h h' : Counted) →
    ∥ History (ruled old) (reads old) ∥₁ → Handles Judges old event j outs new k →
    judges.loads_of j ≡ loads_of p → IsGiven p (reads old) (given_by j.view) → j.state.now ≡ h → (j.state.ghost_name ≡ k.state.ghost_name → h' ≡ k.state.now) →
    ∥ EventHolds p old event h outs new h' ∥₁
at_one law judged p old new event j k outs h h' some handled same given first last =
    ∥∥₁_map some (λ past.
    let led : LinkEventHolds Judges (ruled old) past.entries event j outs (reads new) k = law (ruled old) (reads old) (reads new) past.entries event j k outs past.run handled in
    let answered = judged j k led.asked led.listed in
    record {
      entries = past.entries;
      before = past.run;
      given = given_by j.view;
      is_given = given;
      asked = led.asked;
      verdicts =
          subst (λ (x : Counted). Answered (GivesVerdict (given_by j.view) (loads_of p)) h led.asked x) (sym (last (sym answered.0.state)))
          (subst (λ (x : Counted). Answered (GivesVerdict (given_by j.view) (loads_of p)) x led.asked k.state.now) first
          (subst (λ (q : List Load). Answered (GivesVerdict (given_by j.view) q) j.state.now led.asked k.state.now) same answered.1));
      holds = led.holds;
    })
