use Rattle.std.proofs.Common.{rules, ◌≡◌, List, ◌∙◌, ap, sym, subst}
use Rattle.bpf_helpers.specs.declared.worker.WorkerView.{WorkerView}
use Rattle.shared_maps.specs.Tables.{Place}
use Rattle.bpf_helpers.specs.Hooked.{IsFitting}
use Rattle.bpf_helpers.specs.HookPorts.{given_by}
use Rattle.hook_judge.specs.Counted.{Counted}
use Rattle.hook_judge.specs.declared.judge.SetJudge.{SetJudge}
use Rattle.ap_model.specs.Readings.{Rules}
use Rattle.ap_locked.specs.Kept.{readings_of}
use Rattle.ap_locked.specs.Tokens as tokens
use Rattle.ap_shards.specs.Desks.{ByDesk}
use Rattle.ap_shards.specs.Fates.{Adds}
use Rattle.ap_shards.proofs.Adding.{adds}
use Rattle.ap_shards.proofs.Judging.{by_desk}
use Rattle.hook_judge.proofs.Judging.{judged}
use Rattle.ap_shards.proofs.decisions.decide_at.Goals as goal

pub returns-in-Ok-clause-fate : goal.returns-in-Ok-clause-fate
returns-in-Ok-clause-fate g c =
    let rs : Rules = tokens.rules g.row.SHARD g.B.Journals.config in
    let d = c.in-Ok.ensures.entry in
    let j = c.new-judge.result in
    let k = c.decide.new.judge in
    let r = readings_of c.args.locked.now in
    let name = (judged j k d.asked d.listed).0.state ∙ c.new-judge.ensures.same_state in
    let view = ap given_by c.new-judge.ensures.view ∙ (λ i. record { maps = c.args.desk.maps.now; worker = c.args.desk.worker; clock = c.clock.ensures i; stations = c.stations.result }) in
    let added : Adds (ByDesk c.args.desk c.args.state.now k.state.now) rs c.args.mine.now c.args.event.now c.in-Ok.outs.items c.in-Ok.dropped c.decide.new.mine =
    adds (ByDesk c.args.desk c.args.state.now k.state.now) rs {k2 = c.decide.new.self} {t2 = c.decide.new.mine} {j2 = k} c.in-Ok.ensures.holds d
    (λ asked listed. by_desk c.args.desk c.args.state.now k.state.now r c.stations.result j asked c.stations.ensures.are view c.new-judge.ensures.set c.new-judge.ensures.state (judged j k asked listed).1) in
    subst (λ (h : Counted). Adds (ByDesk c.args.desk c.args.state.now h) rs c.args.mine.now c.args.event.now c.in-Ok.outs.items c.in-Ok.dropped c.decide.new.mine) (search rules) added

pub returns-in-Ok-clause-fitting : goal.returns-in-Ok-clause-fitting
returns-in-Ok-clause-fitting g c =
    let d = c.in-Ok.ensures.entry in
    let j = c.new-judge.result in
    let k = c.decide.new.judge in
    let keeps = (judged j k d.asked d.listed).0 in
    let name = keeps.state ∙ c.new-judge.ensures.same_state in
    let fits : IsFitting c.args.desk.maps.now c.args.desk.worker k.state.now.seats =
    subst (λ (v : WorkerView). IsFitting v.maps.now v.worker k.state.now.seats) (keeps.view ∙ c.new-judge.ensures.view) k.fitting in
    subst (λ (s : List Place). IsFitting c.args.desk.maps.now c.args.desk.worker s) (search rules) fits

pub returns-in-Err-clause-holds : goal.returns-in-Err-clause-holds
returns-in-Err-clause-holds g c =
    let same = c.in-Err.ensures.refused.2 in
    let name = ap (λ (j : SetJudge). j.state.ghost_name) same ∙ c.new-judge.ensures.same_state in
    subst (λ (h : Counted). h ≡ c.args.state.now) (search rules) (ap (λ (j : SetJudge). j.state.now) same ∙ c.new-judge.ensures.state)

pub returns-in-Err-clause-fitting : goal.returns-in-Err-clause-fitting
returns-in-Err-clause-fitting g c =
    let same = c.in-Err.ensures.refused.2 in
    let name = ap (λ (j : SetJudge). j.state.ghost_name) same ∙ c.new-judge.ensures.same_state in
    let was : IsFitting c.args.desk.maps.now c.args.desk.worker c.decide.new.judge.state.now.seats =
    subst (λ (h : Counted). IsFitting c.args.desk.maps.now c.args.desk.worker h.seats) (sym (ap (λ (j : SetJudge). j.state.now) same ∙ c.new-judge.ensures.state)) c.requires in
    subst (λ (s : List Place). IsFitting c.args.desk.maps.now c.args.desk.worker s) (search rules) was
