-- What one event leads to, by the verdicts of programs.
use Rattle.std.proofs.Common.{◌≡◌, ℕ, Option, Some, None, List, [], ◌∷◌, subst, Bor}
use Rattle.std.specs.Option.{option_map}
use Rattle.bpf_helpers.specs.declared.worker.WorkerView.{WorkerView}
use Rattle.bpf_helpers.specs.HookPorts.{given_by}
use Rattle.ap_model.specs.declared.event.Event.{Event}
use Rattle.ap_model.specs.declared.event.Out.{Out}
use Rattle.ap_model.specs.Asks.{Answered}
use Rattle.ap_model.specs.AccessPoint.{shard_of, asked_of}
use Rattle.ap_core.specs.declared.shard.Shard.{Shard}
use Rattle.ap_core.specs.AccessPoints.{readings_of, RunsAll}
use Rattle.program_judge.specs.Programs.{Programs}
use Rattle.apd_eval.specs.Rulings.{GivesRuling}
use Rattle.apd_eval.specs.Witnesses.{Witnesses, heard_by}
use Rattle.ap_single.specs.Leading.{IsGiven}
use Rattle.apd_eval.specs.Leading.{Leads}
use Rattle.apd_eval.specs.declared.ruling.Ruling.{Ruling}
use Rattle.apd_eval.specs.declared.tried.Policy.{Policy}
use Rattle.apd_eval.specs.declared.witness.Witness.{Witness}
use Rattle.apd_eval.proofs.Kept.{given}

module _ (p : Policy) (e : Event) (shards shards' : List Shard) (j k : Witness) (v : WorkerView) where
  pub led : (result : Option (List Out)) (last : Option Ruling) → RunsAll Witnesses shards (e ∷ []) j (result ∷ []) shards' k → last ≡ k.last
      → j.programs ≡ p.programs → j.view ≡ v → ((s : ℕ) → shard_of e ≡ Some s → IsGiven p.maps.now (readings_of shards s) (given_by v)) → j.last ≡ None
      → Leads p e result last shards j.state.now shards' k.state.now
  led result last ran is same viewed reads unasked =
      let run = ran.leads in
      let asks = asked_of run.turns in
      let base = given j k asks run.listed in
      let seen = subst (λ (w : WorkerView). Answered (GivesRuling (given_by w) j.programs.now) (heard_by j) asks (heard_by k)) viewed base in
      let judged = subst (λ (b : Bor Programs). Answered (GivesRuling (given_by v) b.now) (heard_by j) asks (heard_by k)) same seen in
      record {
        given = given_by v;
        is_given = reads;
        leads = record {
          turns = run.turns;
          are = run.are;
          run = run.run;
          listed = rw is (subst (λ (l : Option Ruling). Answered (GivesRuling (given_by v) p.programs.now) (record { held = j.state.now; last = l }) asks (heard_by k)) unasked judged);
        };
        rules = ran.rules;
      }
