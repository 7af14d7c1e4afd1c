-- What one event leads to.
use Rattle.std.proofs.Common.{◌≡◌, ℕ, ◌<◌, Option, Some, None, List, [], ◌∷◌, suc, length, refl, sym, ap, subst}
use Rattle.bpf_helpers.specs.Tables.{Tables}
use Rattle.bpf_helpers.specs.Hooked.{Given, Held}
use Rattle.bpf_helpers.specs.HookPorts.{given_by}
use Rattle.ap_model.specs.declared.event.Event.{Event}
use Rattle.ap_model.specs.declared.event.Event.TheVariants as event
use Rattle.ap_model.specs.declared.event.Out.{Out}
use Rattle.ap_model.specs.Asks.{Ask, Answered}
use Rattle.ap_model.specs.Readings.{Readings, Rules}
use Rattle.ap_model.specs.Runs.{Entry, Run, rests, goes_on}
use Rattle.ap_model.specs.AccessPoint.{Turn, AreTurns, no_event, refused, at_its_shard, ticked, EventsLead, shard_of, entries_of, asked_of}
use Rattle.ap_core.specs.AccessPoints.{rules_of, readings_of, RunsAll}
use Rattle.program_judge.specs.declared.judge.ProgramJudge.{ProgramJudge}
use Rattle.program_judge.specs.Judges.{Judges}
use Rattle.program_judge.specs.Programs.{Programs}
use Rattle.program_judge.specs.Verdicts.{GivesVerdict}
use Rattle.program_judge.proofs.Judging.{judged}
use Rattle.ap_single.specs.Leading.{Parts, IsGiven, IsLike, Leads}

not_cons : {A : Type 0} (x : A) (xs : List A) → [] ≡ x ∷ xs → ⊥
not_cons x xs = λ (none : [] ≡ x ∷ xs). cc

not_nil : {A : Type 0} (x : A) (xs : List A) → x ∷ xs ≡ [] → ⊥
not_nil x xs = λ (none : x ∷ xs ≡ []). cc

not_some : {A : Type 0} (x : A) → Some x ≡ None → ⊥
not_some x = λ (none : Some x ≡ None). cc

tail_is : {A : Type 0} (x y : A) (xs ys : List A) → x ∷ xs ≡ y ∷ ys → xs ≡ ys
tail_is x y xs ys = λ (same : x ∷ xs ≡ y ∷ ys). cc

head_is : {A : Type 0} (x y : A) (xs ys : List A) → x ∷ xs ≡ y ∷ ys → x ≡ y
head_is x y xs ys = λ (same : x ∷ xs ≡ y ∷ ys). cc

pub some_is : {A : Type 0} (x y : A) → Some x ≡ Some y → x ≡ y
some_is x y = λ (same : Some x ≡ Some y). cc

pub as_many : {es : List Event} {rs : List (Option (List Out))} {ts : List Turn} → AreTurns es rs ts → length rs ≡ length es
as_many no_event = refl
as_many (refused e es rs ts t) = ap suc (as_many t)
as_many (at_its_shard e s es rs ts f t) = ap suc (as_many t)
as_many (ticked n outs es rs ts t) = ap suc (as_many t)

pub no_turns : {es : List Event} {rs : List (Option (List Out))} {ts : List Turn} → AreTurns es rs ts → es ≡ [] → ts ≡ []
no_turns no_event q = refl
no_turns (refused e es rs ts t) q = absurd (not_nil e es q)
no_turns (at_its_shard e s es rs ts f t) q = absurd (not_nil e.event es q)
no_turns (ticked n outs es rs ts t) q = absurd (not_nil (event.Tick n) es q)

-- one refused event has no turn
none_there : {es : List Event} {rs : List (Option (List Out))} {ts : List Turn} → (e : Event) → AreTurns es rs ts → es ≡ e ∷ [] → rs ≡ None ∷ [] → ts ≡ []
none_there e no_event q n = refl
none_there e (refused e2 es rs ts t) q n = no_turns t (tail_is e2 e es [] q)
none_there e (at_its_shard e2 s es rs ts f t) q n = absurd (not_some e2.outs (head_is (Some e2.outs) None rs [] n))
none_there e (ticked k outs es rs ts t) q n = absurd (not_some _ (head_is _ None rs [] n))

stays : {c : Rules} {r r2 : Readings} {entries : List Entry} → entries ≡ [] → Run c r entries r2 → r2 ≡ r
stays q (rests r) = refl
stays q (goes_on r mid r2 e later step t) = absurd (not_nil e later q)

module _ {S : Type 0} (R : S → Ask → ℕ → S → Type 0) (c : ℕ → Rules) (r r2 : ℕ → Readings) (e : Event) (j k : S) where
  -- a refused event leaves the readings
  pub readings_stay : EventsLead R c r (e ∷ []) j (None ∷ []) r2 k → (s : ℕ) → s < 8 → r2 s ≡ r s
  readings_stay led s low = stays (ap (λ (ts : List Turn). entries_of s ts) (none_there e led.are refl refl)) (led.run s low)

  -- and the judge
  pub judge_stays : EventsLead R c r (e ∷ []) j (None ∷ []) r2 k → k ≡ j
  judge_stays led = subst (λ (ts : List Turn). Answered R j (asked_of ts) k) (none_there e led.are refl refl) led.listed

module _ (a a' : Parts) (e : Event) where
  -- a refused event changes nothing
  pub like_by : (j k : ProgramJudge) (rs : List (Option (List Out))) → RunsAll Judges a.shards (e ∷ []) j rs a'.shards k → rs ≡ None ∷ [] → a'.programs ≡ a.programs → IsLike a a' × (k ≡ j)
  like_by j k rs ran none kept =
      let led = subst (λ (x : List (Option (List Out))). EventsLead Judges (rules_of a.shards) (readings_of a.shards) (e ∷ []) j x (readings_of a'.shards) k) none ran.leads in (
        record {
          readings = readings_stay Judges (rules_of a.shards) (readings_of a.shards) (readings_of a'.shards) e j k led;
          rules = ran.rules;
          programs = kept;
        },
        judge_stays Judges (rules_of a.shards) (readings_of a.shards) (readings_of a'.shards) e j k led,
      )

  -- and is reported as refused
  pub refused_led : (maps : List Tables) (h h' : Held) (g : Given) → ((s : ℕ) → shard_of e ≡ Some s → IsGiven maps (readings_of a.shards s) g) → IsLike a a' → h' ≡ h → Leads a e maps h None a' h'
  refused_led maps h h' g given like same =
      record {
        given = g;
        is_given = given;
        leads = record {
          turns = [];
          are = refused e [] [] [] no_event;
          run = λ s low. subst (λ (r : Readings). Run (rules_of a.shards s) (readings_of a.shards s) [] r) (sym (like.readings s low)) (rests (readings_of a.shards s));
          listed = same;
        };
        rules = like.rules;
        programs = like.programs;
      }

  -- what a judge by the programs leads to
  pub led_by : (maps : List Tables) (j k : ProgramJudge) (result : Option (List Out)) → RunsAll Judges a.shards (e ∷ []) j (result ∷ []) a'.shards k → ((s : ℕ) → shard_of e ≡ Some s → IsGiven maps (readings_of a.shards s) (given_by j.view)) → j.programs.now ≡ a.programs → a'.programs ≡ a.programs → Leads a e maps j.state.now result a' k.state.now
  led_by maps j k result ran given same kept =
      record {
        given = given_by j.view;
        is_given = given;
        leads = record {
          turns = ran.leads.turns;
          are = ran.leads.are;
          run = ran.leads.run;
          listed = subst (λ (p : Programs). Answered (GivesVerdict (given_by j.view) p) j.state.now (asked_of ran.leads.turns) k.state.now) same (judged j k (asked_of ran.leads.turns) ran.leads.listed).1;
        };
        rules = ran.rules;
        programs = kept;
      }
