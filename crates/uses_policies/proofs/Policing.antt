-- Link runs under policies.
use Rattle.std.proofs.Common.{◌≡◌, ℕ, ◌<◌, Bool, true, false, cond, Option, Some, List, [], ◌∷◌, ◌++◌, length, get_or, refl, sym, ap, subst, ◌∙◌, arith}
use Rattle.std.proofs.lemmas.List.{append-nil}
use Rattle.std.proofs.lemmas.List.Elements.{All-nil, All-cons}
use Rattle.std.proofs.lemmas.Bool.Decides.{nat_tests}
use Rattle.std.specs.Prelude.{◌==◌}
use Rattle.bpf_helpers.specs.Hooked.{Given}
use Rattle.ap_model.specs.declared.event.Event.{Event}
use Rattle.ap_model.specs.declared.event.Event.TheVariants as event
use Rattle.ap_model.specs.declared.event.Out.{Out}
use Rattle.ap_model.specs.Asks.{Ask, Answered}
use Rattle.ap_model.specs.Readings.{Readings, Rules, Config}
use Rattle.ap_model.specs.Runs.{Entry, Run, rests, goes_on, opening}
use Rattle.ap_model.specs.AccessPoint.{Turn, AreTurns, no_event, refused, at_its_shard, ticked, InPlace, shard_of, entries_of, asked_of}
use Rattle.ap_model.proofs.Appending.{turns_append, entries_append}
use Rattle.ap_laws.specs.Headline.{LinkHolds, AccessPointsHold}
use Rattle.ap_laws.specs.Identifiers.{NoTwoHold}
use Rattle.ap_core.specs.declared.shard.Shard.{Shard}
use Rattle.ap_core.specs.AccessPoints.{rules_of, readings_of, AreFresh, RunsAll}
use Rattle.bpf_helpers.specs.HookPorts.{given_by}
use Rattle.versions.specs.declared.list.Load.{Load}
use Rattle.hook_judge.specs.Counted.{Counted}
use Rattle.hook_judge.specs.declared.judge.SetJudge.{SetJudge}
use Rattle.hook_judge.specs.Verdicts.{GivesVerdict}
use Rattle.hook_judge.specs.Judges.{Judges}
use Rattle.hook_judge.specs.Judges as judges
use Rattle.uses_policies.specs.declared.policies.Policies.{Policies}
use Rattle.uses_policies.specs.Policed.{loads_of, IsGiven, IsVerdict, AreVerdicts, PolicedRun, no_entry, policed}
use Rattle.uses_policies.specs.Eight.{EventsPoliced, rules_by, HeadlineHolds}
use Rattle.uses_policies.proofs.Conclusions.{JudgesSo}

not_cons : {A : Type 0} (x : A) (xs : List A) → [] ≡ x ∷ xs → ⊥
not_cons x xs = λ (none : [] ≡ x ∷ xs). cc

not_nil : {A : Type 0} (x : A) (xs : List A) → x ∷ xs ≡ [] → ⊥
not_nil x xs = λ (none : x ∷ xs ≡ []). cc

tail_is : {A : Type 0} (x y : A) (xs ys : List A) → x ∷ xs ≡ y ∷ ys → xs ≡ ys
tail_is x y xs ys = λ (same : x ∷ xs ≡ y ∷ ys). cc

head_is : {A : Type 0} (x y : A) (xs ys : List A) → x ∷ xs ≡ y ∷ ys → x ≡ y
head_is x y xs ys = λ (same : x ∷ xs ≡ y ∷ ys). cc

-- ---- no event, one event

no_turns : {es : List Event} {rs : List (Option (List Out))} {ts : List Turn} → AreTurns es rs ts → es ≡ [] → ts ≡ []
no_turns no_event q = refl
no_turns (refused e es rs ts t) q = absurd (not_nil e es q)
no_turns (at_its_shard e s es rs ts f t) q = absurd (not_nil e.event es q)
no_turns (ticked n outs es rs ts t) q = absurd (not_nil (event.Tick n) es q)

module _ (p : Policies) (g : Given) where
  -- the verdicts of the programs on these readings
  pub verdicts : (r : Readings) → IsGiven p r g → (h h' : Counted) (asked : List (Ask × ℕ)) → Answered (GivesVerdict g (loads_of p)) h asked h' → AreVerdicts p r asked
  verdicts r given h h' [] same = All-nil (λ (x : Ask × ℕ). IsVerdict p r x.0 x.1)
  verdicts r given h h' (a ∷ asked) answered =
      All-cons (λ (x : Ask × ℕ). IsVerdict p r x.0 x.1) a asked
      (record { given = g; is = given; before = h; after = answered.0; gives = answered.1 })
      (verdicts r given answered.0 h' asked answered.2)

  module _ (c : Rules) where
    quiet : {r r2 : Readings} {entries : List Entry} → entries ≡ [] → Run c r entries r2 → PolicedRun p c r entries r2
    quiet q (rests r) = no_entry r
    quiet q (goes_on r mid r2 e later step t) = absurd (not_nil e later q)

    single : {r r2 : Readings} {entries : List Entry} → (e : Entry) (later : List Entry) → entries ≡ e ∷ later → later ≡ [] → AreVerdicts p r e.asked → Run c r entries r2 → PolicedRun p c r entries r2
    single e later q none all (rests r) = absurd (not_cons e later q)
    single e later q none all (goes_on r mid r2 e2 later2 step t) =
        policed r mid r2 e2 later2
        (subst (λ (x : Entry). AreVerdicts p r x.asked) (sym (head_is e2 e later2 later q)) all)
        step
        (quiet (tail_is e2 e later2 later q ∙ none) t)

  module _ (c : ℕ → Rules) (r r2 : ℕ → Readings) where
    by_shard : (at s : ℕ) (b : Bool) → (at == s) ≡ b → (e : Entry) (later : List Entry) → later ≡ [] → AreVerdicts p (r at) e.asked →
        Run (c s) (r s) (cond b (e ∷ later) later) (r2 s) → PolicedRun p (c s) (r s) (cond b (e ∷ later) later) (r2 s)
    by_shard at s true t e later none all run =
        let same : at ≡ s = grind (arith, nat_tests) in
        single (c s) e later refl none (subst (λ (n : ℕ). AreVerdicts p (r n) e.asked) same all) run
    by_shard at s false t e later none all run = quiet (c s) none run

    pub one_event : {es : List Event} {rs : List (Option (List Out))} {ts : List Turn} → (e : Event) → es ≡ e ∷ [] → AreTurns es rs ts →
        ((s : ℕ) → shard_of e ≡ Some s → IsGiven p (r s) g) → (h h' : Counted) → Answered (GivesVerdict g (loads_of p)) h (asked_of ts) h' →
        (s : ℕ) → Run (c s) (r s) (entries_of s ts) (r2 s) → PolicedRun p (c s) (r s) (entries_of s ts) (r2 s)
    one_event e q no_event given h h' answered s run = absurd (not_cons e [] q)
    one_event e q (refused e2 es rs ts t) given h h' answered s run =
        quiet (c s) (ap (λ (x : List Turn). entries_of s x) (no_turns t (tail_is e2 e es [] q))) run
    one_event e q (at_its_shard e2 at es rs ts f t) given h h' answered s run =
        let none : ts ≡ [] = no_turns t (tail_is e2.event e es [] q) in
        let alone : e2.asked ++ asked_of ts ≡ e2.asked = ap (λ (x : List Turn). e2.asked ++ asked_of x) none ∙ append-nil e2.asked in
        let concerned : shard_of e ≡ Some at = ap (λ (x : Event). shard_of x) (sym (head_is e2.event e es [] q)) ∙ f in
        by_shard at s (at == s) refl e2 (entries_of s ts) (ap (λ (x : List Turn). entries_of s x) none)
        (verdicts (r at) (given at concerned) h h' e2.asked
        (subst (λ (l : List (Ask × ℕ)). Answered (GivesVerdict g (loads_of p)) h l h') alone answered))
        run
    one_event e q (ticked n outs es rs ts t) given h h' answered s run =
        single (c s) (record { event = event.Tick n; asked = []; outs = outs s }) (entries_of s ts) refl
        (ap (λ (x : List Turn). entries_of s x) (no_turns t (tail_is (event.Tick n) e es [] q)))
        (All-nil (λ (x : Ask × ℕ). IsVerdict p (r s) x.0 x.1)) run

-- ---- appending

module _ (p : Policies) where
  policed_append : (c : Rules) {r mid r2 : Readings} {es fs : List Entry} → PolicedRun p c r es mid → PolicedRun p c mid fs r2 → PolicedRun p c r (es ++ fs) r2
  policed_append c (no_entry r) h = h
  policed_append c (policed r mid r2 e later all step t) h = policed r mid _ e _ all step (policed_append c t h)

  pub is_run : (c : Rules) {r r2 : Readings} {es : List Entry} → PolicedRun p c r es r2 → Run c r es r2
  is_run c (no_entry r) = rests r
  is_run c (policed r mid r2 e later all step t) = goes_on r mid r2 e later step (is_run c t)

  pub no_events : (shards : List Shard) → EventsPoliced p shards [] [] shards
  no_events shards = record { turns = []; are = no_event; runs = λ s lt. no_entry (readings_of shards s); rules = λ s. refl }

  pub events_append : (old mid new : List Shard) (es fs : List Event) (rs ss : List (Option (List Out))) →
      EventsPoliced p old es rs mid → EventsPoliced p mid fs ss new → EventsPoliced p old (es ++ fs) (rs ++ ss) new
  events_append old mid new es fs rs ss one then =
      record {
        turns = one.turns ++ then.turns;
        are = turns_append one.are then.are;
        runs = λ s lt.
            subst (λ (t : List Entry). PolicedRun p (rules_of old s) (readings_of old s) t (readings_of new s)) (sym (entries_append s one.turns then.turns))
            (policed_append (rules_of old s) (one.runs s lt)
            (subst (λ (c : Rules). PolicedRun p c (readings_of mid s) (entries_of s then.turns) (readings_of new s)) (one.rules s) (then.runs s lt)));
        rules = λ s. then.rules s ∙ one.rules s;
      }

-- ---- by a judge

one_of : (xs : List Event) (d : Event) → length xs ≡ 1 → xs ≡ get_or xs 0 d ∷ []
one_of [] d one = absurd (omega (arith, one))
one_of (x ∷ []) d one = refl
one_of (x ∷ y ∷ xs) d one = absurd (omega (arith, one))

-- what one event leads to
pub one_policed : JudgesSo → (p : Policies) (old new : List Shard) (events : List Event) (e : Event) (j k : SetJudge) (results : List (Option (List Out))) →
    length events ≡ 1 → e ≡ get_or events 0 e → RunsAll Judges old events j results new k → judges.loads_of j ≡ loads_of p →
    ((s : ℕ) → shard_of e ≡ Some s → IsGiven p (readings_of old s) (given_by j.view)) → EventsPoliced p old events results new
one_policed judged p old new events e j k results one is ran same given =
    let led = ran.leads in
    let alone : events ≡ e ∷ [] = one_of events e one ∙ ap (λ (x : Event). x ∷ []) (sym is) in
    let answered : Answered (GivesVerdict (given_by j.view) (loads_of p)) j.state.now (asked_of led.turns) k.state.now =
    subst (λ (q : List Load). Answered (GivesVerdict (given_by j.view) q) j.state.now (asked_of led.turns) k.state.now) same
    (judged j k (asked_of led.turns) led.listed).1 in
    record {
      turns = led.turns;
      are = led.are;
      runs = λ s lt. one_event p (given_by j.view) (rules_of old) (readings_of old) (readings_of new) e alone led.are given j.state.now k.state.now answered s (led.run s lt);
      rules = ran.rules;
    }

-- ---- the link's laws

module _ {S : Type 0} (R : S → Ask → ℕ → S → Type 0) (law : AccessPointsHold R) (j : S) where
  pub all_hold : (c : ℕ → Rules) (entries : ℕ → List Entry) (r : ℕ → Readings) → InPlace c → ((s : ℕ) → s < 8 → Run (c s) opening (entries s) (r s)) →
      ((s : ℕ) → s < 8 → LinkHolds (c s) (entries s) (r s)) × NoTwoHold r
  all_hold c entries r place runs =
      let h = law c r r entries [] j j [] place runs (record { turns = []; are = no_event; run = λ s lt. rests (r s); listed = refl }) in
      let none : h.turns ≡ [] = no_turns h.are refl in (
        λ s lt. subst (λ (es : List Entry). LinkHolds (c s) es (r s)) (ap (λ (x : List Turn). entries s ++ entries_of s x) none ∙ append-nil (entries s)) (h.shards s lt),
        h.identifiers,
      )

  -- shards that have handled nothing
  pub from_nobody : (p : Policies) (config : Config) (old new : List Shard) (events : List Event) (results : List (Option (List Out))) →
      AreFresh config old → EventsPoliced p old events results new → HeadlineHolds p config events results
  from_nobody p config old new events results fresh went =
      let runs : (s : ℕ) → s < 8 → PolicedRun p (rules_by config s) opening (entries_of s went.turns) (readings_of new s) = λ s lt.
      subst (λ (c : Rules). PolicedRun p c opening (entries_of s went.turns) (readings_of new s)) (fresh.rules s lt)
      (subst (λ (r : Readings). PolicedRun p (rules_of old s) r (entries_of s went.turns) (readings_of new s)) (fresh.readings s lt) (went.runs s lt)) in
      let h = all_hold (rules_by config) (λ s. entries_of s went.turns) (readings_of new) (λ s lt. refl) (λ s lt. is_run p (rules_by config s) (runs s lt)) in
      record {
        turns = went.turns;
        are = went.are;
        readings = readings_of new;
        policed = runs;
        link = h.0;
        identifiers = h.1;
      }
