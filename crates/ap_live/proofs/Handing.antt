-- What is reported, event by event.
use Rattle.std.proofs.Common.{◌≡◌, ◌<◌, ℕ, Bool, true, false, Option, Some, None, List, [], ◌∷◌, ◌++◌, inl, inr, refl, sym, ap, subst, ◌∙◌, append_assoc, append-nil}
use Rattle.std.specs.Prelude.{◌==◌, IsTrue}
use Rattle.std.proofs.lemmas.List.Elements.{All-nil, All-cons}
use mathlib.Core.List.{IsPrefix}
use Rattle.ap_model.specs.declared.event.Event.{Event}
use Rattle.ap_model.specs.declared.event.Out.{Out}
use Rattle.ap_model.specs.Asks.{Ask, Answered}
use Rattle.ap_model.specs.Readings.{Config, Readings, Rules}
use Rattle.ap_model.specs.Runs.{Entry, rests, goes_on}
use Rattle.ap_model.proofs.Appending.{run_append}
use Rattle.ap_laws.specs.Headline.{LinkHolds, RunsHold}
use Rattle.ap_core.specs.Handles.{rules}
use Rattle.ap_locked.specs.Kept.{entry_of}
use Rattle.ap_locked.specs.Pages.{Page, with_entries}
use Rattle.ap_locked.specs.Tokens.{Token}
use Rattle.ap_queues.specs.declared.item.Queued.{Queued}
use Rattle.ap_shards.specs.Fates.{Acts, Adds, ChangesIf, Comes}
use Rattle.ap_shards.specs.Judged.{JudgedBy, AnyVerdicts}
use Rattle.ap_shards.specs.declared.fate.Fate.{Fate}
use Rattle.ap_shards.specs.declared.fate.Fate.TheVariants.{Decided, Refused, NotHandled}
use Rattle.ap_live.specs.declared.tagged.Tagged.{Tagged}
use Rattle.bpf_helpers.specs.Hooked.{Given}
use Rattle.hook_judge.specs.Counted.{Counted}
use Rattle.bpf_machine.specs.Verified.{Verified}
use Rattle.hook_judge.specs.Verdicts.{GivesVerdict, VerdictOf}
use Rattle.versions.specs.declared.list.Load.{Load}
use Rattle.versions.specs.Numbers.{number_at, numbers_of}
use Rattle.versions.specs.Sets.{Programs, program_at, set_of}
use Rattle.ap_live.specs.Lives.{Live}
use Rattle.ap_live.specs.Serving.{Acted, Becomes, Progress, Served, ServesAll, is_command, progress_of}
use Rattle.ap_live.specs.Tokens.{Operator, Worker}
use Rattle.ap_live.specs.Events.{EntryHolds, FateHolds}
use Rattle.ap_live.specs.Headline.{HandsOn, HoldsOfEach, OperatorHeadline, WorkerHeadline, outs_at, with_outs}
use Rattle.ap_live.specs.Upholding.{token_at}
use Rattle.ap_live.specs.Verdicts.{AreJudged, IsJudged}
use Rattle.ap_live.proofs.AtShards.{at_shard, left_still, refused_still, shard_below}
use Rattle.ap_live.proofs.Growing.{by_shard, command_silent}

-- ---- verdicts

judged_one : (g : Given) (programs : Programs) (load : ℕ) (h h' : Counted) (ask : Ask) (verdict steps : ℕ) (p : Option Verified) → program_at ask.hook programs ≡ p
    → VerdictOf g load p h ask verdict steps h' → IsJudged programs ask verdict
judged_one g programs load h h' ask verdict steps None is v = inl (record { none = is; number = v.0 })
judged_one g programs load h h' ask verdict steps (Some p) is v =
    inr (record {
      accepted = p;
      in_force = is;
      for_hook = v.run.for_hook;
      safe = v.run.safe;
      asked = v.run.asked;
      steps = steps;
      notes = v.run.notes;
      ends = v.run.ends;
      within = v.run.within;
    })

are_judged : (g : Given) (loads : List Load) (h h' : Counted) (asked : List (Ask × ℕ)) → Answered (GivesVerdict g loads) h asked h' → AreJudged (set_of loads) asked
are_judged g loads h h' [] is = All-nil (λ (x : Ask × ℕ). IsJudged (set_of loads) x.0 x.1)
are_judged g loads h h' (x ∷ asked) v =
    All-cons (λ (x : Ask × ℕ). IsJudged (set_of loads) x.0 x.1) x asked
    (judged_one g (set_of loads) (number_at x.0.hook (numbers_of loads)) h v.0 x.0 x.1 v.1.0 (program_at x.0.hook (set_of loads)) refl v.1.1)
    (are_judged g loads v.0 h' asked v.2)

-- ---- one event

module _ (law : RunsHold) (V : Readings → List (Ask × ℕ) → Type 0) where
  -- the link's half of the main theorem, for the journal with its entry
  link_after : (rs : Rules) (t : Token) (e : Event) (outs : List Out) (dropped : Bool) (u : Token) (x : Adds V rs t e outs dropped u)
      → LinkHolds rs (x.before ++ entry_of e x.asked outs ∷ []) x.after
  link_after rs t e outs dropped u x =
      let entry : Entry = entry_of e x.asked outs in
      law rs x.after (x.before ++ entry ∷ []) (run_append rs x.run (goes_on x.readings x.after x.after entry [] x.step (rests x.after)))

  entry_holds : (rs : Rules) → rs.shard < 8 → (t : Token) (e : Event) (outs : List Out) (dropped : Bool) (u : Token) → Adds V rs t e outs dropped u → EntryHolds rs t e outs u
  entry_holds rs low t e outs dropped u x =
      record {
        inside = low;
        before = x.before;
        had_seen = x.had_seen;
        readings = x.readings;
        run = x.run;
        asked = x.asked;
        after = x.after;
        step = x.step;
        seen = x.seen;
        own = x.own;
        page = x.page;
        holds = link_after rs t e outs dropped u x;
      }

module _ (law : RunsHold) (config : Config) (a : Live) (worker : ℕ) where
  fate_holds : (p : Progress) (e : Event) (s : ℕ) (f : Fate) (q : Progress) → Becomes config a worker p e s f q → FateHolds config a worker p e s f q
  fate_holds p e s (Decided outs dropped) q b =
      let V : Readings → List (Ask × ℕ) → Type 0 = JudgedBy a.stock.maps worker q.seen.loads p.held q.held in
      let x = at_shard (λ t u. Comes V (rules s config) t e (Decided outs dropped) u) p.shards q.shards s b.inside b.came in
      record {
        entry = record {
          inside = b.inside;
          before = x.before;
          had_seen = x.had_seen;
          readings = x.readings;
          run = x.run;
          asked = x.asked;
          after = x.after;
          step = x.step;
          seen = x.seen;
          own = x.own;
          page = x.page;
          holds = link_after law V (rules s config) (token_at s p.shards) e outs.items dropped (token_at s q.shards) x;
        };
        over = x.verdicts;
        judged = are_judged _ q.seen.loads p.held q.held x.asked x.verdicts.verdicts;
        flag = x.flag;
      }
  fate_holds p e s Refused q b = refused_still (JudgedBy a.stock.maps worker q.seen.loads p.held q.held) config s e p.shards q.shards b.came
  fate_holds p e s NotHandled q b = left_still (JudgedBy a.stock.maps worker q.seen.loads p.held q.held) config s e p.shards q.shards b.came

  -- ---- one after the other

  holds_each : (p : Progress) (items : List Queued) (tags : List Tagged) (q : Progress) → ServesAll config a worker p items tags q → HoldsOfEach config a worker p items tags q
  holds_each p [] [] q is = is
  holds_each p (x ∷ xs) (t ∷ ts) q r =
      (r.0, r.1, fate_holds p t.item.event t.item.shard t.fate r.0 r.1.became, holds_each r.0 xs ts q r.2)
  holds_each p [] (t ∷ ts) q r = absurd r
  holds_each p (x ∷ xs) [] q r = absurd r

-- ---- one shard

-- a prefix of a prefix is a prefix
prefix_more : (a b : List Entry) {c : List Entry} → IsPrefix a b → IsPrefix b c → IsPrefix a c
prefix_more a b p q = (p.0 ++ q.0, sym (append_assoc a p.0 q.0) ∙ (ap (λ (w : List Entry). w ++ q.0) p.1 ∙ q.1))

hands_none : (t u : Token) → u ≡ t → HandsOn t [] u
hands_none t u is =
    record {
      entries = [];
      own = ap (λ (z : Token). z.own) is ∙ sym (append-nil t.own);
      page = ap (λ (z : Token). z.page) is ∙ ap (λ (l : List Entry). record { mark = t.page.mark; made = l }) (sym (append-nil t.page.made));
      outs = refl;
      goes_on = subst (λ (z : Token). IsPrefix t.seen z.seen) (sym is) ([], append-nil t.seen);
    }

hands_one : (V : Readings → List (Ask × ℕ) → Type 0) (rs : Rules) (e : Event) (f : Fate) (here : Bool) (t u w : Token) (later : List (List Out))
    → ChangesIf here (λ t u. Comes V rs t e f u) t u → HandsOn u later w → HandsOn t (with_outs here f later) w
hands_one V rs e (Decided outs dropped) true t u w later c h =
    let entry : Entry = entry_of e c.asked outs.items in
    record {
      entries = entry ∷ h.entries;
      own = h.own ∙ (ap (λ (l : List Entry). l ++ h.entries) c.own ∙ append_assoc t.own (entry ∷ []) h.entries);
      page = h.page ∙ (ap (λ (p : Page). with_entries p h.entries) c.page ∙ ap (λ (l : List Entry). record { mark = t.page.mark; made = l }) (append_assoc t.page.made (entry ∷ []) h.entries));
      outs = ap (λ (l : List (List Out)). outs.items ∷ l) h.outs;
      goes_on = prefix_more t.seen u.seen (subst (λ (l : List Entry). IsPrefix t.seen l) (sym c.seen) (prefix_more t.seen c.before c.had_seen (entry ∷ [], refl))) h.goes_on;
    }
hands_one V rs e Refused true t u w later c h = subst (λ (z : Token). HandsOn z later w) c h
hands_one V rs e NotHandled true t u w later c h = subst (λ (z : Token). HandsOn z later w) c h
hands_one V rs e f false t u w later c h = subst (λ (z : Token). HandsOn z later w) c h

module _ (config : Config) (a : Live) (worker : ℕ) where
  hands_all : (s : ℕ) → s < 8 → (p : Progress) (items : List Queued) (tags : List Tagged) (q : Progress) → ServesAll config a worker p items tags q
      → HandsOn (token_at s p.shards) (outs_at s tags) (token_at s q.shards)
  hands_all s low p [] [] q is = hands_none (token_at s p.shards) (token_at s q.shards) (ap (λ (z : Progress). token_at s z.shards) is)
  hands_all s low p (x ∷ xs) (t ∷ ts) q r =
      let m : Progress = r.0 in
      let b = r.1.became in
      let V : Readings → List (Ask × ℕ) → Type 0 = JudgedBy a.stock.maps worker m.seen.loads p.held m.held in
      let e : Event = t.item.event in
      by_shard (λ s. HandsOn (token_at s m.shards) (outs_at s ts) (token_at s q.shards) → HandsOn (token_at s p.shards) (outs_at s (t ∷ ts)) (token_at s q.shards))
      (hands_one V (rules t.item.shard config) e t.fate (t.item.shard == 0) p.shards.of0 m.shards.of0 q.shards.of0 (outs_at 0 ts) b.came.of0)
      (hands_one V (rules t.item.shard config) e t.fate (t.item.shard == 1) p.shards.of1 m.shards.of1 q.shards.of1 (outs_at 1 ts) b.came.of1)
      (hands_one V (rules t.item.shard config) e t.fate (t.item.shard == 2) p.shards.of2 m.shards.of2 q.shards.of2 (outs_at 2 ts) b.came.of2)
      (hands_one V (rules t.item.shard config) e t.fate (t.item.shard == 3) p.shards.of3 m.shards.of3 q.shards.of3 (outs_at 3 ts) b.came.of3)
      (hands_one V (rules t.item.shard config) e t.fate (t.item.shard == 4) p.shards.of4 m.shards.of4 q.shards.of4 (outs_at 4 ts) b.came.of4)
      (hands_one V (rules t.item.shard config) e t.fate (t.item.shard == 5) p.shards.of5 m.shards.of5 q.shards.of5 (outs_at 5 ts) b.came.of5)
      (hands_one V (rules t.item.shard config) e t.fate (t.item.shard == 6) p.shards.of6 m.shards.of6 q.shards.of6 (outs_at 6 ts) b.came.of6)
      (hands_one V (rules t.item.shard config) e t.fate (t.item.shard == 7) p.shards.of7 m.shards.of7 q.shards.of7 (outs_at 7 ts) b.came.of7)
      s low (hands_all s low m xs ts q r.2)
  hands_all s low p [] (t ∷ ts) q r = absurd r
  hands_all s low p (x ∷ xs) [] q r = absurd r

-- ---- the whole

pub served_holds : RunsHold → (config : Config) (a : Live) (w w2 : Worker) (l l2 : List Tagged) → Served config a w w2 l l2 → WorkerHeadline config a w w2 l l2
served_holds law config a w w2 l l2 s =
    record {
      items = s.items;
      tags = s.tags;
      took = s.took;
      listed = s.listed;
      events = holds_each law config a w.number (progress_of w) s.items s.tags (progress_of w2) s.served;
      shards = λ n low. hands_all config a w.number n low (progress_of w) s.items s.tags (progress_of w2) s.served;
      counted = s.counted;
    }

pub acted_holds : RunsHold → (config : Config) (o o2 : Operator) (e : Event) (outs : List Out) → IsTrue (is_command e) → Acted config o e outs o2 → OperatorHeadline config o e outs o2
unfolding entry_holds
acted_holds law config o o2 e outs command s =
    let low : s.shard < 8 = shard_below e s.shard s.shard_is in
    let x = at_shard (λ t u. Acts (rules s.shard config) t e outs u) o.shards o2.shards s.shard low s.acted in
    record {
      shard = s.shard;
      shard_is = s.shard_is;
      entry = entry_holds law AnyVerdicts (rules s.shard config) low (token_at s.shard o.shards) e outs x.0 (token_at s.shard o2.shards) x.1;
      silent = command_silent (rules s.shard config) x.1.readings x.1.after e x.1.asked outs command x.1.step;
      counted = s.counted;
    }
