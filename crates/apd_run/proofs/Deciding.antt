-- What became of a worker's events, and the histories of the shards.
use Rattle.std.proofs.Common.{◌≡◌, ◌+◌, ◌<◌, ◌≤◌, ℕ, Bool, true, false, List, [], ◌∷◌, ◌++◌, length, map, refl, sym, ap, subst, ◌∙◌, append_assoc, append-nil, arith}
use Rattle.std.specs.Prelude.{◌==◌, slice_index_or}
use Rattle.std.specs.List.{All}
use Rattle.std.proofs.lemmas.List.{map-append}
use Rattle.std.proofs.lemmas.List.Elements.{All-append, All-cons, All-nil, All-same}
use mathlib.Core.List.{IsPrefix}
use Rattle.ap_model.specs.declared.event.Event.{Event}
use Rattle.ap_model.specs.Asks.{Ask}
use Rattle.ap_model.specs.Readings.{Config, Readings, Rules}
use Rattle.ap_model.specs.Runs.{Entry}
use Rattle.ap_core.specs.Handles.{rules}
use Rattle.ap_locked.specs.Kept.{entry_of}
use Rattle.ap_locked.specs.Pages.{Page}
use Rattle.ap_locked.specs.Tokens.{IsAmong, Token}
use Rattle.ap_queues.specs.declared.item.Queued.{Queued}
use Rattle.ap_shards.specs.Fates.{ChangesIf, Comes}
use Rattle.ap_shards.specs.Judged.{JudgedBy}
use Rattle.ap_shards.specs.Renewal.{AreRenewed}
use Rattle.ap_shards.specs.Tokens.{Eight, HaveSeenAlike, IsNewcomer, KeepOwn}
use Rattle.ap_shards.specs.declared.fate.Fate.{Fate}
use Rattle.ap_shards.specs.declared.fate.Fate.TheVariants.{Decided, Refused, NotHandled}
use Rattle.ap_live.specs.Lives.{Live}
use Rattle.ap_live.specs.Serving.{Progress, Served, ServesAll, progress_of}
use Rattle.ap_live.specs.Tokens.{Worker}
use Rattle.ap_live.specs.Upholding.{UpholdAll, token_at}
use Rattle.ap_live.specs.declared.tagged.Tagged.{Tagged}
use Rattle.ap_live.proofs.Growing.{by_shard}
use Rattle.ap_live.specs.Verdicts.{AreJudged}
use Rattle.versions.specs.declared.list.Load.{Load}
use Rattle.versions.specs.Sets.{set_of}
use Rattle.versions.specs.Lists.{Beginning}
use Rattle.versions.proofs.Beginnings.{prefix_length, prefix_self, prefix_trans}
use Rattle.ap_queues.specs.Items.{Item}
use Rattle.ap_queues.specs.Lines.{puts_of}
use Rattle.ap_queues.specs.declared.lines.passes.OperatorLines.{OperatorLines}
use Rattle.ap_queues.specs.Passes.{taken_by}
use Rattle.ap_queues.specs.Queues.{items_of}
use Rattle.apd_run.specs.Batches.{Batch, batches_of, events_in}
use Rattle.apd_run.specs.Deciding.{Accounts, AreOfBatches, AreOfQueue, Concerns, Deed, IsHistory, WasJudged, deed_of, deeds_at, histories_of, items_in, TookAllOf, with_deed}
use Rattle.apd_run.proofs.Batches.{of_more_loads, of_one_more}
use Rattle.apd_run.proofs.Judging.{all_judged, are_judged}

-- ---- what is told of events, list by list

deed_two : (here : Bool) (e : Event) (f : Fate) (xs ys : List Deed) → with_deed here e f (xs ++ ys) ≡ with_deed here e f xs ++ ys
deed_two true e (Decided outs dropped) xs ys = refl
deed_two true e Refused xs ys = refl
deed_two true e NotHandled xs ys = refl
deed_two false e f xs ys = refl

deeds_two : (s : ℕ) (xs ys : List Tagged) → deeds_at s (xs ++ ys) ≡ deeds_at s xs ++ deeds_at s ys
deeds_two s [] ys = refl
deeds_two s (t ∷ ts) ys =
    ap (with_deed (t.item.shard == s) t.item.event t.fate) (deeds_two s ts ys) ∙ deed_two (t.item.shard == s) t.item.event t.fate (deeds_at s ts) (deeds_at s ys)

-- ---- what a worker served

-- the token has more entries of its own, which say this, with verdicts of programs in which the first of these loads result
record Adds (least : ℕ) (published : List Load) (t : Token) (deeds : List Deed) (u : Token) : Type 0 where
  entries : List Entry
  own : u.own ≡ t.own ++ entries
  page : u.page.made ≡ t.page.made ++ entries
  say : map deed_of entries ≡ deeds
  judged : All (WasJudged least published) entries

adds_none : (least : ℕ) (published : List Load) (t u : Token) → u ≡ t → Adds least published t [] u
adds_none least published t u is =
    record {
      entries = [];
      own = ap (λ (z : Token). z.own) is ∙ sym (append-nil t.own);
      page = ap (λ (z : Token). z.page.made) is ∙ sym (append-nil t.page.made);
      say = refl;
      judged = All-nil (WasJudged least published);
    }

-- these verdicts are those of the programs in which the loads result
abbrev Judges : (Readings → List (Ask × ℕ) → Type 0) → List Load → Type 0
Judges V loads = (r : Readings) (asked : List (Ask × ℕ)) → V r asked → AreJudged (set_of loads) asked

adds_one : (least : ℕ) (published : List Load) (V : Readings → List (Ask × ℕ) → Type 0) (loads : List Load) → Judges V loads → IsPrefix loads published → least ≤ length loads
    → (rs : Rules) (e : Event) (f : Fate) (here : Bool) (t u w : Token) (later : List Deed)
    → ChangesIf here (λ t u. Comes V rs t e f u) t u → Adds least published u later w → Adds least published t (with_deed here e f later) w
adds_one least published V loads judges first many rs e (Decided outs dropped) true t u w later c h =
    let entry : Entry = entry_of e c.asked outs.items in
    record {
      entries = entry ∷ h.entries;
      own = h.own ∙ (ap (λ (l : List Entry). l ++ h.entries) c.own ∙ append_assoc t.own (entry ∷ []) h.entries);
      page = h.page ∙ (ap (λ (p : Page). p.made ++ h.entries) c.page ∙ append_assoc t.page.made (entry ∷ []) h.entries);
      say = λ i. record { event = e; outs = outs.items; dropped = sym c.flag i } ∷ h.say i;
      judged = All-cons (WasJudged least published) entry h.entries (record { loads = loads; first = first; many = many; judged = judges c.readings c.asked c.verdicts }) h.judged;
    }
adds_one least published V loads judges first many rs e Refused true t u w later c h = subst (λ (z : Token). Adds least published z later w) c h
adds_one least published V loads judges first many rs e NotHandled true t u w later c h = subst (λ (z : Token). Adds least published z later w) c h
adds_one least published V loads judges first many rs e f false t u w later c h = subst (λ (z : Token). Adds least published z later w) c h

module _ (config : Config) (a : Live) (worker : ℕ) where
  -- the worker sees more and more loads
  rises : (p : Progress) (items : List Queued) (tags : List Tagged) (q : Progress) → ServesAll config a worker p items tags q → IsPrefix p.seen.loads q.seen.loads
  rises p [] [] q is = subst (λ (z : Progress). IsPrefix p.seen.loads z.seen.loads) (sym is) (prefix_self p.seen.loads)
  rises p (x ∷ xs) (t ∷ ts) q r = prefix_trans p.seen.loads r.0.seen.loads q.seen.loads r.1.became.begins.has_all (rises r.0 xs ts q r.2)
  rises p [] (t ∷ ts) q r = absurd r
  rises p (x ∷ xs) [] q r = absurd r

  adds_all : (least s : ℕ) → s < 8 → (p : Progress) (items : List Queued) (tags : List Tagged) (q : Progress) → least ≤ length p.seen.loads → ServesAll config a worker p items tags q
      → Adds least q.seen.loads (token_at s p.shards) (deeds_at s tags) (token_at s q.shards)
  adds_all least s low p [] [] q told is = adds_none least q.seen.loads (token_at s p.shards) (token_at s q.shards) (ap (λ (z : Progress). token_at s z.shards) is)
  adds_all least s low p (x ∷ xs) (t ∷ ts) q told r =
      let m : Progress = r.0 in
      let b = r.1.became in
      let V : Readings → List (Ask × ℕ) → Type 0 = JudgedBy a.stock.maps worker m.seen.loads p.held m.held in
      let judges : Judges V m.seen.loads = λ readings asked v. are_judged a worker readings.clock v.stations m.seen.loads p.held m.held asked v.verdicts in
      let e : Event = t.item.event in
      let first : IsPrefix m.seen.loads q.seen.loads = rises m xs ts q r.2 in
      let many : least ≤ length m.seen.loads = omega (arith, told, prefix_length p.seen.loads m.seen.loads b.begins.has_all) in
      by_shard (λ s. Adds least q.seen.loads (token_at s m.shards) (deeds_at s ts) (token_at s q.shards) → Adds least q.seen.loads (token_at s p.shards) (deeds_at s (t ∷ ts)) (token_at s q.shards))
      (adds_one least q.seen.loads V m.seen.loads judges first many (rules t.item.shard config) e t.fate (t.item.shard == 0) p.shards.of0 m.shards.of0 q.shards.of0 (deeds_at 0 ts) b.came.of0)
      (adds_one least q.seen.loads V m.seen.loads judges first many (rules t.item.shard config) e t.fate (t.item.shard == 1) p.shards.of1 m.shards.of1 q.shards.of1 (deeds_at 1 ts) b.came.of1)
      (adds_one least q.seen.loads V m.seen.loads judges first many (rules t.item.shard config) e t.fate (t.item.shard == 2) p.shards.of2 m.shards.of2 q.shards.of2 (deeds_at 2 ts) b.came.of2)
      (adds_one least q.seen.loads V m.seen.loads judges first many (rules t.item.shard config) e t.fate (t.item.shard == 3) p.shards.of3 m.shards.of3 q.shards.of3 (deeds_at 3 ts) b.came.of3)
      (adds_one least q.seen.loads V m.seen.loads judges first many (rules t.item.shard config) e t.fate (t.item.shard == 4) p.shards.of4 m.shards.of4 q.shards.of4 (deeds_at 4 ts) b.came.of4)
      (adds_one least q.seen.loads V m.seen.loads judges first many (rules t.item.shard config) e t.fate (t.item.shard == 5) p.shards.of5 m.shards.of5 q.shards.of5 (deeds_at 5 ts) b.came.of5)
      (adds_one least q.seen.loads V m.seen.loads judges first many (rules t.item.shard config) e t.fate (t.item.shard == 6) p.shards.of6 m.shards.of6 q.shards.of6 (deeds_at 6 ts) b.came.of6)
      (adds_one least q.seen.loads V m.seen.loads judges first many (rules t.item.shard config) e t.fate (t.item.shard == 7) p.shards.of7 m.shards.of7 q.shards.of7 (deeds_at 7 ts) b.came.of7)
      s low (adds_all least s low m xs ts q many r.2)
  adds_all least s low p [] (t ∷ ts) q told r = absurd r
  adds_all least s low p (x ∷ xs) [] q told r = absurd r

  same_items : (p : Progress) (items : List Queued) (tags : List Tagged) (q : Progress) → ServesAll config a worker p items tags q → items_in tags ≡ items_of items
  same_items p [] [] q is = refl
  same_items p (x ∷ xs) (t ∷ ts) q r = λ i. r.1.item i ∷ same_items r.0 xs ts q r.2 i
  same_items p [] (t ∷ ts) q r = absurd r
  same_items p (x ∷ xs) [] q r = absurd r

  all_concern : (p : Progress) (items : List Queued) (tags : List Tagged) (q : Progress) → ServesAll config a worker p items tags q → All Concerns tags
  all_concern p [] [] q is = All-nil Concerns
  all_concern p (x ∷ xs) (t ∷ ts) q r = All-cons Concerns t ts r.1.told (all_concern r.0 xs ts q r.2)
  all_concern p [] (t ∷ ts) q r = absurd r
  all_concern p (x ∷ xs) [] q r = absurd r

-- a worker that served has seen more loads, or as many
pub saw_more : (config : Config) (a : Live) (w w2 : Worker) (l l2 : List Tagged) → Served config a w w2 l l2 → IsPrefix w.seen.loads w2.seen.loads
saw_more config a w w2 l l2 s = rises config a w.number (progress_of w) s.items s.tags (progress_of w2) s.served

-- a worker that served more
pub accounts_more : (config : Config) (a : Live) (w w2 : Worker) (l l2 : List Tagged) → Served config a w w2 l l2 → (batches : List Batch) (told : ℕ) → told ≤ length w.seen.loads → Accounts batches told w l → Accounts batches told w2 l2
accounts_more config a w w2 l l2 s batches told learned h =
    let more : All Concerns s.tags = all_concern config a w.number (progress_of w) s.items s.tags (progress_of w2) s.served in
    let items : items_in s.tags ≡ items_of s.items = same_items config a w.number (progress_of w) s.items s.tags (progress_of w2) s.served in
    let all : List Tagged = events_in batches in
    let saw : IsPrefix w.seen.loads w2.seen.loads = saw_more config a w w2 l l2 s in
    record {
      taken = ap items_of s.took
          ∙ (map-append (λ (x : Queued). x.item) (taken_by w.pass) s.items
          ∙ ((λ i. h.taken i ++ sym items i)
          ∙ (sym (map-append (λ (t : Tagged). t.item) (all ++ l) s.tags) ∙ ap items_in (append_assoc all l s.tags ∙ ap (λ (x : List Tagged). all ++ x) (sym s.listed)))));
      concern = All-same Concerns l2 (l ++ s.tags) s.listed (All-append Concerns l s.tags h.concern more);
      deeds = λ n low.
          let d = adds_all config a w.number told n low (progress_of w) s.items s.tags (progress_of w2) learned s.served in
          ap (map deed_of) d.own
          ∙ (map-append deed_of (token_at n w.shards).own d.entries
          ∙ ((λ i. h.deeds n low i ++ d.say i) ∙ (sym (deeds_two n l s.tags) ∙ ap (deeds_at n) (sym s.listed))));
      judged = λ n low.
          let d = adds_all config a w.number told n low (progress_of w) s.items s.tags (progress_of w2) learned s.served in
          let was = all_judged told w.seen.loads w2.seen.loads saw (token_at n w.shards).own (h.judged n low) in
          All-same (WasJudged told w2.seen.loads) (token_at n w2.shards).own ((token_at n w.shards).own ++ d.entries) d.own
          (All-append (WasJudged told w2.seen.loads) (token_at n w.shards).own d.entries was d.judged);
      written = λ n low.
          let d = adds_all config a w.number told n low (progress_of w) s.items s.tags (progress_of w2) learned s.served in
          let was = h.written n low in
          record {
            before = was.before;
            page = d.page
                ∙ (ap (λ (x : List Entry). x ++ d.entries) was.page
                ∙ (append_assoc was.before (token_at n w.shards).own d.entries ∙ ap (λ (x : List Entry). was.before ++ x) (sym d.own)));
            of_batches = of_more_loads n w.seen.loads w2.seen.loads saw batches was.before was.of_batches;
          };
    }

-- a worker without entries of its own, and without events, which took the items of these batches
pub accounts_none : (batches : List Batch) (told : ℕ) (w : Worker) (l : List Tagged) → items_of (taken_by w.pass) ≡ items_in (events_in batches) → l ≡ [] → ((s : ℕ) → s < 8 → (token_at s w.shards).own ≡ [])
    → ((s : ℕ) → s < 8 → AreOfBatches s w.seen.loads batches (token_at s w.shards).page.made) → Accounts batches told w l
accounts_none batches told w l items empty none written =
    record {
      taken = items ∙ ap items_in (sym (append-nil (events_in batches)) ∙ ap (λ (x : List Tagged). events_in batches ++ x) (sym empty));
      concern = All-same Concerns l [] empty (All-nil Concerns);
      deeds = λ s low. ap (map deed_of) (none s low) ∙ ap (deeds_at s) (sym empty);
      judged = λ s low. All-same (WasJudged told w.seen.loads) (token_at s w.shards).own [] (none s low) (All-nil (WasJudged told w.seen.loads));
      written = λ s low.
          let made : List Entry = (token_at s w.shards).page.made in
          record { before = made; page = sym (append-nil made) ∙ ap (λ (x : List Entry). made ++ x) (sym (none s low)); of_batches = written s low };
    }

-- what is on the pages of a worker is of its batches, with one more of its events
pub written_more : (batches : List Batch) (worker told : ℕ) (w : Worker) (l : List Tagged) → Accounts batches told w l
    → (s : ℕ) → s < 8 → AreOfBatches s w.seen.loads (batches ++ record { worker = worker; told = told; events = l } ∷ []) (token_at s w.shards).page.made
written_more batches worker told w l h s low =
    let was = h.written s low in
    let b : Batch = record { worker = worker; told = told; events = l } in
    subst (λ (es : List Entry). AreOfBatches s w.seen.loads (batches ++ b ∷ []) es) (sym was.page)
    (of_one_more s w.seen.loads batches b was.before (token_at s w.shards).own was.of_batches (record { deeds = h.deeds s low; judged = h.judged s low }))

-- a worker that took nothing more, has seen the same loads, and has the same entries of its own, and on its pages
pub accounts_same : (batches : List Batch) (told : ℕ) (w w2 : Worker) (l : List Tagged) → taken_by w2.pass ≡ taken_by w.pass → w2.seen ≡ w.seen → ((s : ℕ) → s < 8 → (token_at s w2.shards).own ≡ (token_at s w.shards).own)
    → ((s : ℕ) → s < 8 → (token_at s w2.shards).page ≡ (token_at s w.shards).page) → Accounts batches told w l → Accounts batches told w2 l
accounts_same batches told w w2 l taken saw same pages h =
    record {
      taken = ap items_of taken ∙ h.taken;
      concern = h.concern;
      deeds = λ s low. ap (map deed_of) (same s low) ∙ h.deeds s low;
      judged = λ s low.
          subst (λ (b : Beginning). All (WasJudged told b.loads) (token_at s w2.shards).own) (sym saw)
          (All-same (WasJudged told w.seen.loads) (token_at s w2.shards).own (token_at s w.shards).own (same s low) (h.judged s low));
      written = λ s low.
          let was = h.written s low in
          record {
            before = was.before;
            page = ap (λ (p : Page). p.made) (pages s low) ∙ (was.page ∙ ap (λ (x : List Entry). was.before ++ x) (sym (same s low)));
            of_batches = subst (λ (b : Beginning). AreOfBatches s b.loads batches was.before) (sym saw) was.of_batches;
          };
    }

-- without events, no entry is the worker's own
no_deed : (es : List Entry) → map deed_of es ≡ [] → es ≡ []
no_deed [] is = refl
no_deed (e ∷ es) is = absurd (cc is)

pub accounts_empty : (batches : List Batch) (told : ℕ) (w : Worker) (l : List Tagged) → l ≡ [] → Accounts batches told w l → (s : ℕ) → s < 8 → (token_at s w.shards).own ≡ []
accounts_empty batches told w l empty h s low = no_deed (token_at s w.shards).own (h.deeds s low ∙ ap (deeds_at s) empty)

-- a worker without events that has seen more loads
pub accounts_told : (batches : List Batch) (told told2 : ℕ) (w w2 : Worker) (l : List Tagged) → w2 ≡ record w { seen = w2.seen } → IsPrefix w.seen.loads w2.seen.loads → l ≡ [] → Accounts batches told w l → Accounts batches told2 w2 l
accounts_told batches told told2 w w2 l same more empty h =
    let shards : w2.shards ≡ w.shards = ap (λ (x : Worker). x.shards) same in
    let unowned : (s : ℕ) → s < 8 → (token_at s w2.shards).own ≡ [] = λ s low. ap (λ (e : Eight). (token_at s e).own) shards ∙ accounts_empty batches told w l empty h s low in
    record {
      taken = ap (λ (x : Worker). items_of (taken_by x.pass)) same ∙ h.taken;
      concern = h.concern;
      deeds = λ s low. ap (λ (e : Eight). map deed_of (token_at s e).own) shards ∙ h.deeds s low;
      judged = λ s low. All-same (WasJudged told2 w2.seen.loads) (token_at s w2.shards).own [] (unowned s low) (All-nil (WasJudged told2 w2.seen.loads));
      written = λ s low.
          let was = h.written s low in
          record {
            before = was.before;
            page = ap (λ (e : Eight). (token_at s e).page.made) shards ∙ (was.page ∙ ap (λ (e : Eight). was.before ++ (token_at s e).own) (sym shards));
            of_batches = of_more_loads s w.seen.loads w2.seen.loads more batches was.before was.of_batches;
          };
    }

-- events of a worker that took all that was put
pub of_queue : (puts : List (List Item)) (told worker : ℕ) (batches : List Batch) (w : Worker) (l : List Tagged) → worker ≡ w.number → TookAllOf puts w → Accounts (batches_of worker batches) told w l → AreOfQueue worker puts batches l
of_queue puts told worker batches w l number t h = ap (λ (k : ℕ). slice_index_or puts k []) number ∙ (t.put ∙ h.taken)

-- the same worker with other tokens of the shards
took_same : (puts : List (List Item)) (w : Worker) (e : Eight) → TookAllOf puts w → TookAllOf puts (record w { shards = e })
took_same puts w e t = record { put = t.put }

pub took_still : (puts : List (List Item)) (w w2 : Worker) → w2 ≡ record w { shards = w2.shards } → TookAllOf puts w → TookAllOf puts w2
took_still puts w w2 same t = subst (λ (x : Worker). TookAllOf puts x) (sym same) (took_same puts w w2.shards t)

-- a worker that met the only operator, and left nothing
pub took_alone : (lines lines2 : OperatorLines) (w w2 : Worker) → puts_of lines2 ≡ puts_of lines → w2 ≡ record w { pass = w2.pass } → taken_by w2.pass ≡ taken_by w.pass
    → slice_index_or (puts_of lines) w.number [] ≡ items_of (taken_by w.pass) → TookAllOf (puts_of lines2) w2
took_alone lines lines2 w w2 puts same taken whole =
    let number : w2.number ≡ w.number = ap (λ (x : Worker). x.number) same in
    record { put = (λ i. slice_index_or (puts i) (number i) []) ∙ (whole ∙ ap items_of (sym taken)) }

-- ---- entries of one's own

-- a new token has none
pub new_unowned : (a u : Eight) → IsNewcomer a u → (s : ℕ) → s < 8 → (token_at s u).own ≡ []
new_unowned a u n =
    by_shard (λ s. (token_at s u).own ≡ []) (ap (λ (t : Token). t.own) n.0) (ap (λ (t : Token). t.own) n.1) (ap (λ (t : Token). t.own) n.2) (ap (λ (t : Token). t.own) n.3)
    (ap (λ (t : Token). t.own) n.4) (ap (λ (t : Token). t.own) n.5) (ap (λ (t : Token). t.own) n.6) (ap (λ (t : Token). t.own) n.7)

-- nor has one whose parts were exchanged
pub renewed_unowned : (a u : Eight) → AreRenewed a u → (s : ℕ) → s < 8 → (token_at s u).own ≡ []
renewed_unowned a u r = by_shard (λ s. (token_at s u).own ≡ []) r.0.own r.1.own r.2.own r.3.own r.4.own r.5.own r.6.own r.7.own

-- whose pages are as they were
pub renewed_pages : (a u : Eight) → AreRenewed a u → (s : ℕ) → s < 8 → (token_at s u).page ≡ (token_at s a).page
renewed_pages a u r = by_shard (λ s. (token_at s u).page ≡ (token_at s a).page) r.0.page r.1.page r.2.page r.3.page r.4.page r.5.page r.6.page r.7.page

-- whoever only saw more has the same
pub kept_own : (a b : Eight) → KeepOwn a b → (s : ℕ) → s < 8 → (token_at s b).own ≡ (token_at s a).own
kept_own a b k = by_shard (λ s. (token_at s b).own ≡ (token_at s a).own) k.0.own k.1.own k.2.own k.3.own k.4.own k.5.own k.6.own k.7.own

pub kept_pages : (a b : Eight) → KeepOwn a b → (s : ℕ) → s < 8 → (token_at s b).page ≡ (token_at s a).page
kept_pages a b k = by_shard (λ s. (token_at s b).page ≡ (token_at s a).page) k.0.page k.1.page k.2.page k.3.page k.4.page k.5.page k.6.page k.7.page

-- the pages of a new token are empty
pub new_unwritten : (a u : Eight) → IsNewcomer a u → (s : ℕ) → s < 8 → (token_at s u).page.made ≡ []
new_unwritten a u n =
    by_shard (λ s. (token_at s u).page.made ≡ []) (ap (λ (t : Token). t.page.made) n.0) (ap (λ (t : Token). t.page.made) n.1) (ap (λ (t : Token). t.page.made) n.2) (ap (λ (t : Token). t.page.made) n.3)
    (ap (λ (t : Token). t.page.made) n.4) (ap (λ (t : Token). t.page.made) n.5) (ap (λ (t : Token). t.page.made) n.6) (ap (λ (t : Token). t.page.made) n.7)

-- ---- histories

-- what was seen goes on
pub kept_seen : (a b : Eight) → KeepOwn a b → (s : ℕ) → s < 8 → IsPrefix (histories_of a s) (histories_of b s)
kept_seen a b k = by_shard (λ s. IsPrefix (histories_of a s) (histories_of b s)) k.0.seen k.1.seen k.2.seen k.3.seen k.4.seen k.5.seen k.6.seen k.7.seen

-- who met has seen the same
seen_alike : (a b : Eight) → HaveSeenAlike a b → (s : ℕ) → s < 8 → histories_of a s ≡ histories_of b s
seen_alike a b h = by_shard (λ s. histories_of a s ≡ histories_of b s) h.0 h.1 h.2 h.3 h.4 h.5 h.6 h.7

-- what a worker upholds, whoever met it knows
pub met_histories : (config : Config) (w o : Eight) → HaveSeenAlike w o → UpholdAll config w → (s : ℕ) → s < 8 → IsHistory s config (histories_of o s)
met_histories config w o alike up s low =
    let u = up s low in
    subst (λ (l : List Entry). IsHistory s config l) (seen_alike w o alike s low) (record { readings = u.readings; run = u.holds.run })

pub met_among : (config : Config) (w o : Eight) → HaveSeenAlike w o → UpholdAll config w → (s : ℕ) → s < 8 → IsAmong (token_at s w).own (histories_of o s)
met_among config w o alike up s low =
    let u = up s low in
    subst (λ (l : List Entry). IsAmong (token_at s w).own l) (seen_alike w o alike s low) u.among
