-- Reports on a worker's list.
use Rattle.std.proofs.Common.{◌≡◌, ◌<◌, ◌+◌, ℕ, List, [], ◌∷◌, ◌++◌, length, refl, sym, ap, subst, ◌∙◌, zero-add}
use mathlib.Core.List.{IsPrefix}
use Rattle.std.specs.Prelude.{true, false, None, slice_index_or}
use Rattle.std.proofs.lemmas.List.Sums.{sum_by-append}
use Rattle.ap_model.specs.declared.event.Event.{Event}
use Rattle.ap_books.specs.Counts.{Counts, none, plus}
use Rattle.ap_live.specs.Counting.{fate_counts, tally}
use Rattle.ap_shards.specs.declared.fate.Fate.{Fate}
use Rattle.ap_shards.specs.declared.fate.Fate.TheVariants.{Decided, Refused, NotHandled}
use Rattle.ap_queues.specs.Items.{Item}
use Rattle.ap_live.specs.Tokens.{Worker}
use Rattle.ap_live.specs.Upholding.{token_at}
use Rattle.ap_live.specs.declared.tagged.Tagged.{Tagged}
use Rattle.apd_driver.specs.Crews.{Collects, Crew, Works, gains, with_work}
use Rattle.apd_driver.specs.Following.{FromNone, FromOneMore, TakesAll}
use Rattle.std.specs.List.{All}
use Rattle.versions.specs.Lists.{Beginning}
use Rattle.apd_run.specs.Batches.{Batch, batches_of, events_of}
use Rattle.apd_run.specs.Deciding.{Accounts, TookAllOf, WasJudged, items_in}
use Rattle.apd_run.specs.Hands.{claims, tells}
use Rattle.apd_run.specs.Reports.{Handled, Memory, Report}
use Rattle.apd_driver.specs.Tallies.{report_counts, tallied, told_counts}
use Rattle.apd_run.specs.Telling.{dropped_in, report_if, reports_in, reports_of, told_of}
use Rattle.apd_run.specs.Work.{Meets, Takes, Work, live, with_batch, with_histories, with_told}
use Rattle.apd_run.proofs.Batches.{all_of_queue}
use Rattle.apd_run.proofs.Deciding.{of_queue, took_still}
use Rattle.apd_run.proofs.Judging.{all_judged}
use Rattle.apd_run.proofs.Sums.{none_plus, plus_three}

-- ---- what reports count

tallied_two : (xs ys : List Report) → tallied (xs ++ ys) ≡ plus (tallied xs) (tallied ys)
tallied_two xs ys i =
    record {
      events = sum_by-append (λ r. (report_counts r).events) xs ys i;
      sent = sum_by-append (λ r. (report_counts r).sent) xs ys i;
      up = sum_by-append (λ r. (report_counts r).up) xs ys i;
      dropped = sum_by-append (λ r. (report_counts r).dropped) xs ys i;
      notes = sum_by-append (λ r. (report_counts r).notes) xs ys i;
    }

counts_one : (r : Report) → tallied (r ∷ []) ≡ told_counts r.told
unfolding report_counts
counts_one r i =
    record {
      events = zero-add (told_counts r.told).events i;
      sent = zero-add (told_counts r.told).sent i;
      up = zero-add (told_counts r.told).up i;
      dropped = zero-add (told_counts r.told).dropped i;
      notes = zero-add (told_counts r.told).notes i;
    }

-- the report on an event counts what became of it
report_counted : (line shard : ℕ) (e : Event) (f : Fate) → tallied (report_if line shard (told_of e f)) ≡ fate_counts f
report_counted line shard e (Decided outs true) = counts_one (record { line = line; shard = shard; told = Handled outs (dropped_in e true) })
report_counted line shard e (Decided outs false) = counts_one (record { line = line; shard = shard; told = Handled outs None })
report_counted line shard e Refused = counts_one (record { line = line; shard = shard; told = Memory })
report_counted line shard e NotHandled = refl

-- so do the reports on all
told_counted : (ts : List Tagged) → tallied (reports_in ts) ≡ tally ts
unfolding tally
told_counted [] = refl
told_counted (t ∷ ts) =
    tallied_two (reports_of t) (reports_in ts)
    ∙ (ap (λ (c : Counts). plus c (tallied (reports_in ts))) (report_counted t.item.call t.item.shard t.item.event t.fate) ∙ ap (λ (c : Counts). plus (fate_counts t.fate) c) (told_counted ts))

-- a worker was met, its batch was claimed, it was told of the loads, and the reports on its events were appended
pub collects_met : (crew mid crew2 : Crew live) (list list2 : List Report) (told worker : ℕ) (w : Worker) (tags : List Tagged) → worker ≡ w.number → TookAllOf crew.work.puts w → Works crew mid → Meets crew.work mid.work w
    → IsPrefix w.seen.loads mid.work.loads.loads → worker < length mid.work.told → slice_index_or mid.work.told worker 0 ≡ told → Accounts (batches_of worker mid.work.batches) told w tags
    → crew2 ≡ gains (with_work mid (with_told (with_batch mid.work (record { worker = worker; told = told; events = tags })) worker)) (tally tags) → list2 ≡ list ++ reports_in tags → Collects crew crew2 list list2
collects_met crew mid crew2 list list2 told worker w tags number took works m seen_loads below knows h counted listed =
    let last : Work = with_told (with_batch mid.work (record { worker = worker; told = told; events = tags })) worker in
    let same : crew2.work ≡ last = ap (λ (c : Crew live). c.work) counted in
    let seen : mid.work ≡ with_histories crew.work mid.work.histories = m.sees.others in
    let kept : mid.work.batches ≡ crew.work.batches = ap (λ (x : Work). x.batches) seen in
    let loads : mid.work.loads ≡ crew.work.loads = ap (λ (x : Work). x.loads) seen in
    let least : told ≡ slice_index_or crew.work.told worker 0 = sym knows ∙ ap (λ (x : Work). slice_index_or x.told worker 0) seen in
    let judged : (s : ℕ) → s < 8 → All (WasJudged (slice_index_or crew.work.told worker 0) crew.work.loads.loads) (token_at s w.shards).own =
    λ s low.
    subst (λ (n : ℕ). All (WasJudged n crew.work.loads.loads) (token_at s w.shards).own) least
    (subst (λ (b : Beginning). All (WasJudged told b.loads) (token_at s w.shards).own) loads
    (all_judged told w.seen.loads mid.work.loads.loads seen_loads (token_at s w.shards).own (h.judged s low))) in
    let takes : Takes crew.work last (reports_in tags) = record {
      worker = worker;
      events = tags;
      told = refl;
      below = subst (λ (x : Work). worker < length x.told) seen below;
      queued = of_queue crew.work.puts told worker crew.work.batches w tags number took (subst (λ (l : List Batch). Accounts (batches_of worker l) told w tags) kept h);
      concern = h.concern;
      decided = λ s low. record { entries = (token_at s w.shards).own; deeds = h.deeds s low; judged = judged s low; among = m.among s low };
      holds = m.holds;
      sees = record { others = λ i. with_told (with_batch (seen i) (record { worker = worker; told = least i; events = tags })) worker; go_on = m.sees.go_on };
    } in
    record {
      reports = reports_in tags;
      listed = listed;
      taken = subst (λ (x : Work). TakesAll live crew.work x (reports_in tags)) (sym same) (FromOneMore crew.work last [] (reports_in tags) FromNone takes);
      counted = counted
          ∙ (ap (λ (c : Crew live). gains (with_work c last) (tally tags)) works
          ∙ (ap (λ (x : Work). with_work (gains crew (tally tags)) x) (sym same) ∙ ap (λ (c : Counts). with_work (gains crew c) crew2.work) (sym (told_counted tags))));
    }

-- a batch was claimed, and then its worker was told of the loads
pub told_after : (mid after crew2 : Crew live) (b : Batch) (number : ℕ) (counts : Counts) → after ≡ gains (claims mid b) counts → number ≡ b.worker → crew2 ≡ tells after number
    → crew2 ≡ gains (with_work mid (with_told (with_batch mid.work b) b.worker)) counts
told_after mid after crew2 b number counts claimed is told = told ∙ (λ i. tells (claimed i) (is i))

-- of how many loads it had been told before
pub knew_before : (mid after : Crew live) (b : Batch) (number : ℕ) (counts : Counts) (told was : ℕ) → after ≡ gains (claims mid b) counts → number ≡ b.worker → slice_index_or after.work.told number 0 ≡ told → told ≡ was
    → slice_index_or mid.work.told b.worker 0 ≡ was
knew_before mid after b number counts told was claimed is agrees kept = (λ i. slice_index_or ((sym claimed i).work.told) (sym is i) 0) ∙ (agrees ∙ kept)

-- its number
pub low_before : (mid after : Crew live) (b : Batch) (number : ℕ) (counts : Counts) → after ≡ gains (claims mid b) counts → number ≡ b.worker → number < length after.work.told → b.worker < length mid.work.told
low_before mid after b number counts claimed is below = subst (λ (k : ℕ). k < length mid.work.told) is (subst (λ (c : Crew live). number < length c.work.told) claimed below)

-- the same after what changed nothing more
pub collects_seen : (crew mid seen crew2 : Crew live) (list list2 : List Report) (told worker : ℕ) (w : Worker) (tags : List Tagged) → seen ≡ mid → worker ≡ w.number → TookAllOf crew.work.puts w → Works crew mid → Meets crew.work mid.work w
    → IsPrefix w.seen.loads mid.work.loads.loads → worker < length seen.work.told → slice_index_or seen.work.told worker 0 ≡ told → Accounts (batches_of worker seen.work.batches) told w tags
    → crew2 ≡ gains (with_work seen (with_told (with_batch seen.work (record { worker = worker; told = told; events = tags })) worker)) (tally tags) → list2 ≡ list ++ reports_in tags → Collects crew crew2 list list2
collects_seen crew mid seen crew2 list list2 told worker w tags same number took works m known below knows h counted listed =
    collects_met crew seen crew2 list list2 told worker w tags number took (subst (λ (c : Crew live). Works crew c) (sym same) works) (subst (λ (c : Crew live). Meets crew.work c.work w) (sym same) m)
    (subst (λ (c : Crew live). IsPrefix w.seen.loads c.work.loads.loads) (sym same) known) below knows h counted listed

-- a worker that was met took all that was put
pub took_met : (work : Work) (mid seen : Crew live) (w w2 : Worker) → Meets work mid.work w2 → seen ≡ mid → w2 ≡ record w { shards = w2.shards } → TookAllOf work.puts w → TookAllOf seen.work.puts w2
took_met work mid seen w w2 m same still t =
    let puts : seen.work.puts ≡ work.puts = ap (λ (c : Crew live). c.work.puts) same ∙ ap (λ (x : Work). x.puts) m.sees.others in
    subst (λ (l : List (List Item)). TookAllOf l w2) (sym puts) (took_still work.puts w w2 still t)

-- then all that was put into its queue was taken over
pub whole_after : (seen after : Crew live) (worker number told : ℕ) (counts : Counts) (w : Worker) (tags : List Tagged) → after ≡ gains (claims seen (record { worker = worker; told = told; events = tags })) counts → number ≡ worker
    → worker ≡ w.number → TookAllOf seen.work.puts w → Accounts (batches_of worker seen.work.batches) told w tags
    → slice_index_or after.work.puts number [] ≡ items_in (events_of number after.work.batches)
whole_after seen after worker number told counts w tags claimed is own took h =
    let b : Batch = record { worker = worker; told = told; events = tags } in
    subst (λ (c : Crew live). slice_index_or c.work.puts number [] ≡ items_in (events_of number c.work.batches)) (sym claimed)
    (all_of_queue seen.work.puts number seen.work.batches b (sym is) (of_queue seen.work.puts told worker seen.work.batches w tags own took h))

-- the same after nothing changed
pub collects_after : (crew crew1 crew2 : Crew live) (list list2 : List Report) → crew1 ≡ crew → Collects crew1 crew2 list list2 → Collects crew crew2 list list2
collects_after crew crew1 crew2 list list2 same h = subst (λ (c : Crew live). Collects c crew2 list list2) same h

-- ---- what workers counted

-- no event counts nothing
pub tally_none : tally [] ≡ none
unfolding tally
tally_none = refl

-- nothing yet
pub nothing_counted : (c : Counts) (ts : List Tagged) → c ≡ none → ts ≡ [] → c ≡ tally ts
nothing_counted c ts is empty = is ∙ sym (ap tally empty ∙ tally_none)

-- two lists in sequence
pub tally_two : (xs ys : List Tagged) → tally (xs ++ ys) ≡ plus (tally xs) (tally ys)
unfolding tally
tally_two [] ys = sym (none_plus (tally ys))
tally_two (x ∷ xs) ys = ap (λ (c : Counts). plus (fate_counts x.fate) c) (tally_two xs ys) ∙ sym (plus_three (fate_counts x.fate) (tally xs) (tally ys))

-- and then more
pub more_counted : (c d : Counts) (xs ys tags : List Tagged) → c ≡ tally xs → ys ≡ xs ++ tags → d ≡ plus c (tally tags) → d ≡ tally ys
more_counted c d xs ys tags is listed counted =
    counted ∙ (ap (λ (x : Counts). plus x (tally tags)) is ∙ (sym (tally_two xs tags) ∙ ap tally (sym listed)))
