-- The main theorem, from the laws of runs.
use Rattle.std.proofs.Common.{◌≡◌, ℕ, List, [], ◌∷◌, ◌++◌, subst}
use Rattle.ap_model.specs.Asks.{Ask}
use Rattle.ap_model.specs.Readings.{Readings, Rules}
use Rattle.ap_model.specs.Runs.{Entry, Handles, Run, rests, goes_on, opening}
use Rattle.ap_model.specs.AccessPoint.{entries_of}
use Rattle.ap_model.proofs.Appending.{run_append}
use Rattle.ap_laws.specs.Headline.{LinkHolds, RunsHold, EventsHold, AccessPointsHold, WindowsStandApart, LinkWindowsStandApart}
use Rattle.ap_laws.proofs.IdentifierLaws.{opening_holds, runs_hold, access_points_hold}
use Rattle.ap_laws.proofs.OriginLaws.{opening_agrees, runs_hold_agreements, from_the_opening}
use Rattle.ap_laws.proofs.OrderLaws.{tells_one, goes_on_in_order, ends_in_order, drops_silently}
use Rattle.ap_laws.proofs.AlongsideLaws.{runs_leave_same_starts, link_runs_leave_same_starts}

-- ---- splitting a run

-- a run over two lists: the readings between them
record Cut (c : Rules) (r : Readings) (before after : List Entry) (r2 : Readings) : Type 0 where
  pub mid : Readings
  pub first : Run c r before mid
  pub rest : Run c mid after r2

cut : (c : Rules) (before after : List Entry) {r r2 : Readings} (entries : List Entry) → entries ≡ before ++ after → Run c r entries r2 → Cut c r before after r2
cut c before after {r} {r2} entries e run = go before r (subst (λ (es : List Entry). Run c r es r2) e run)
  where
    go : (before : List Entry) (r : Readings) → Run c r (before ++ after) r2 → Cut c r before after r2
    go [] r run = record { mid = r; first = rests r; rest = run }
    go (x ∷ before) r (goes_on r0 mid r1 e later step run) =
        let more = go before mid run in
        record { mid = more.mid; first = goes_on r mid more.mid x before step more.first; rest = more.rest }

record First (c : Rules) (r : Readings) (e : Entry) : Type 0 where
  pub next : Readings
  pub step : Handles c r e next

first_step : (c : Rules) (e : Entry) (after : List Entry) (r r2 : Readings) → Run c r (e ∷ after) r2 → First c r e
first_step c e after r r2 (goes_on r0 mid r1 x later step run) = record { next = mid; step = step }

-- ---- one shard

pub link_holds : (c : Rules) (entries : List Entry) (r : Readings) → Run c opening entries r → LinkHolds c entries r
link_holds c entries r run =
    record {
      run = run;
      sources = λ before after e d is inside.
          let at = cut c before (e ∷ after) entries is run in
          let one = first_step c e after at.mid r at.rest in
          (one.next, from_the_opening c at.mid one.next before e d at.first one.step inside);
      agreements = λ before after a tid is. let at = cut c before after entries is run in tells_one c before at.mid a tid at.first;
      order = λ before after a tid g since is agreed.
          let at = cut c before after entries is run in goes_on_in_order c before at.mid a tid at.first g since agreed;
      ends = λ before after e a tid g since is agreed ending.
          let at = cut c before (e ∷ after) entries is run in
          let one = first_step c e after at.mid r at.rest in
          ends_in_order c before at.mid one.next e a tid at.first one.step g since agreed ending;
      drops = λ before after e a tid g since is agreed drop.
          let at = cut c before (e ∷ after) entries is run in
          let one = first_step c e after at.mid r at.rest in
          drops_silently c before at.mid one.next e a tid at.first one.step g since agreed drop;
      identifiers = runs_hold c opening r entries (opening_holds c) run;
    }

pub each_run_holds : RunsHold
each_run_holds c r entries run = link_holds c entries r run

pub events_hold : {S : Type 0} (R : S → Ask → ℕ → S → Type 0) → EventsHold R
events_hold R c r r2 entries event j j2 outs run handled =
    let e : Entry = record { event = event; asked = handled.asked; outs = outs } in
    record {
      asked = handled.asked;
      listed = handled.listed;
      holds = link_holds c (entries ++ e ∷ []) r2 (run_append c run (goes_on r r2 r2 e [] handled.does (rests r2)));
    }

-- ---- eight shards

pub access_points_hold_so : {S : Type 0} (R : S → Ask → ℕ → S → Type 0) → AccessPointsHold R
access_points_hold_so R c r r2 entries events j j2 results place runs led =
    record {
      turns = led.turns;
      are = led.are;
      listed = led.listed;
      shards = λ s lt. link_holds (c s) (entries s ++ entries_of s led.turns) (r2 s) (run_append (c s) (runs s lt) (led.run s lt));
      identifiers = access_points_hold c r r2 led.turns place (λ s lt. runs_hold (c s) opening (r s) (entries s) (opening_holds (c s)) (runs s lt)) led.run;
    }

-- ---- windows

pub windows_stand_apart : WindowsStandApart
windows_stand_apart c r one other entries ones others run first second alongside =
    runs_leave_same_starts c r one other ones others (runs_hold c opening r entries (opening_holds c) run)
    (runs_hold_agreements c opening r entries opening_agrees run) first second alongside

pub link_windows_stand_apart : LinkWindowsStandApart
link_windows_stand_apart c r one other entries ones others runs first second alongside =
    link_runs_leave_same_starts c r one other ones others
    (λ s lt. runs_hold (c s) opening (r s) (entries s) (opening_holds (c s)) (runs s lt))
    (λ s lt. runs_hold_agreements (c s) opening (r s) (entries s) opening_agrees (runs s lt)) first second alongside
