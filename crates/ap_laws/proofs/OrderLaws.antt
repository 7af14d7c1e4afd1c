-- A run's history describes each agreement, and what is passed up of it is in order.
use Rattle.std.proofs.Common.{◌≡◌, ℕ, ◌%◌, ◌⊎◌, inl, inr, Option, None, Some, List, [], ◌∷◌, ◌++◌, reverse, refl, sym, ap, ◌∙◌, subst, append_assoc}
use Rattle.std.proofs.lemmas.Grind.{reverse_onto}
use Rattle.std.proofs.lemmas.List.{append-nil, map-append}
use Rattle.blockack.specs.Window.{Window}
use Rattle.blockack.specs.Passed.{passed, numbered, PassesUp}
use Rattle.blockack.proofs.BelowLaws.{in_below, below_in, rises, nothing_below}
use Rattle.ap_model.specs.declared.event.Event.{Event}
use Rattle.ap_model.specs.declared.event.Event.TheVariants as event
use Rattle.ap_model.specs.declared.event.Out.{Out}
use Rattle.ap_model.specs.Asks.{Ask}
use Rattle.ap_model.specs.Readings.{Readings, Rules, Using, Held}
use Rattle.ap_model.specs.Agreements.{ups}
use Rattle.ap_model.specs.Steps.{Step}
use Rattle.ap_model.specs.Runs.{Entry, Handles, Run, rests, goes_on, opening}
use Rattle.ap_laws.specs.Origins.{HoldsAgreements}
use Rattle.ap_laws.specs.Exchanges.{none_yet}
use Rattle.ap_laws.specs.Agreed.{Agreement, Opens, Ends, Drops, Agreed, never_yet, opened, used, ended, dropped, alone, clock_after, advanced}
use Rattle.ap_laws.specs.InOrder.{ups_of, ups_since, AreBelow, PassedInOrder, GoesOnInOrder, EndsInOrder, DropsSilently, TellsOne}
use Rattle.ap_laws.specs.Histories.{ReadsAgreed, StandsBy, IsReadingOf, RunsAreRead}
use Rattle.ap_laws.proofs.Forms.{Form, quiet, moves, delivers, takes, leaves, reports, ends, grants, ticks, step_form}
use Rattle.ap_laws.proofs.OriginLaws.{opening_agrees, step_holds}
use Rattle.ap_laws.proofs.UpLaws.{ups-append}
use Rattle.ap_laws.proofs.TellLaws.{EndsUp, Telling, it_opens, it_is_used, it_ends, it_is_dropped, it_is_alone}
use Rattle.ap_laws.proofs.StepTells.{event_tells}
use Rattle.ap_laws.proofs.OnceLaws.{opens_no_use, opens_no_drop, use_no_end, use_no_drop, end_no_drop, tells_once}
use Rattle.ap_laws.proofs.StandLaws.{event_stands, stands_on}
use Rattle.std.proofs.lemmas.Option.{none-some, same_Some}

are_below : (window : Window Held) → AreBelow window (passed window)
are_below window =
    record {
      rising = rises window.taken window.start;
      exact = λ n frame. (λ c. in_below window.taken window.start (n, frame) c, λ both. below_in window.taken window.start n frame both.0 both.1);
    }

passed_in_order : (a : List ℕ) (tid : ℕ) (window : Window Held) (outs : List Out) → outs ≡ ups a tid (numbered (passed window)) → PassedInOrder a tid window outs
passed_in_order a tid window outs is = record { frames = passed window; below = are_below window; are = is }

grown : (a : List ℕ) (tid : ℕ) (old new : Window Held) (out : List (ℕ × Held)) (before now : List Out) → PassesUp old new out → before ≡ ups a tid (numbered (passed old)) → now ≡ ups a tid out → before ++ now ≡ ups a tid (numbered (passed new))
grown a tid old new out before now passes was is =
    ap (λ xs. xs ++ now) was ∙
    ap (λ xs. ups a tid (numbered (passed old)) ++ xs) (is ∙ ap (ups a tid) passes.sent) ∙
    sym (ups-append a tid (numbered (passed old)) (numbered passes.frames)) ∙
    ap (ups a tid) (sym (map-append (λ p. (p.0 % 4096, p.1)) (passed old) passes.frames) ∙ ap numbered (sym passes.grows))

-- ---- the clock

not_tick : (bytes : List ℕ) (n : ℕ) → event.Frame bytes ≡ event.Tick n → ⊥
not_tick bytes n e = cc

kick_not_tick : (a : List ℕ) (reason n : ℕ) → event.Kick a reason ≡ event.Tick n → ⊥
kick_not_tick a reason n e = cc

close_not_tick : (a : List ℕ) (tid n : ℕ) → event.Close a tid ≡ event.Tick n → ⊥
close_not_tick a tid n e = cc

form_clock : (c : Rules) (r r2 : Readings) (v : Event) (asked : List (Ask × ℕ)) (outs : List Out) → ((n : ℕ) → v ≡ event.Tick n → ⊥) → Form c r v asked outs r2 → r2.clock ≡ r.clock
form_clock c r r2 v asked outs not (quiet none stays) = stays.clock
form_clock c r r2 v asked outs not (moves a s none moved) = moved.clock
form_clock c r r2 v asked outs not (delivers f p is associated x) = x.stays.clock
form_clock c r r2 v asked outs not (takes f p tid u is at_tid at x) = x.agrees.clock
form_clock c r r2 v asked outs not (leaves f p tid u is at_tid at x) = x.agrees.clock
form_clock c r r2 v asked outs not (reports a tid start u at x) = x.agrees.clock
form_clock c r r2 v asked outs not (ends a tid last none x) = x.agrees.clock
form_clock c r r2 v asked outs not (grants a s verdict associated x) = x.agrees.clock
form_clock c r r2 v asked outs not (ticks n is x) = absurd (not n is)

step_clock : (c : Rules) (r r2 : Readings) (v : Event) (asked : List (Ask × ℕ)) (outs : List Out) (k : ℕ) → r.clock ≡ k → Step c r v asked outs r2 → r2.clock ≡ advanced v k
step_clock c r r2 (event.Tick n) asked outs k is step = step.clock ∙ ap (advanced (event.Tick n)) is
step_clock c r r2 (event.Frame bytes) asked outs k is step = form_clock c r r2 (event.Frame bytes) asked outs (not_tick bytes) (step_form c r (event.Frame bytes) asked outs r2 step) ∙ is
step_clock c r r2 (event.Kick a reason) asked outs k is step = form_clock c r r2 (event.Kick a reason) asked outs (kick_not_tick a reason) (step_form c r (event.Kick a reason) asked outs r2 step) ∙ is
step_clock c r r2 (event.Close a tid) asked outs k is step = form_clock c r r2 (event.Close a tid) asked outs (close_not_tick a tid) (step_form c r (event.Close a tid) asked outs r2 step) ∙ is

-- ---- what is known after a history

-- the agreement that the history describes is what the readings hold, and what was passed up since is in order
pub record Tells (c : Rules) (h : List Entry) (a : List ℕ) (tid : ℕ) (o : Option Using) : Type 0 where
  pub agreement : Option Agreement
  pub since : List Entry
  pub tells : Agreed c a tid h agreement since
  pub reads : ReadsAgreed agreement o
  pub order : (old : Agreement) → agreement ≡ Some old → ups_since a tid since ≡ ups a tid (numbered (passed old.window))

pub record Past (c : Rules) (h : List Entry) (r : Readings) : Type 0 where
  pub holds : HoldsAgreements r
  pub clock : r.clock ≡ clock_after h
  pub stands : (a : List ℕ) → StandsBy c h a (r.standing a)
  pub agrees : (a : List ℕ) (tid : ℕ) → Tells c h a tid (r.agreement a tid)

pub reading_of : (c : Rules) (h : List Entry) (r : Readings) → Past c h r → IsReadingOf c h r
reading_of c h r past =
    record {
      standing = past.stands;
      agreement = λ a tid. let t = past.agrees a tid in record { agreement = t.agreement; since = t.since; tells = t.tells; reads = t.reads };
      clock = past.clock;
    }

pub no_past : (c : Rules) → Past c [] opening
no_past c =
    record {
      holds = opening_agrees;
      clock = refl;
      stands = λ a. record { exchanges = []; are = none_yet; is = refl };
      agrees = λ a tid. record { agreement = None; since = []; tells = never_yet; reads = tt; order = λ old there. absurd (none-some old there) };
    }

module _ (c : Rules) (h : List Entry) (e : Entry) (r2 : Readings) (a : List ℕ) (tid : ℕ) where
  told_on : (g : Option Agreement) (since : List Entry) → Agreed c a tid h g since → ((old : Agreement) → g ≡ Some old → ups_since a tid since ≡ ups a tid (numbered (passed old.window))) →
      Telling c e (clock_after (e ∷ h)) r2 a tid g → Tells c (e ∷ h) a tid (r2.agreement a tid)
  told_on g since tells order (it_opens new opens reads up) =
      record {
        agreement = Some new;
        since = [];
        tells = opened e h since g new opens tells;
        reads = reads;
        order = λ old there.
            let same : new ≡ old = same_Some new old there in
            let P : Agreement → Type 0 = λ x. [] ≡ ups a tid (numbered (passed x.window)) in
            subst P (sym opens.is ∙ same) (ap (λ xs. ups a tid (numbered xs)) (sym (nothing_below opens.start)));
      }
  told_on g since tells order (it_is_used old new out there uses reads passes are) =
      let P : Option Agreement → Type 0 = λ o. Agreed c a tid h o since in
      record {
        agreement = Some new;
        since = e ∷ since;
        tells = used e h since old new uses (subst P there tells);
        reads = reads;
        order = λ x at.
            let Q : Agreement → Type 0 = λ y. ups_since a tid since ++ ups_of a tid e.outs ≡ ups a tid (numbered (passed y.window)) in
            subst Q (same_Some new x at) (grown a tid old.window new.window out (ups_since a tid since) (ups_of a tid e.outs) passes (order old there) are);
      }
  told_on g since tells order (it_ends old there ending after up) =
      let P : Option Agreement → Type 0 = λ o. Agreed c a tid h o since in
      let Q : Option Using → Type 0 = λ o. ReadsAgreed None o in
      record { agreement = None; since = []; tells = ended e h since old ending (subst P there tells); reads = subst Q (sym after) tt; order = λ x at. absurd (none-some x at) }
  told_on g since tells order (it_is_dropped old there drops after none) =
      let P : Option Agreement → Type 0 = λ o. Agreed c a tid h o since in
      let Q : Option Using → Type 0 = λ o. ReadsAgreed None o in
      record { agreement = None; since = []; tells = dropped e h since old drops (subst P there tells); reads = subst Q (sym after) tt; order = λ x at. absurd (none-some x at) }
  told_on g since tells order (it_is_alone leaves_alone reads none) =
      record {
        agreement = g;
        since = e ∷ since;
        tells = alone e h since g leaves_alone tells;
        reads = reads;
        order = λ old there. ap (λ xs. ups_since a tid since ++ xs) (none old there) ∙ append-nil (ups_since a tid since) ∙ order old there;
      }

-- what the next step does to an agreement
telling : (c : Rules) (h : List Entry) (r r2 : Readings) (e : Entry) (past : Past c h r) → Handles c r e r2 → (a : List ℕ) (tid : ℕ) → Telling c e (clock_after (e ∷ h)) r2 a tid (past.agrees a tid).agreement
telling c h r r2 e past step a tid =
    event_tells c e (clock_after (e ∷ h)) r r2 (step_clock c r r2 e.event e.asked e.outs (clock_after h) past.clock step) past.holds a tid (past.agrees a tid).agreement (past.agrees a tid).reads e.event refl step

pub past_on : (c : Rules) (h : List Entry) (r r2 : Readings) (e : Entry) → Past c h r → Handles c r e r2 → Past c (e ∷ h) r2
past_on c h r r2 e past step =
    record {
      holds = step_holds c r r2 e past.holds step;
      clock = step_clock c r r2 e.event e.asked e.outs (clock_after h) past.clock step;
      stands = λ a. stands_on c h e a (r.standing a) (r2.standing a) (past.stands a) (event_stands c e r r2 a e.event refl step);
      agrees = λ a tid.
          let t = past.agrees a tid in
          told_on c h e r2 a tid t.agreement t.since t.tells t.order (telling c h r r2 e past step a tid);
    }

pub turned : (e : Entry) (later h : List Entry) → reverse (e ∷ later) ++ h ≡ reverse later ++ (e ∷ h)
turned e later h = ap (λ xs. xs ++ h) (reverse_onto later e []) ∙ append_assoc (reverse later) (e ∷ []) h

pub past_run : (c : Rules) {r r2 : Readings} {later : List Entry} (h : List Entry) → Past c h r → Run c r later r2 → Past c (reverse later ++ h) r2
past_run c h past (rests r) = past
past_run c h past (goes_on r mid r2 e later step run) =
    let P : List Entry → Type 0 = λ xs. Past c xs r2 in
    subst P (sym (turned e later h)) (past_run c (e ∷ h) (past_on c h r mid e past step) run)

pub past_of : (c : Rules) (entries : List Entry) (r : Readings) → Run c opening entries r → Past c (reverse entries) r
past_of c entries r run =
    let P : List Entry → Type 0 = λ xs. Past c xs r in
    subst P (append-nil (reverse entries)) (past_run c [] (no_past c) run)

-- ---- the laws

pub runs_are_read : RunsAreRead
runs_are_read c entries r run = reading_of c (reverse entries) r (past_of c entries r run)

pub tells_one : TellsOne
tells_one c entries r a tid run =
    let t = (past_of c entries r run).agrees a tid in
    record {
      agreement = t.agreement;
      since = t.since;
      tells = t.tells;
      only = λ g others x. let same = tells_once c a tid x t.tells in (same.agreement, same.entries);
    }

pub goes_on_in_order : GoesOnInOrder
goes_on_in_order c entries r a tid run g since tells =
    let t = (past_of c entries r run).agrees a tid in
    let same = tells_once c a tid t.tells tells in
    let P : List Entry → Type 0 = λ xs. ups_since a tid xs ≡ ups a tid (numbered (passed g.window)) in
    passed_in_order a tid g.window (ups_since a tid since) (subst P same.entries (t.order g same.agreement))

-- an agreement that the step ends or replaces
ended_up : (c : Rules) (e : Entry) (clock : ℕ) (r2 : Readings) (a : List ℕ) (tid : ℕ) (g : Agreement) (o : Option Agreement) → o ≡ Some g → Ends c e a tid clock g ⊎ ((new : Agreement) × Opens c e a tid clock new) → Telling c e clock r2 a tid o → EndsUp c e clock r2 a tid g
ended_up c e clock r2 a tid g o there how (it_opens new opens reads up) = up g there
ended_up c e clock r2 a tid g o there (inl x) (it_is_used old new out at uses reads passes are) = absurd (use_no_end c e a tid clock old new g uses x)
ended_up c e clock r2 a tid g o there (inr x) (it_is_used old new out at uses reads passes are) = absurd (opens_no_use c e a tid clock x.0 old new x.1 uses)
ended_up c e clock r2 a tid g o there how (it_ends old at x after up) =
    let P : Agreement → Type 0 = λ y. EndsUp c e clock r2 a tid y in
    subst P (same_Some old g (sym at ∙ there)) up
ended_up c e clock r2 a tid g o there (inl x) (it_is_dropped old at drops after none) = absurd (end_no_drop c e a tid clock g x drops)
ended_up c e clock r2 a tid g o there (inr x) (it_is_dropped old at drops after none) = absurd (opens_no_drop c e a tid clock x.0 x.1 drops)
ended_up c e clock r2 a tid g o there (inl x) (it_is_alone leaves_alone reads none) = absurd (leaves_alone.not_ended g there x)
ended_up c e clock r2 a tid g o there (inr x) (it_is_alone leaves_alone reads none) = absurd (leaves_alone.not_opened x.0 x.1)

pub ends_in_order : EndsInOrder
ends_in_order c entries r r2 e a tid run step g since tells how =
    let past = past_of c entries r run in
    let t = past.agrees a tid in
    let same = tells_once c a tid t.tells tells in
    let x = ended_up c e (clock_after (e ∷ reverse entries)) r2 a tid g t.agreement same.agreement how (telling c (reverse entries) r r2 e past step a tid) in
    let P : List Entry → Type 0 = λ xs. ups_since a tid xs ≡ ups a tid (numbered (passed g.window)) in
    record {
      last = x.last;
      ends = x.ends;
      order = passed_in_order a tid x.last (ups_since a tid since ++ ups_of a tid e.outs)
          (grown a tid g.window x.last x.passed (ups_since a tid since) (ups_of a tid e.outs) x.passes (subst P same.entries (t.order g same.agreement)) x.are);
    }

silently : (c : Rules) (e : Entry) (clock : ℕ) (r2 : Readings) (a : List ℕ) (tid : ℕ) (g : Agreement) (o : Option Agreement) → o ≡ Some g → Drops c e a tid clock → Telling c e clock r2 a tid o → ups_of a tid e.outs ≡ []
silently c e clock r2 a tid g o there d (it_opens new opens reads up) = absurd (opens_no_drop c e a tid clock new opens d)
silently c e clock r2 a tid g o there d (it_is_used old new out at uses reads passes are) = absurd (use_no_drop c e a tid clock old new uses d)
silently c e clock r2 a tid g o there d (it_ends old at x after up) = absurd (end_no_drop c e a tid clock old x d)
silently c e clock r2 a tid g o there d (it_is_dropped old at drops after none) = none
silently c e clock r2 a tid g o there d (it_is_alone leaves_alone reads none) = none g there

pub drops_silently : DropsSilently
drops_silently c entries r r2 e a tid run step g since tells d =
    let past = past_of c entries r run in
    let t = past.agrees a tid in
    let same = tells_once c a tid t.tells tells in
    silently c e (clock_after (e ∷ reverse entries)) r2 a tid g t.agreement same.agreement d (telling c (reverse entries) r r2 e past step a tid)
