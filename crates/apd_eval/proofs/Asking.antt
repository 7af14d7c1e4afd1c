-- An event's last query is about its frame, and so is the query of a row about its packet's.
use Rattle.std.proofs.Common.{◌≡◌, ◌<◌, ◌∙◌, ◌⊎◌, ◌==◌, ◌+◌, ◌-◌, ℕ, min, nat_lt, Bool, true, false, Option, Some, None, Result, Ok, Err, List, [], ◌∷◌, ◌++◌, length, slice_get, inl, inr, refl, sym, ap, subst, arith, append_assoc, append-nil, if◌then◌else◌}
use Rattle.std.proofs.lemmas.Bool.Decides.{Decides-eqb}
use Rattle.std.proofs.Math.Seq.{get_or-append_seam}
use Rattle.std.proofs.lemmas.Option.{slice_get-get_or}
use Rattle.std.proofs.lemmas.List.{length-append}
use Rattle.bpf_regions.specs.declared.hooks.Hook.{Hook}
use Rattle.bpf_regions.specs.declared.hooks.Hook.TheVariants.{Association, Addba, Data}
use Rattle.bpf_regions.specs.Hooks.{number_of}
use Rattle.bpf_helpers.specs.Hooked.{Given}
use Rattle.bpf_machine.specs.Verified.{Verified}
use Rattle.program_judge.specs.Programs.{program_at}
use Rattle.apd_eval.specs.Metered.{Metered}
use Rattle.capture.specs.Packets.{Seen}
use Rattle.capture.specs.declared.fault.LeftOut.{LeftOut}
use Rattle.mac_frame.specs.Spelling.{Frame, spelling}
use Rattle.ap_model.specs.declared.event.Event.{Event}
use Rattle.ap_model.specs.declared.event.Event.TheVariants as event
use Rattle.ap_model.specs.declared.event.Out.{Out}
use Rattle.ap_model.specs.Asks.{Ask, Answered}
use Rattle.ap_model.specs.Readings.{Readings, Rules}
use Rattle.ap_model.specs.Runs.{Entry, Run, rests, goes_on}
use Rattle.ap_model.specs.Steps.{Step}
use Rattle.ap_model.specs.AccessPoint.{Turn, At, AreTurns, no_event, refused, at_its_shard, ticked, shard_of, entries_of, asked_of}
use Rattle.ap_core.specs.declared.shard.Shard.{Shard}
use Rattle.ap_core.specs.AccessPoints.{rules_of, readings_of}
use Rattle.ap_single.proofs.Leading.{no_turns}
use Rattle.apd_policies.specs.Script.{unit_of}
use Rattle.ap_laws.specs.Asking.{IsAskOf, IsAskAbout, of_association, of_setup, of_data, AsksOnce, asks_nothing, asks_one, StepsAskOnce}
use Rattle.apd_eval.specs.Again.{received, frame_at, frame_in}
use Rattle.apd_eval.specs.Asked.{IsAlone, IsRuledOn, IsLastOf, IsAsked, AreAsked}
use Rattle.apd_eval.specs.Follows.{Chosen, is_received, Stays, FrameComes, Follows, rows_of}
use Rattle.apd_eval.specs.Leading.{Leads, Happens}
use Rattle.apd_eval.specs.Rulings.{Heard, GivesMetered, IsRuling, GivesRuling}
use Rattle.apd_eval.specs.declared.ruling.Ruling.{Ruling}
use Rattle.apd_eval.specs.declared.row.Row.{Row}
use Rattle.apd_eval.specs.declared.tried.Policy.{Policy}

not_cons : {A : Type 0} (x : A) (xs : List A) → [] ≡ x ∷ xs → ⊥
not_cons x xs = λ (none : [] ≡ x ∷ xs). cc

tail_is : {A : Type 0} (x y : A) (xs ys : List A) → x ∷ xs ≡ y ∷ ys → xs ≡ ys
tail_is x y xs ys = λ (same : x ∷ xs ≡ y ∷ ys). cc

head_is : {A : Type 0} (x y : A) (xs ys : List A) → x ∷ xs ≡ y ∷ ys → x ≡ y
head_is x y xs ys = λ (same : x ∷ xs ≡ y ∷ ys). cc

some_is : {A : Type 0} (x y : A) → Some x ≡ Some y → x ≡ y
some_is x y = λ (same : Some x ≡ Some y). cc

not_none : {A : Type 0} (x : A) → Some x ≡ None → ⊥
not_none x = λ (none : Some x ≡ None). cc

bytes_are : (a b : List ℕ) → event.Frame a ≡ event.Frame b → a ≡ b
bytes_are a b = λ (same : event.Frame a ≡ event.Frame b). cc

not_equal : false ≡ true → ⊥
not_equal = λ (same : false ≡ true). cc

same_hook : (a b : Hook) → (number_of a == number_of b) ≡ true → a ≡ b
same_hook Association Association e = refl
same_hook Association Addba e = absurd (not_equal e)
same_hook Association Data e = absurd (not_equal e)
same_hook Addba Association e = absurd (not_equal e)
same_hook Addba Addba e = refl
same_hook Addba Data e = absurd (not_equal e)
same_hook Data Association e = absurd (not_equal e)
same_hook Data Addba e = absurd (not_equal e)
same_hook Data Data e = refl

no_frame : (n : ℕ) (bytes : List ℕ) → event.Tick n ≡ event.Frame bytes → ⊥
no_frame n bytes = λ (same : event.Tick n ≡ event.Frame bytes). cc

no_shard : (n s : ℕ) → shard_of (event.Tick n) ≡ Some s → ⊥
no_shard n s = λ (none : None ≡ Some s). cc

-- ---- one event

low_shard : (e : Event) (s : ℕ) → shard_of e ≡ Some s → s < 8
low_shard (event.Frame bytes) s at = let is = some_is _ s at in omega (arith, is)
low_shard (event.Tick n) s at = absurd (no_shard n s at)
low_shard (event.Kick a reason) s at = let is = some_is _ s at in omega (arith, is)
low_shard (event.Close a tid) s at = let is = some_is _ s at in omega (arith, is)

own : (s : ℕ) (e : Entry) → entries_of s (At s e ∷ []) ≡ e ∷ []
own s e = ap (λ (t : Bool). (if t then e ∷ [] else [])) ((Decides-eqb s s).1 refl)

step_of : {c : Rules} {r r2 : Readings} {es : List Entry} → (e : Entry) → Run c r es r2 → es ≡ e ∷ [] → (mid : Readings) × Step c r e.event e.asked e.outs mid
step_of e (rests r) q = absurd (not_cons e [] q)
step_of {c} e (goes_on r mid r2 e2 later step t) q = (mid, subst (λ (x : Entry). Step c r x.event x.asked x.outs mid) (head_is e2 e later [] q) step)

one_turn : {es : List Event} {rs : List (Option (List Out))} {ts : List Turn} → (e : Event) → AreTurns es rs ts → es ≡ e ∷ []
    → (asked_of ts ≡ []) ⊎ ((s : ℕ) × (entry : Entry) × (shard_of e ≡ Some s) × (entry.event ≡ e) × (ts ≡ At s entry ∷ []))
one_turn e no_event q = absurd (not_cons e [] q)
one_turn e (refused e2 es rs ts t) q = inl (ap asked_of (no_turns t (tail_is e2 e es [] q)))
one_turn e (at_its_shard e2 s es rs ts f t) q =
    let same = head_is e2.event e es [] q in
    inr (s, e2, subst (λ (x : Event). shard_of x ≡ Some s) same f, same, ap (λ (l : List Turn). At s e2 ∷ l) (no_turns t (tail_is e2.event e es [] q)))
one_turn e (ticked n outs es rs ts t) q = inl (ap asked_of (no_turns t (tail_is (event.Tick n) e es [] q)))

about : {r : Readings} {f : Frame} {ask : Ask} → IsAskOf r f ask → ask.frame ≡ spelling f
about (of_association q same request) = ap spelling same
about (of_setup s bssid sequence same is policy) = ap spelling same
about (of_data p kind same is carries) = ap spelling same

module _ (once : StepsAskOnce) (p : Policy) (e : Event) (g : Given) (h h' : Metered) where
  abbrev gives : Heard → Ask → ℕ → Heard → Type 0
  gives = GivesRuling g p.programs.now

  abbrev before : Heard
  before = record { held = h; last = None }

  abbrev after : Option Ruling → Heard
  after last = record { held = h'; last = last }

  unasked : (last : Option Ruling) → Answered gives before [] (after last) → IsLastOf p e h.counts last h'.counts
  unasked None same = ap (λ (x : Heard). x.held.counts) same
  unasked (Some r) same = absurd (not_none r (ap (λ (x : Heard). x.last) same))

  by_query : (last : Option Ruling) (c : Rules) (r1 : Readings) (ask : Ask) (verdict : ℕ) → IsAskAbout c r1 e ask → Answered gives before ((ask, verdict) ∷ []) (after last)
      → IsLastOf p e h.counts last h'.counts
  by_query None c r1 ask verdict is answered =
      let mid : Heard = answered.0 in
      let gave : gives before ask verdict mid = answered.1 in
      let end : after None ≡ mid = answered.2 in
      absurd (not_none gave.ruling (sym (ap (λ (x : Heard). x.last) end ∙ gave.last)))
  by_query (Some r) c r1 ask verdict is answered =
      let mid : Heard = answered.0 in
      let gave : gives before ask verdict mid = answered.1 in
      let end : after (Some r) ≡ mid = answered.2 in
      let last : gave.ruling ≡ r = sym (some_is r gave.ruling (ap (λ (x : Heard). x.last) end ∙ gave.last)) in
      record {
        given = g;
        before = h;
        after = mid.held;
        from = refl;
        to = sym (ap (λ (x : Heard). x.held.counts) end);
        ask = ask;
        came = is.came ∙ ap event.Frame (sym (about is.is));
        is = subst (λ (x : Ruling). IsRuling g p.programs.now h ask x mid.held) last gave.is;
      }

  by_one : (last : Option Ruling) (c : Rules) (r1 : Readings) (asked : List (Ask × ℕ)) → AsksOnce c r1 e asked → Answered gives before asked (after last) → IsLastOf p e h.counts last h'.counts
  by_one last c r1 _ asks_nothing answered = unasked last answered
  by_one last c r1 _ (asks_one ask verdict is) answered = by_query last c r1 ask verdict is answered

-- an event's last query is about its frame, and only the steps of its run are counted
pub last_of : StepsAskOnce → (p : Policy) (e : Event) (outs : List Out) (last : Option Ruling) (shards : List Shard) (h : Metered) (shards' : List Shard) (h' : Metered)
    → Leads p e (Some outs) last shards h shards' h' → IsLastOf p e h.counts last h'.counts
last_of once p e outs last shards h shards' h' leads =
    let led = leads.leads in
    let R = GivesRuling leads.given p.programs.now in
    let from : Heard = record { held = h; last = None } in
    let to : Heard = record { held = h'; last = last } in
    elim (one_turn e led.are refl) [
      | inl none ↦ unasked once p e leads.given h h' last (subst (λ (l : List (Ask × ℕ)). Answered R from l to) none led.listed)
      | inr turn ↦
          let s : ℕ = turn.0 in
          let entry : Entry = turn.1 in
          let entries = ap (entries_of s) turn.4 ∙ own s entry in
          let step = step_of entry (led.run s (low_shard e s turn.2)) entries in
          let asks = once (rules_of shards s) (readings_of shards s) step.0 entry.event entry.asked entry.outs step.1 in
          let here = subst (λ (x : Event). AsksOnce (rules_of shards s) (readings_of shards s) x entry.asked) turn.3 asks in
          let listed = subst (λ (l : List (Ask × ℕ)). Answered R from l to) (ap asked_of turn.4 ∙ append-nil entry.asked) led.listed in
          by_one once p e leads.given h h' last (rules_of shards s) (readings_of shards s) entry.asked here listed
    ]

-- ---- the packets of a capture

there : (all front rest : List Seen) (packet : Seen) → all ≡ front ++ packet ∷ rest → slice_get all (length front) ≡ Some packet
there all front rest packet is =
    let P : List Seen → Type 0 = λ l. slice_get l (length front) ≡ Some packet in
    let long = length-append front (packet ∷ rest) in
    subst P (sym is) (slice_get-get_or (front ++ packet ∷ rest) (length front) packet (omega (arith, long)) ∙ ap Some (get_or-append_seam front packet rest packet))

-- the frame of a packet with its number
pub at_number : (all front rest : List Seen) (packet : Seen) (number : ℕ) → all ≡ front ++ packet ∷ rest → number ≡ length front + 1 → frame_at all number ≡ received packet.frame
at_number all front rest packet number is counted =
    let index : number - 1 ≡ length front = omega (arith, counted) in
    ap (λ k. frame_in (slice_get all k)) index ∙ ap frame_in (there all front rest packet is)

-- time asks nothing
no_tick : (p : Policy) (n : ℕ) (counts counts' : List ℕ) (last : Option Ruling) → IsLastOf p (event.Tick n) counts last counts' → counts' ≡ counts
no_tick p n counts counts' None same = same
no_tick p n counts counts' (Some r) on = absurd (no_frame n on.ask.frame on.came)

-- without a program the counts stay
unmetered : (g : Given) (o : Option Verified) (h : Metered) (ask : Ask) (verdict steps : ℕ) (h' : Metered) → o ≡ None → GivesMetered g o h ask verdict steps h' → h'.counts ≡ h.counts
unmetered g None h ask verdict steps h' none gave = gave.1
unmetered g (Some v) h ask verdict steps h' none gave = absurd (not_none v none)

module _ (once : StepsAskOnce) (p : Policy) (alone : IsAlone p) (all : List Seen) where
  rows_append : (rows more : List Row) (c c1 c2 : List ℕ) → AreAsked p all c rows c1 → AreAsked p all c1 more c2 → AreAsked p all c (rows ++ more) c2
  rows_append [] more c c1 c2 a b = subst (λ (x : List ℕ). AreAsked p all x more c2) a b
  rows_append (row ∷ rows) more c c1 c2 a b = (a.0, a.1, rows_append rows more a.0 c1 c2 a.2 b)

  time_passes : (clock now : ℕ) (last : Option Ruling) (shards : List Shard) (h : Metered) (shards' : List Shard) (h' : Metered) (b : Bool)
      → Chosen b (Happens p (event.Tick (min (now - clock) 4294967295)) last shards h shards' h') (Stays last shards h shards' h') → h'.counts ≡ h.counts
  time_passes clock now last shards h shards' h' true happens =
      no_tick p (min (now - clock) 4294967295) h.counts h'.counts last (last_of once p (event.Tick (min (now - clock) 4294967295)) happens.0 last shards h shards' h' happens.1)
  time_passes clock now last shards h shards' h' false stays = ap (λ (x : Metered). x.counts) stays.held_stays

  -- a ruling on the frame of a packet is that of its row
  asked_by : (number : ℕ) (r : Ruling) (bytes : List ℕ) (c c' : List ℕ) → r.hook ≡ p.hook → frame_at all number ≡ bytes → IsRuledOn p (event.Frame bytes) c r c' → IsAsked p all c (record { packet = number; ruling = r }) c'
  asked_by number r bytes c c' hook frame on =
      let query : Ask = record { hook = r.hook; frame = frame_at all number; context = r.context } in
      let make : Hook → List ℕ → List ℕ → Ask = λ h f x. record { hook = h; frame = f; context = x } in
      let bytes_is : on.ask.frame ≡ frame_at all number = sym (bytes_are bytes on.ask.frame on.came) ∙ sym frame in
      let same : on.ask ≡ query =
      ap (λ h. make h on.ask.frame on.ask.context) (sym on.is.hook) ∙ (ap (λ f. make r.hook f on.ask.context) bytes_is ∙ ap (make r.hook (frame_at all number)) (sym on.is.context)) in
      record {
        hook = hook;
        given = on.given;
        before = on.before;
        after = on.after;
        from = on.from;
        to = on.to;
        is = subst (λ (q : Ask). IsRuling on.given p.programs.now on.before q r on.after) same on.is;
      }

  -- a ruling of another hook counts nothing
  other_hook : (r : Ruling) (e : Event) (c c' : List ℕ) → (number_of r.hook == number_of p.hook) ≡ false → IsRuledOn p e c r c' → c' ≡ c
  other_hook r e c c' other on =
      let none : program_at on.ask.hook p.programs.now ≡ None = subst (λ (k : Hook). program_at k p.programs.now ≡ None) on.is.hook (alone.others r.hook other) in
      sym on.to ∙ (unmetered on.given (program_at on.ask.hook p.programs.now) on.before on.ask r.verdict r.steps on.after none on.is.given ∙ on.from)

  if_row : (b : Bool) (row : Row) (c c' : List ℕ) → (b ≡ true → IsAsked p all c row c') → (b ≡ false → c' ≡ c) → AreAsked p all c (if b then row ∷ [] else []) c'
  if_row true row c c' asked same = (c', asked refl, refl)
  if_row false row c c' asked same = same refl

  row_asked : (number : ℕ) (bytes : List ℕ) (last : Option Ruling) (c c' : List ℕ) → frame_at all number ≡ bytes → IsLastOf p (event.Frame bytes) c last c' → AreAsked p all c (rows_of p.hook number last) c'
  row_asked number bytes None c c' frame same = same
  row_asked number bytes (Some r) c c' frame on =
      if_row (number_of r.hook == number_of p.hook) (record { packet = number; ruling = r }) c c' (λ own. asked_by number r bytes c c' (same_hook r.hook p.hook own) frame on) (λ other. other_hook r (event.Frame bytes) c c' other on)

  -- without an event there is no row
  stayed : (number : ℕ) (last : Option Ruling) (shards : List Shard) (h : Metered) (shards' : List Shard) (h' : Metered) → Stays last shards h shards' h' → AreAsked p all h.counts (rows_of p.hook number last) h'.counts
  stayed number None shards h shards' h' stays = ap (λ (x : Metered). x.counts) stays.held_stays
  stayed number (Some r) shards h shards' h' stays = absurd (not_none r stays.unasked)

  came : (bytes : List ℕ) (number : ℕ) (last : Option Ruling) (shards : List Shard) (h : Metered) (shards' : List Shard) (h' : Metered) → frame_at all number ≡ received (Ok bytes) → (b : Bool) → is_received bytes ≡ b
      → Chosen b (Happens p (event.Frame bytes) last shards h shards' h') (Stays last shards h shards' h') → AreAsked p all h.counts (rows_of p.hook number last) h'.counts
  came bytes number last shards h shards' h' frame true is happens =
      row_asked number bytes last h.counts h'.counts (frame ∙ ap (λ (t : Bool). (if t then bytes else [])) is) (last_of once p (event.Frame bytes) happens.0 last shards h shards' h' happens.1)
  came bytes number last shards h shards' h' frame false is stays = stayed number last shards h shards' h' stays

  packet_asked : (frame : Result (List ℕ) LeftOut) (number : ℕ) (last : Option Ruling) (shards : List Shard) (h : Metered) (shards' : List Shard) (h' : Metered) → frame_at all number ≡ received frame
      → FrameComes p frame last shards h shards' h' → AreAsked p all h.counts (rows_of p.hook number last) h'.counts
  packet_asked (Ok bytes) number last shards h shards' h' is comes = came bytes number last shards h shards' h' is (is_received bytes) refl comes
  packet_asked (Err left_out) number last shards h shards' h' is stays = stayed number last shards h shards' h' stays

  pub rows_asked : (start number clock : ℕ) (front rest : List Seen) (shards : List Shard) (h : Metered) (rows : List Row) (shards' : List Shard) (h' : Metered) → all ≡ front ++ rest → number ≡ length front + 1
      → Follows p start number clock shards h rest rows shards' h' → AreAsked p all h.counts rows h'.counts
  rows_asked start number clock front [] shards h rows shards' h' is counted follows =
      subst (λ (l : List Row). AreAsked p all h.counts l h'.counts) (sym follows.0) (ap (λ (x : Metered). x.counts) follows.2)
  rows_asked start number clock front (packet ∷ rest) shards h rows shards' h' is counted follows =
      let last : Option Ruling = follows.0 in
      let between : List Shard = follows.1 in
      let held : Metered = follows.2 in
      let more : List Row = follows.3 in
      let comes = follows.4 in
      let now : ℕ = unit_of start packet.time in
      let frame : frame_at all number ≡ received packet.frame = at_number all front rest packet number is counted in
      let passed : comes.held.counts ≡ h.counts = time_passes clock now comes.tick shards h comes.between comes.held (nat_lt clock now) comes.time in
      let one = packet_asked packet.frame number last comes.between comes.held between held frame comes.comes in
      let first : AreAsked p all h.counts (rows_of p.hook number last) held.counts = subst (λ (c : List ℕ). AreAsked p all c (rows_of p.hook number last) held.counts) passed one in
      let further : all ≡ (front ++ packet ∷ []) ++ rest = is ∙ sym (append_assoc front (packet ∷ []) rest) in
      let longer = length-append front (packet ∷ []) in
      let later = rows_asked start (number + 1) _ (front ++ packet ∷ []) rest between held more shards' h' further (omega (arith, counted, longer)) follows.6 in
      subst (λ (l : List Row). AreAsked p all h.counts l h'.counts) (sym follows.5) (rows_append (rows_of p.hook number last) more h.counts held.counts h'.counts first later)
