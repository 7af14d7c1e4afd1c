-- Data that is passed up came from a station that has been associated since.
use Rattle.std.proofs.Common.{◌≡◌, ℕ, ◌<◌, ◌⊎◌, inl, inr, ⊎_elim, Bool, true, false, Option, None, Some, List, [], ◌∷◌, ◌++◌, refl, sym, ap, ◌∙◌, subst, arith, append_assoc}
use Rattle.std.specs.Prelude.{Contains, is_some, if◌then◌else◌}
use Rattle.std.proofs.lemmas.List.{append-nil}
use Rattle.std.proofs.lemmas.List.Elements.{Contains-append_cases, Contains-append_left, Contains-append_right, Contains-push, Contains-push_cases}
use Rattle.mac_frame.specs.Spelling.{Frame}
use Rattle.assoc.specs.Standings.{state_of}
use Rattle.blockack.specs.Window.{opening as opening_window}
use Rattle.hooks.specs.declared.verdicts.DataVerdict.{DataVerdict}
use Rattle.hooks.specs.declared.verdicts.DataVerdict.TheVariants.{Pass, Discard}
use Rattle.hooks.specs.Verdicts.{data_verdict}
use Rattle.ap_model.specs.declared.event.Event.{Event}
use Rattle.ap_model.specs.declared.event.Out.{Out}
use Rattle.ap_model.specs.declared.event.Out.TheVariants as out
use Rattle.ap_model.specs.declared.event.Up.{Up}
use Rattle.ap_model.specs.Asks.{Ask}
use Rattle.ap_model.specs.Readings.{Readings, Rules, Using, Held}
use Rattle.ap_model.specs.Changes.{Agrees}
use Rattle.ap_model.specs.Agreements.{Packet, let_through, item, ups, up_held, data_ask, PassesHeld, none_held, held_up, block_ack, setup_answer, delba}
use Rattle.ap_model.specs.Steps.{EndInTurn, nobody_ends, one_end}
use Rattle.ap_model.specs.Runs.{Entry, Handles, Run, rests, goes_on, opening}
use Rattle.ap_laws.specs.Origins.{IsAssociated, IsArrival, RunWhile, ComesAssociated, WaitsAssociated, HoldsAgreements, OpeningHoldsAgreements, RunHoldsAgreements, FromAnyReadings, FromTheOpening}
use Rattle.ap_laws.specs.Origins.RunWhile.{rests as while_rests, goes_on as while_goes_on}
use Rattle.blockack.proofs.BelowLaws.{none_in_none}
use Rattle.ap_laws.proofs.HeldLaws.{HoldsAt, holds_read, CameOrHeld, taken_out, taken_held, taken_start, left_held, request_out, request_held, request_start, end_out}
use Rattle.ap_laws.proofs.ChangeLaws.{moved_agreement, moved_standing, agreed_cases, ticked_agreement}
use Rattle.ap_laws.proofs.Forms.{Form, quiet, moves, delivers, takes, leaves, reports, ends, grants, ticks, IsPacket, one_send, step_form}
use Rattle.std.proofs.lemmas.Option.{none-some, same_Some}

-- ---- longer runs

pub run_then : (c : Rules) {r at : Readings} {entries : List Entry} (r2 : Readings) (e : Entry) → Run c r entries at → Handles c at e r2 → Run c r (entries ++ e ∷ []) r2
run_then c r2 e (rests r) step = goes_on r r2 r2 e [] step (rests r2)
run_then c r2 e (goes_on r mid at e0 later first run) step = goes_on r mid r2 e0 (later ++ e ∷ []) first (run_then c r2 e run step)

pub while_then : (c : Rules) (P : Readings → Type 0) {r at : Readings} {entries : List Entry} (r2 : Readings) (e : Entry) → RunWhile c P r entries at → P at → Handles c at e r2 → RunWhile c P r (entries ++ e ∷ []) r2
while_then c P r2 e (while_rests r) holds step = while_goes_on r r2 r2 e [] holds step (while_rests r2)
while_then c P r2 e (while_goes_on r mid at e0 later here first run) holds step = while_goes_on r mid r2 e0 (later ++ e ∷ []) here first (while_then c P r2 e run holds step)

abbrev pub Origin : Rules → Readings → List Entry → Readings → Up → Type 0
Origin c r entries r2 d = ComesAssociated c r entries r2 d ⊎ WaitsAssociated c r entries r2 d

-- the source was associated before one more entry
extend : (c : Rules) (r at r2 : Readings) (entries : List Entry) (e : Entry) (d : Up) → IsAssociated d.source at → Handles c at e r2 → Origin c r entries at d → Origin c r (entries ++ e ∷ []) r2 d
extend c r at r2 entries e d associated step (inl o) =
    inl (record {
      before = o.before;
      arrival = o.arrival;
      after = o.after ++ e ∷ [];
      all = ap (λ xs. xs ++ e ∷ []) o.all ∙ append_assoc o.before (o.arrival ∷ o.after) (e ∷ []);
      at = o.at;
      first = o.first;
      is = o.is;
      since = while_then c (IsAssociated d.source) r2 e o.since associated step;
    })
extend c r at r2 entries e d associated step (inr o) =
    inr (record {
      tid = o.tid;
      numbered = o.numbered;
      using = o.using;
      is = o.is;
      place = o.place;
      held = o.held;
      number = o.number;
      since = while_then c (IsAssociated d.source) r2 e o.since associated step;
    })

-- the data arrives with this entry
arrive : (c : Rules) (r at r2 : Readings) (entries : List Entry) (e : Entry) (d : Up) → IsAssociated d.source at → Handles c at e r2 → Run c r entries at → IsArrival c e d → Origin c r (entries ++ e ∷ []) r2 d
arrive c r at r2 entries e d associated step run is =
    inl (record {
      before = entries;
      arrival = e;
      after = [];
      all = refl;
      at = at;
      first = run;
      is = is;
      since = while_goes_on at r2 r2 e [] associated step (while_rests r2);
    })

-- ---- what is passed up

abbrev pub Body : Type 0
Body = List ℕ × ℕ × List ℕ

abbrev pub data_of : List ℕ → ℕ → ℕ → Body → Up
data_of a tid k h = record { source = a; destination = h.0; tid = Some tid; number = k; mark = h.1; body = h.2 }

pub record UpOf (a : List ℕ) (tid : ℕ) (passed : List (ℕ × Held)) (d : Up) : Type 0 where
  pub number : ℕ
  pub frame : Body
  pub inside : Contains passed (number, Some frame)
  pub is : d ≡ data_of a tid number frame

up_eq : (one other : Up) → out.Up one ≡ out.Up other → other ≡ one
up_eq one other e = cc

up_of_one : (a : List ℕ) (tid : ℕ) (p : ℕ × Held) (d : Up) → Contains (up_held a tid p.0 p.1) (out.Up d) → UpOf a tid (p ∷ []) d
up_of_one a tid p d inside = by_item p.1 refl inside
  where
    by_item : (h : Held) → p.1 ≡ h → Contains (up_held a tid p.0 h) (out.Up d) → UpOf a tid (p ∷ []) d
    by_item None e c = absurd (none_in_none (out.Up d) c)
    by_item (Some h) e c =
        let P : ℕ × Held → Type 0 = λ x. Contains (p ∷ []) x in
        let pair : p ≡ (p.0, Some h) = ap (λ x. (p.0, x)) e in
        ⊎_elim
        (λ none. absurd (none_in_none (out.Up d) none))
        (λ is. record { number = p.0; frame = h; inside = subst P pair (Contains-push [] p); is = up_eq (data_of a tid p.0 h) d is })
        (Contains-push_cases [] (out.Up (data_of a tid p.0 h)) (out.Up d) c)

pub up_of : (a : List ℕ) (tid : ℕ) (passed : List (ℕ × Held)) (d : Up) → Contains (ups a tid passed) (out.Up d) → UpOf a tid passed d
up_of a tid [] d inside = absurd (none_in_none (out.Up d) inside)
up_of a tid (p ∷ passed) d inside =
    ⊎_elim
    (λ head. let u = up_of_one a tid p d head in record { number = u.number; frame = u.frame; inside = Contains-append_left (p ∷ []) passed (u.number, Some u.frame) u.inside; is = u.is })
    (λ tail. let u = up_of a tid passed d tail in record { number = u.number; frame = u.frame; inside = Contains-append_right (p ∷ []) passed (u.number, Some u.frame) u.inside; is = u.is })
    (Contains-append_cases (up_held a tid p.0 p.1) (ups a tid passed) (out.Up d) inside)

pub record WasHeld (a : List ℕ) (tid : ℕ) (o : Option Using) (d : Up) : Type 0 where
  pub using : Using
  pub is : o ≡ Some using
  pub number : ℕ
  pub frame : Body
  pub held : HoldsAt using.window number (Some frame)
  pub whole : d ≡ data_of a tid number frame

pub passes_was_held : (a : List ℕ) (tid : ℕ) (o : Option Using) (first : List Out) (d : Up) → ((u : Using) → o ≡ Some u → u.window.start < 4096) → PassesHeld a tid o first → Contains first (out.Up d) → WasHeld a tid o d
passes_was_held a tid o first d fits none_held inside = absurd (none_in_none (out.Up d) inside)
passes_was_held a tid o first d fits (held_up u passed ending) inside =
    let x = up_of a tid passed d inside in
    record { using = u; is = refl; number = x.number; frame = x.frame; held = end_out u.window passed (x.number, Some x.frame) (fits u refl) ending x.inside; whole = x.is }

-- ---- the agreements of associated stations

pub opening_agrees : OpeningHoldsAgreements
opening_agrees = record { associated = λ a tid u is. absurd (none-some u is); start = λ a tid u is. absurd (none-some u is) }

module _ (r r2 : Readings) (holds : HoldsAgreements r) where
  as_before : ((q : List ℕ) → r2.standing q ≡ r.standing q) → ((q : List ℕ) (t : ℕ) (u : Using) → r2.agreement q t ≡ Some u → r.agreement q t ≡ Some u) → HoldsAgreements r2
  as_before stands agrees =
      record {
        associated = λ a tid u is. ap state_of (stands a) ∙ holds.associated a tid u (agrees a tid u is);
        start = λ a tid u is. holds.start a tid u (agrees a tid u is);
      }

  with_new : (a : List ℕ) (tid : ℕ) (new : Using) → Agrees r a tid (Some new) r2 → IsAssociated a r → new.window.start < 4096 → HoldsAgreements r2
  with_new a tid new agrees associated fits =
      record {
        associated = λ q t u is.
            ⊎_elim
            (λ here. let P : List ℕ → Type 0 = λ x. state_of (r2.standing x) ≡ 3 in subst P here.0 (ap state_of (agrees.standing a) ∙ associated))
            (λ other. ap state_of (agrees.standing q) ∙ holds.associated q t u (sym other ∙ is))
            (agreed_cases r r2 a tid (Some new) agrees q t);
        start = λ q t u is.
            ⊎_elim
            (λ here. let P : Using → Type 0 = λ x. x.window.start < 4096 in subst P (same_Some new u (sym here.2 ∙ is)) fits)
            (λ other. holds.start q t u (sym other ∙ is))
            (agreed_cases r r2 a tid (Some new) agrees q t);
      }

  with_none : (a : List ℕ) (tid : ℕ) → Agrees r a tid None r2 → HoldsAgreements r2
  with_none a tid agrees =
      as_before agrees.standing (λ q t u is.
      ⊎_elim (λ here. absurd (none-some u (sym here.2 ∙ is))) (λ other. sym other ∙ is) (agreed_cases r r2 a tid None agrees q t))

pub form_holds : (c : Rules) (r r2 : Readings) (e : Event) (asked : List (Ask × ℕ)) (outs : List Out) → HoldsAgreements r → Form c r e asked outs r2 → HoldsAgreements r2
form_holds c r r2 e asked outs holds (quiet none stays) = as_before r r2 holds stays.standing (λ q t u is. sym (stays.agreement q t) ∙ is)
form_holds c r r2 e asked outs holds (moves a s none moved) =
    record {
      associated = λ q t u is.
          let m = moved_agreement r r2 a s moved q t u is in
          ap state_of (moved_standing r r2 a s moved q m.0) ∙ holds.associated q t u m.1;
      start = λ q t u is. holds.start q t u (moved_agreement r r2 a s moved q t u is).1;
    }
form_holds c r r2 e asked outs holds (delivers f p is associated d) = as_before r r2 holds d.stays.standing (λ q t u at. sym (d.stays.agreement q t) ∙ at)
form_holds c r r2 e asked outs holds (takes f p tid u is at_tid at t) =
    with_new r r2 holds f.sender tid (record { window = t.window; timeout = u.timeout; last_use = r.clock }) t.agrees (holds.associated f.sender tid u at)
    (taken_start p.number (item p (data_verdict t.verdict)) true u.window t.window t.passed (holds.start f.sender tid u at) t.moves)
form_holds c r r2 e asked outs holds (leaves f p tid u is at_tid at l) =
    with_new r r2 holds f.sender tid (record { window = l.window; timeout = u.timeout; last_use = r.clock }) l.agrees (holds.associated f.sender tid u at)
    (taken_start p.number None false u.window l.window [] (holds.start f.sender tid u at) l.moves)
form_holds c r r2 e asked outs holds (reports a tid start u at p) =
    with_new r r2 holds a tid (record { window = p.window; timeout = u.timeout; last_use = r.clock }) p.agrees (holds.associated a tid u at)
    (request_start start u.window p.window p.passed (holds.start a tid u at) p.moves)
form_holds c r r2 e asked outs holds (ends a tid last none ending) = with_none r r2 holds a tid ending.agrees
form_holds c r r2 e asked outs holds (grants a s verdict associated g) =
    with_new r r2 holds a s.parameters.tid (record { window = g.window; timeout = s.timeout; last_use = r.clock }) g.agrees associated
    (let x = g.opens.residue in omega arith)
form_holds c r r2 e asked outs holds (ticks n is t) = as_before r r2 holds t.standing (ticked_agreement c r r2 n asked outs t)

pub step_holds : (c : Rules) (r r2 : Readings) (e : Entry) → HoldsAgreements r → Handles c r e r2 → HoldsAgreements r2
step_holds c r r2 e holds step = form_holds c r r2 e.event e.asked e.outs holds (step_form c r e.event e.asked e.outs r2 step)

pub run_holds_agreements : (c : Rules) {r r2 : Readings} {entries : List Entry} → HoldsAgreements r → Run c r entries r2 → HoldsAgreements r2
run_holds_agreements c holds (rests r) = holds
run_holds_agreements c holds (goes_on r mid r2 e later step run) = run_holds_agreements c (step_holds c r mid e holds step) run

pub runs_hold_agreements : RunHoldsAgreements
runs_hold_agreements c r r2 entries holds run = run_holds_agreements c holds run

-- ---- one more step

-- all that is held has an origin
abbrev pub Backed : Rules → Readings → List Entry → Readings → Type 0
Backed c r entries at = (a : List ℕ) (tid : ℕ) (u : Using) (k : ℕ) (h : Body) → at.agreement a tid ≡ Some u → HoldsAt u.window k (Some h) → Origin c r entries at (data_of a tid k h)

item_is : (p : Packet) (v : DataVerdict) (h : Body) → item p v ≡ Some (Some h) → (mark : ℕ) × (v ≡ Pass mark) × ((p.destination, mark, p.frame.tail) ≡ h)
item_is p (Pass mark) h e = (mark, refl, inner)
  where
    inner : (p.destination, mark, p.frame.tail) ≡ h
    inner = cc
item_is p Discard h e = absurd (none-some (Some h) e)

pub if_there : (b : Bool) (first last : List Out) (d : Up) → Contains (if b then first ++ last else []) (out.Up d) → Contains first (out.Up d) ⊎ Contains last (out.Up d)
if_there true first last d inside = Contains-append_cases first last (out.Up d) inside
if_there false first last d inside = absurd (none_in_none (out.Up d) inside)

module _ (c : Rules) (r0 : Readings) (entries : List Entry) (r r2 : Readings) (e : Entry) (run : Run c r0 entries r) (holds : HoldsAgreements r) (backed : Backed c r0 entries r) (step : Handles c r e r2) where
  keep : (a : List ℕ) (tid : ℕ) (u : Using) (k : ℕ) (h : Body) → r.agreement a tid ≡ Some u → HoldsAt u.window k (Some h) → Origin c r0 (entries ++ e ∷ []) r2 (data_of a tid k h)
  keep a tid u k h is held = extend c r0 r r2 entries e (data_of a tid k h) (holds.associated a tid u is) step (backed a tid u k h is held)

  -- what came with the step
  come : (f : Frame) (p : Packet) (ask : Ask) (verdict mark : ℕ) → IsPacket c e.event f p → IsAssociated f.sender r → e.asked ≡ (ask, verdict) ∷ [] → data_verdict verdict ≡ Pass mark →
      (d : Up) → d ≡ record { source = f.sender; destination = p.destination; tid = p.tid; number = p.number; mark = mark; body = p.frame.tail } → Origin c r0 (entries ++ e ∷ []) r2 d
  come f p ask verdict mark is associated asked passes d same =
      let whole : Up = record { source = f.sender; destination = p.destination; tid = p.tid; number = p.number; mark = mark; body = p.frame.tail } in
      let P : Up → Type 0 = λ x. Origin c r0 (entries ++ e ∷ []) r2 x in
      subst P (sym same) (arrive c r0 r r2 entries e whole associated step run (record {
        frame = f;
        grammar = is.grammar;
        came = is.came;
        for_us = is.for_us;
        source = refl;
        kind = is.kind;
        content = is.content;
        carries = is.carries;
        body = ap (λ x. x.tail) (sym is.frame);
        ask = ask;
        verdict = verdict;
        asked = asked;
        passes = passes;
      }))

  -- the item of the packet, or what was held
  either : (f : Frame) (p : Packet) (tid : ℕ) (u : Using) (ask : Ask) (verdict k : ℕ) (h : Body) → IsPacket c e.event f p → p.tid ≡ Some tid → r.agreement f.sender tid ≡ Some u → e.asked ≡ (ask, verdict) ∷ [] →
      CameOrHeld p.number (item p (data_verdict verdict)) u.window k (Some h) → Origin c r0 (entries ++ e ∷ []) r2 (data_of f.sender tid k h)
  either f p tid u ask verdict k h is at_tid at asked (inl came) =
      let i = item_is p (data_verdict verdict) h came.1 in
      come f p ask verdict i.0 is (holds.associated f.sender tid u at) asked i.1 (data_of f.sender tid k h)
      (ap (λ x. data_of f.sender tid x h) came.0 ∙ ap (λ x. data_of f.sender tid p.number x) (sym i.2) ∙
      ap (λ x. record { source = f.sender; destination = p.destination; tid = x; number = p.number; mark = i.0; body = p.frame.tail }) (sym at_tid))
  either f p tid u ask verdict k h is at_tid at asked (inr held) = keep f.sender tid u k h at held

  kept : ((q : List ℕ) (t : ℕ) (u : Using) → r2.agreement q t ≡ Some u → r.agreement q t ≡ Some u) → Backed c r0 (entries ++ e ∷ []) r2
  kept same a tid u k h is held = keep a tid u k h (same a tid u is) held

  -- all that a changed agreement holds has an origin
  changed : (a : List ℕ) (tid : ℕ) (new : Using) → Agrees r a tid (Some new) r2 → ((k : ℕ) (h : Body) → HoldsAt new.window k (Some h) → Origin c r0 (entries ++ e ∷ []) r2 (data_of a tid k h)) → Backed c r0 (entries ++ e ∷ []) r2
  changed a tid new agrees comes q t u k h is held =
      ⊎_elim
      (λ here.
      let P : List ℕ → ℕ → Type 0 = λ x y. Origin c r0 (entries ++ e ∷ []) r2 (data_of x y k h) in
      let Q : Using → Type 0 = λ x. HoldsAt x.window k (Some h) in
      let o = comes k h (subst Q (sym (same_Some new u (sym here.2 ∙ is))) held) in
      let R : List ℕ → Type 0 = λ x. P x t in
      let S : ℕ → Type 0 = λ y. P a y in
      subst R here.0 (subst S here.1 o))
      (λ other. keep q t u k h (sym other ∙ is) held)
      (agreed_cases r r2 a tid (Some new) agrees q t)

  was_kept : (a : List ℕ) (tid : ℕ) (d : Up) → WasHeld a tid (r.agreement a tid) d → Origin c r0 (entries ++ e ∷ []) r2 d
  was_kept a tid d w =
      let P : Up → Type 0 = λ x. Origin c r0 (entries ++ e ∷ []) r2 x in
      subst P (sym w.whole) (keep a tid w.using w.number w.frame w.is w.held)

  passed_kept : (a : List ℕ) (tid : ℕ) (first : List Out) (d : Up) → PassesHeld a tid (r.agreement a tid) first → Contains first (out.Up d) → Origin c r0 (entries ++ e ∷ []) r2 d
  passed_kept a tid first d passes inside = was_kept a tid d (passes_was_held a tid (r.agreement a tid) first d (λ u is. holds.start a tid u is) passes inside)

  in_turn : (keys : List (List ℕ × ℕ)) (outs : List Out) (d : Up) → EndInTurn c r keys outs → Contains outs (out.Up d) → Origin c r0 (entries ++ e ∷ []) r2 d
  in_turn keys outs d nobody_ends inside = absurd (none_in_none (out.Up d) inside)
  in_turn keys outs d (one_end a tid later first rest passes turns) inside =
      ⊎_elim
      (λ head. passed_kept a tid first d passes head)
      (λ tail.
      ⊎_elim
      (λ sent. absurd (one_send _ d sent))
      (λ further. in_turn later rest d turns further)
      (Contains-append_cases (delba c a tid 39 ∷ []) rest (out.Up d) tail))
      (Contains-append_cases first (delba c a tid 39 ∷ rest) (out.Up d) inside)

  form_backed : Form c r e.event e.asked e.outs r2 → Backed c r0 (entries ++ e ∷ []) r2
  form_backed (quiet none stays) = kept (λ q t u is. sym (stays.agreement q t) ∙ is)
  form_backed (moves a s none moved) = kept (λ q t u is. (moved_agreement r r2 a s moved q t u is).1)
  form_backed (delivers f p is associated d) = kept (λ q t u at. sym (d.stays.agreement q t) ∙ at)
  form_backed (takes f p tid u is at_tid at t) =
      changed f.sender tid (record { window = t.window; timeout = u.timeout; last_use = r.clock }) t.agrees
      (λ k h held.
      either f p tid u (data_ask r f.sender p) t.verdict k h is at_tid at t.asks
      (taken_held p.number (item p (data_verdict t.verdict)) u.window t.window t.passed k (Some h) (holds.start f.sender tid u at) t.moves held))
  form_backed (leaves f p tid u is at_tid at l) =
      changed f.sender tid (record { window = l.window; timeout = u.timeout; last_use = r.clock }) l.agrees
      (λ k h held. keep f.sender tid u k h at (left_held p.number None u.window l.window [] k (Some h) (holds.start f.sender tid u at) l.moves held))
  form_backed (reports a tid start u at p) =
      changed a tid (record { window = p.window; timeout = u.timeout; last_use = r.clock }) p.agrees
      (λ k h held. keep a tid u k h at (request_held start u.window p.window p.passed k (Some h) (holds.start a tid u at) p.moves held))
  form_backed (ends a tid last none ending) =
      kept (λ q t u is. ⊎_elim (λ here. absurd (none-some u (sym here.2 ∙ is))) (λ other. sym other ∙ is) (agreed_cases r r2 a tid None ending.agrees q t))
  form_backed (grants a s verdict associated g) =
      changed a s.parameters.tid (record { window = g.window; timeout = s.timeout; last_use = r.clock }) g.agrees
      (λ k h held. absurd (none-some (Some (Some h)) (holds_read (opening_window s.start) g.window k (Some h) g.opens held).is))
  form_backed (ticks n is t) = kept (ticked_agreement c r r2 n e.asked e.outs t)

  delivered : (f : Frame) (p : Packet) (ask : Ask) (verdict : ℕ) (d : Up) → IsPacket c e.event f p → IsAssociated f.sender r → e.asked ≡ (ask, verdict) ∷ [] →
      (v : DataVerdict) → data_verdict verdict ≡ v → Contains (let_through f.sender p v) (out.Up d) → Origin c r0 (entries ++ e ∷ []) r2 d
  delivered f p ask verdict d is associated asked (Pass mark) passes inside =
      let whole : Up = record { source = f.sender; destination = p.destination; tid = p.tid; number = p.number; mark = mark; body = p.frame.tail } in
      ⊎_elim
      (λ none. absurd (none_in_none (out.Up d) none))
      (λ same. come f p ask verdict mark is associated asked passes d (up_eq whole d same))
      (Contains-push_cases [] (out.Up whole) (out.Up d) inside)
  delivered f p ask verdict d is associated asked Discard drops inside = absurd (none_in_none (out.Up d) inside)

  form_ups : (d : Up) → Form c r e.event e.asked e.outs r2 → Contains e.outs (out.Up d) → Origin c r0 (entries ++ e ∷ []) r2 d
  form_ups d (quiet none stays) inside = absurd (none d inside)
  form_ups d (moves a s none moved) inside = absurd (none d inside)
  form_ups d (delivers f p is associated x) inside =
      let P : List Out → Type 0 = λ xs. Contains xs (out.Up d) in
      delivered f p (data_ask r f.sender p) x.verdict d is associated x.asks (data_verdict x.verdict) refl (subst P x.is inside)
  form_ups d (takes f p tid u is at_tid at t) inside =
      let P : List Out → Type 0 = λ xs. Contains xs (out.Up d) in
      let x = up_of f.sender tid t.passed d (subst P t.is inside) in
      let Q : Up → Type 0 = λ y. Origin c r0 (entries ++ e ∷ []) r2 y in
      subst Q (sym x.is) (either f p tid u (data_ask r f.sender p) t.verdict x.number x.frame is at_tid at t.asks
      (taken_out p.number (item p (data_verdict t.verdict)) u.window t.window t.passed (x.number, Some x.frame) (holds.start f.sender tid u at) t.moves x.inside))
  form_ups d (leaves f p tid u is at_tid at l) inside =
      let P : List Out → Type 0 = λ xs. Contains xs (out.Up d) in
      absurd (none_in_none (out.Up d) (subst P l.settles.is inside))
  form_ups d (reports a tid start u at p) inside =
      let P : List Out → Type 0 = λ xs. Contains xs (out.Up d) in
      ⊎_elim
      (λ handed.
      let x = up_of a tid p.passed d handed in
      let Q : Up → Type 0 = λ y. Origin c r0 (entries ++ e ∷ []) r2 y in
      subst Q (sym x.is) (keep a tid u x.number x.frame at (request_out start u.window p.window p.passed (x.number, Some x.frame) (holds.start a tid u at) p.moves x.inside)))
      (λ sent. absurd (one_send _ d sent))
      (Contains-append_cases (ups a tid p.passed) (block_ack c a tid p.window ∷ []) (out.Up d) (subst P p.settles.is inside))
  form_ups d (ends a tid last none ending) inside =
      let P : List Out → Type 0 = λ xs. Contains xs (out.Up d) in
      ⊎_elim
      (λ head. passed_kept a tid ending.first d ending.passes head)
      (λ tail. absurd (none d tail))
      (if_there (is_some (r.agreement a tid)) ending.first last d (subst P ending.settles.is inside))
  form_ups d (grants a s verdict associated g) inside =
      let P : List Out → Type 0 = λ xs. Contains xs (out.Up d) in
      ⊎_elim
      (λ head. passed_kept a s.parameters.tid g.first d g.passes head)
      (λ sent. absurd (one_send _ d sent))
      (Contains-append_cases g.first (setup_answer c a s 0 g.size ∷ []) (out.Up d) (subst P g.is inside))
  form_ups d (ticks n is t) inside = in_turn t.ending e.outs d t.ends inside

-- ---- whole runs

at_start : (c : Rules) (r : Readings) → Backed c r [] r
at_start c r a tid u k h is held =
    inr (record { tid = tid; numbered = refl; using = u; is = is; place = held.place; held = held.is; number = held.residue; since = while_rests r })

backed_run : (c : Rules) (r0 : Readings) {r r2 : Readings} {later : List Entry} (entries : List Entry) → Run c r0 entries r → HoldsAgreements r → Backed c r0 entries r → Run c r later r2 → Backed c r0 (entries ++ later) r2
backed_run c r0 entries before holds backed (rests r) =
    let P : List Entry → Type 0 = λ xs. Backed c r0 xs r in
    subst P (sym (append-nil entries)) backed
backed_run c r0 entries before holds backed (goes_on r mid r2 e later step run) =
    let P : List Entry → Type 0 = λ xs. Backed c r0 xs r2 in
    let form = step_form c r e.event e.asked e.outs mid step in
    subst P (append_assoc entries (e ∷ []) later)
    (backed_run c r0 (entries ++ e ∷ []) (run_then c mid e before step) (step_holds c r mid e holds step)
    (form_backed c r0 entries r mid e before holds backed step form) run)

pub from_any_readings : FromAnyReadings
from_any_readings c r at r2 entries e d holds run step inside =
    let backed : Backed c r entries at = backed_run c r [] (rests r) holds (at_start c r) run in
    form_ups c r entries at r2 e run (run_holds_agreements c holds run) backed step d (step_form c at e.event e.asked e.outs r2 step) inside

pub from_the_opening : FromTheOpening
from_the_opening c at r2 entries e d run step inside =
    ⊎_elim
    (λ comes. comes)
    (λ waits. absurd (none-some waits.using waits.is))
    (from_any_readings c opening at r2 entries e d opening_agrees run step inside)
