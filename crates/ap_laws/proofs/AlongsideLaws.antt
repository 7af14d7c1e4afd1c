-- Verdicts on data move no window.
use Rattle.std.proofs.Common.{◌≡◌, ◌≢◌, ℕ, ◌⊎◌, inl, inr, ⊎_elim, Bool, true, false, Option, None, Some, List, [], ◌∷◌, refl, sym, ap, ◌∙◌, subst, arith}
use Rattle.std.specs.Prelude.{IsSome, Contains, nat_le, if◌then◌else◌}
use Rattle.std.proofs.lemmas.List.Elements.{Contains-push}
use Rattle.mac_types.specs.declared.fields.BlockAckPolicy.TheVariants.{Delayed, Immediate}
use Rattle.mac_frame.specs.declared.fault.Fault.{Fault}
use Rattle.mac_frame.specs.declared.content.Management.{Management}
use Rattle.mac_frame.specs.declared.content.Management.TheVariants as management
use Rattle.mac_frame.specs.declared.content.Control.{Control}
use Rattle.mac_frame.specs.declared.content.Control.TheVariants as control
use Rattle.mac_frame.specs.declared.content.DataKind.{DataKind}
use Rattle.mac_frame.specs.declared.content.DataKind.TheVariants as kinds
use Rattle.mac_frame.specs.declared.content.Content.{Content}
use Rattle.mac_frame.specs.declared.content.Content.TheVariants as content
use Rattle.mac_frame.specs.Faults.{first_fault}
use Rattle.mac_frame.specs.Spelling.{Frame, IsFrame, spelling, content_subtype}
use Rattle.mac_frame.proofs.Alone.{alone}
use Rattle.mac_frame.proofs.Again.{fault_free}
use Rattle.bpf_regions.specs.declared.hooks.Hook.TheVariants as hook
use Rattle.assoc.specs.declared.class.Class.{Class}
use Rattle.assoc.specs.declared.class.ClassAnswer.{ClassAnswer}
use Rattle.assoc.specs.declared.class.ClassAnswer.TheVariants.{Permitted, Deauthenticate, Disassociate}
use Rattle.assoc.specs.declared.standing.Known.TheVariants.{Authenticated, Associated}
use Rattle.assoc.specs.Classes.{class_of, class_answer, class_number, rejection}
use Rattle.assoc.specs.Standings.{Standing, IsFull, IsFree, state_of, disassociated}
use Rattle.blockack.specs.Reading.{Reading, DataMovesWindow}
use Rattle.blockack.proofs.SameLaws.{data_reads_same, request_reads_same}
use Rattle.hooks.specs.Verdicts.{association_status, agreement_size, data_verdict}
use Rattle.ap_model.specs.declared.event.Event.{Event}
use Rattle.ap_model.specs.declared.event.Event.TheVariants as event
use Rattle.ap_model.specs.declared.event.Out.{Out}
use Rattle.ap_model.specs.Asks.{Ask}
use Rattle.ap_model.specs.Readings.{Readings, Rules, Using, Held}
use Rattle.ap_model.specs.Changes.{Stays, Moves, Agrees}
use Rattle.ap_model.specs.Associations.{AuthenticationStatus, other_algorithm, other_transaction, no_room, accepted, Authenticates, accepts, refuses, Associates, unsuited, elsewhere, exhausted, admitted, refused, Request, Suits, Names, association_ask}
use Rattle.ap_model.specs.Agreements.{Packet, agreement_for, item, DataComes, plain, taken, left, Takes, Leaves, RequestComes, unagreed, agreed, SetsUp, delayed, declined, granted, Setup, setup_ask}
use Rattle.ap_model.specs.Steps.{Step, FrameComes, faulty, foreign, ours, IsOurs, Checked, check_of, Follows, ManagementComes, ControlComes, DataKindComes, DelbaComes, Kicks, kicked, not_kicked, Closes, closed, not_closed}
use Rattle.ap_model.specs.Runs.{Entry, Handles, Run, rests, goes_on}
use Rattle.ap_model.specs.AccessPoint.{entries_of}
use Rattle.ap_laws.specs.Identifiers.{HoldsOnce}
use Rattle.ap_laws.specs.Origins.{HoldsAgreements}
use Rattle.ap_laws.specs.Alongside.{AgreeButOnData, Alongside, both_end, both_go_on, RunsLeaveSameStarts, LinkRunsLeaveSameStarts}
use Rattle.ap_laws.proofs.StandingLaws.{step_stands}
use Rattle.ap_laws.proofs.IdentifierLaws.{change_holds}
use Rattle.ap_laws.proofs.OriginLaws.{step_holds}
use Rattle.ap_laws.proofs.FreeLaws.{some_free}
use Rattle.ap_laws.proofs.AlikeLaws.{Alike, AlikeUses, there, none_there, alike_itself, alike_turned, both_stay, both_move, both_agree, both_tick, unknown_too, full_too, disassociated_alike, opened_alike, alike_starts}
use Rattle.std.proofs.lemmas.Option.{none-some, same_Some}

-- ---- verdicts

-- verdicts on hooks other than the data hook are the same
abbrev Agree : List (Ask × ℕ) → List (Ask × ℕ) → Type 0
Agree asked asked2 = (x y : Ask × ℕ) → Contains asked x → Contains asked2 y → x.0.hook ≡ y.0.hook → x.0.hook ≢ hook.Data → x.1 ≡ y.1

agree_turned : (asked asked2 : List (Ask × ℕ)) → Agree asked asked2 → Agree asked2 asked
agree_turned asked asked2 agree x y in_x in_y same other = sym (agree y x in_y in_x (sym same) (λ e. other (same ∙ e)))

same_verdict : (asked asked2 : List (Ask × ℕ)) (one two : Ask) (v w : ℕ) → Agree asked asked2 → asked ≡ (one, v) ∷ [] → asked2 ≡ (two, w) ∷ [] → one.hook ≡ two.hook → one.hook ≢ hook.Data → v ≡ w
same_verdict asked asked2 one two v w agree is is2 same other =
    let P : List (Ask × ℕ) → Type 0 = λ xs. Contains xs (one, v) in
    let Q : List (Ask × ℕ) → Type 0 = λ xs. Contains xs (two, w) in
    agree (one, v) (two, w) (subst P (sym is) (Contains-push [] (one, v))) (subst Q (sym is2) (Contains-push [] (two, w))) same other

association_is_not_data : hook.Association ≡ hook.Data → ⊥
association_is_not_data e = cc

addba_is_not_data : hook.Addba ≡ hook.Data → ⊥
addba_is_not_data e = cc

delayed_is_not_immediate : Delayed ≡ Immediate → ⊥
delayed_is_not_immediate e = cc

true_is_not_false : true ≡ false → ⊥
true_is_not_false e = cc

-- ---- authentication

-- what a status implies of the shard
data StatusSays (r : Readings) (a : List ℕ) (algorithm transaction status : ℕ) : Type 0 where
  not_open : algorithm ≢ 0 → StatusSays r a algorithm transaction status
  not_first : transaction ≢ 1 → StatusSays r a algorithm transaction status
  full : r.standing a ≡ None → IsFull r.standing → StatusSays r a algorithm transaction status
  fine : status ≡ 0 → algorithm ≡ 0 → transaction ≡ 1 → IsSome (r.standing a) ⊎ (IsFull r.standing → ⊥) → StatusSays r a algorithm transaction status

status_says : (r : Readings) (a : List ℕ) (algorithm transaction : ℕ) {status : ℕ} → AuthenticationStatus r a algorithm transaction status → StatusSays r a algorithm transaction status
status_says r a algorithm transaction (other_algorithm ne) = not_open ne
status_says r a algorithm transaction (other_transaction e ne) = not_first ne
status_says r a algorithm transaction (no_room e f unknown many) = full unknown many
status_says r a algorithm transaction (accepted e f room) = fine refl e f room

accepted_says : (r : Readings) (a : List ℕ) (algorithm transaction status : ℕ) → status ≡ 0 → AuthenticationStatus r a algorithm transaction status → (algorithm ≡ 0) × (transaction ≡ 1) × (IsSome (r.standing a) ⊎ (IsFull r.standing → ⊥))
accepted_says r a algorithm transaction status zero (other_algorithm ne) = absurd (omega arith)
accepted_says r a algorithm transaction status zero (other_transaction e ne) = absurd (omega arith)
accepted_says r a algorithm transaction status zero (no_room e f unknown many) = absurd (omega arith)
accepted_says r a algorithm transaction status zero (accepted e f room) = (e, f, room)

-- one accepting and the other refusing is impossible
not_both : (r s : Readings) (a : List ℕ) (algorithm transaction status : ℕ) → Alike r s → AuthenticationStatus r a algorithm transaction 0 → status ≢ 0 → AuthenticationStatus s a algorithm transaction status → ⊥
not_both r s a algorithm transaction status alike one other two = against (accepted_says r a algorithm transaction 0 refl one) (status_says s a algorithm transaction two)
  where
    against : (algorithm ≡ 0) × (transaction ≡ 1) × (IsSome (r.standing a) ⊎ (IsFull r.standing → ⊥)) → StatusSays s a algorithm transaction status → ⊥
    against x (not_open ne) = ne x.0
    against x (not_first ne) = ne x.1
    against x (full unknown many) =
        ⊎_elim
        (λ known. unknown_too (s.standing a) (r.standing a) (sym (alike.standing a)) unknown known)
        (λ room. room (full_too s.standing r.standing (λ q. sym (alike.standing q)) many))
        x.2
    against x (fine zero e f room) = other zero

-- ---- association

-- the outcome of a request: refused before or by its verdict, or admitted
data Outcome (c : Rules) (r : Readings) (a : List ℕ) (q : Request) (asked : List (Ask × ℕ)) (r2 : Readings) : Type 0 where
  unfit : (Suits q → ⊥) ⊎ (Names c q → ⊥) → Stays r r2 → Outcome c r a q asked r2
  none_free : ((n : ℕ) → IsFree c.shard r.standing a n → ⊥) → Stays r r2 → Outcome c r a q asked r2
  turned_away : (verdict : ℕ) → association_status verdict ≢ 0 → asked ≡ (association_ask r a q, verdict) ∷ [] → Stays r r2 → Outcome c r a q asked r2
  let_in : (verdict identifier : ℕ) → Suits q → Names c q → association_status verdict ≡ 0 → asked ≡ (association_ask r a q, verdict) ∷ [] → IsFree c.shard r.standing a identifier →
      Moves r a (Some (Associated identifier)) r2 → Outcome c r a q asked r2

outcome_of : (c : Rules) (r : Readings) (a : List ℕ) (q : Request) (asked : List (Ask × ℕ)) (outs : List Out) (r2 : Readings) → Associates c r a q asked outs r2 → Outcome c r a q asked r2
outcome_of c r a q asked outs r2 (unsuited not answers) = unfit (inl not) answers.stays
outcome_of c r a q asked outs r2 (elsewhere suits not answers) = unfit (inr not) answers.stays
outcome_of c r a q asked outs r2 (exhausted suits names none answers) = none_free none answers.stays
outcome_of c r a q asked outs r2 (admitted verdict suits names x) = let_in verdict x.identifier suits names x.admits x.asks x.free x.moves
outcome_of c r a q asked outs r2 (refused verdict suits names x) = turned_away verdict x.refuses x.asks x.stays

-- admission in one and refusal in the other is impossible
module _ (c : Rules) (r s : Readings) (alike : Alike r s) (once : HoldsOnce c r) (a : List ℕ) (q : Request) (asked asked2 : List (Ask × ℕ)) (s2 : Readings) (agree : Agree asked asked2)
    (verdict identifier : ℕ) (suits : Suits q) (names : Names c q) (admits : association_status verdict ≡ 0) (asks : asked ≡ (association_ask r a q, verdict) ∷ [])
    (free : IsFree c.shard r.standing a identifier) where
  admitted_alone_unfit : (Suits q → ⊥) ⊎ (Names c q → ⊥) → ⊥
  admitted_alone_unfit (inl not) = not suits
  admitted_alone_unfit (inr not) = not names

  admitted_alone_full : ((n : ℕ) → IsFree c.shard s.standing a n → ⊥) → ⊥
  admitted_alone_full none = some_free c.shard r.standing s.standing a identifier alike.standing once.own once.once free none

  admitted_alone_turned : (verdict2 : ℕ) → association_status verdict2 ≢ 0 → asked2 ≡ (association_ask s a q, verdict2) ∷ [] → ⊥
  admitted_alone_turned verdict2 turns asks2 =
      let same : verdict ≡ verdict2 = same_verdict asked asked2 (association_ask r a q) (association_ask s a q) verdict verdict2 agree asks asks2 refl association_is_not_data in
      turns (ap association_status (sym same) ∙ admits)

-- ---- the two steps

module _ (c : Rules) (r s : Readings) (alike : Alike r s) (one_once : HoldsOnce c r) (other_once : HoldsOnce c s) (one_holds : HoldsAgreements r) (other_holds : HoldsAgreements s)
    (asked asked2 : List (Ask × ℕ)) (outs outs2 : List Out) (r2 s2 : Readings) (agree : Agree asked asked2) where
  stay : Stays r r2 → Stays s s2 → Alike r2 s2
  stay one other = both_stay r s r2 s2 alike one other

  authentication_alike : (a : List ℕ) (algorithm transaction : ℕ) → Authenticates c r a algorithm transaction asked outs r2 → Authenticates c s a algorithm transaction asked2 outs2 s2 → Alike r2 s2
  authentication_alike a algorithm transaction (accepts status settles moves) (accepts status2 settles2 moves2) = both_move r s r2 s2 a (Some Authenticated) (Some Authenticated) alike refl moves moves2
  authentication_alike a algorithm transaction (accepts status settles moves) (refuses n other status2 answers2) = absurd (not_both r s a algorithm transaction n alike status other status2)
  authentication_alike a algorithm transaction (refuses n other status answers) (accepts status2 settles2 moves2) = absurd (not_both s r a algorithm transaction n (alike_turned r s alike) status2 other status)
  authentication_alike a algorithm transaction (refuses n other status answers) (refuses m other2 status2 answers2) = stay answers.stays answers2.stays

  outcomes_alike : (a : List ℕ) (q : Request) → Outcome c r a q asked r2 → Outcome c s a q asked2 s2 → Alike r2 s2
  outcomes_alike a q (let_in v n suits names admits asks free moves) (let_in w m suits2 names2 admits2 asks2 free2 moves2) =
      both_move r s r2 s2 a (Some (Associated n)) (Some (Associated m)) alike refl moves moves2
  outcomes_alike a q (let_in v n suits names admits asks free moves) (unfit not stays) =
      absurd (admitted_alone_unfit c r s alike one_once a q asked asked2 s2 agree v n suits names admits asks free not)
  outcomes_alike a q (let_in v n suits names admits asks free moves) (none_free none stays) =
      absurd (admitted_alone_full c r s alike one_once a q asked asked2 s2 agree v n suits names admits asks free none)
  outcomes_alike a q (let_in v n suits names admits asks free moves) (turned_away w turns asks2 stays) =
      absurd (admitted_alone_turned c r s alike one_once a q asked asked2 s2 agree v n suits names admits asks free w turns asks2)
  outcomes_alike a q (unfit not stays) (let_in v n suits names admits asks free moves) =
      absurd (admitted_alone_unfit c s r (alike_turned r s alike) other_once a q asked2 asked r2 (agree_turned asked asked2 agree) v n suits names admits asks free not)
  outcomes_alike a q (none_free none stays) (let_in v n suits names admits asks free moves) =
      absurd (admitted_alone_full c s r (alike_turned r s alike) other_once a q asked2 asked r2 (agree_turned asked asked2 agree) v n suits names admits asks free none)
  outcomes_alike a q (turned_away w turns asks2 stays) (let_in v n suits names admits asks free moves) =
      absurd (admitted_alone_turned c s r (alike_turned r s alike) other_once a q asked2 asked r2 (agree_turned asked asked2 agree) v n suits names admits asks free w turns asks2)
  outcomes_alike a q (unfit not stays) (unfit not2 stays2) = stay stays stays2
  outcomes_alike a q (unfit not stays) (none_free none2 stays2) = stay stays stays2
  outcomes_alike a q (unfit not stays) (turned_away w turns2 asks2 stays2) = stay stays stays2
  outcomes_alike a q (none_free none stays) (unfit not2 stays2) = stay stays stays2
  outcomes_alike a q (none_free none stays) (none_free none2 stays2) = stay stays stays2
  outcomes_alike a q (none_free none stays) (turned_away w turns2 asks2 stays2) = stay stays stays2
  outcomes_alike a q (turned_away v turns asks stays) (unfit not2 stays2) = stay stays stays2
  outcomes_alike a q (turned_away v turns asks stays) (none_free none2 stays2) = stay stays stays2
  outcomes_alike a q (turned_away v turns asks stays) (turned_away w turns2 asks2 stays2) = stay stays stays2

  association_alike : (a : List ℕ) (q : Request) → Associates c r a q asked outs r2 → Associates c s a q asked2 outs2 s2 → Alike r2 s2
  association_alike a q one other = outcomes_alike a q (outcome_of c r a q asked outs r2 one) (outcome_of c s a q asked2 outs2 s2 other)

  delba_alike : (a : List ℕ) (initiator : Bool) (tid : ℕ) → DelbaComes c r a initiator tid asked outs r2 → DelbaComes c s a initiator tid asked2 outs2 s2 → Alike r2 s2
  delba_alike a true tid one other = both_agree r s r2 s2 a tid None None alike tt one.agrees other.agrees
  delba_alike a false tid one other = stay one.stays other.stays

  -- ---- block acknowledgement

  setup_alike : (a : List ℕ) (q : Setup) → SetsUp c r a q asked outs r2 → SetsUp c s a q asked2 outs2 s2 → Alike r2 s2
  setup_alike a q (delayed is answers) (delayed is2 answers2) = stay answers.stays answers2.stays
  setup_alike a q (delayed is answers) (declined w is2 declines2) = stay answers.stays declines2.stays
  setup_alike a q (delayed is answers) (granted w is2 grants2) = absurd (delayed_is_not_immediate (sym is ∙ is2))
  setup_alike a q (declined v is declines) (delayed is2 answers2) = stay declines.stays answers2.stays
  setup_alike a q (declined v is declines) (declined w is2 declines2) = stay declines.stays declines2.stays
  setup_alike a q (declined v is declines) (granted w is2 grants2) =
      let same : v ≡ w = same_verdict asked asked2 (setup_ask r a q) (setup_ask s a q) v w agree declines.asks grants2.asks refl addba_is_not_data in
      absurd (none-some grants2.size (sym declines.declines ∙ ap (λ x. agreement_size x q.parameters.buffer_size) same ∙ grants2.grants))
  setup_alike a q (granted v is grants) (delayed is2 answers2) = absurd (delayed_is_not_immediate (sym is2 ∙ is))
  setup_alike a q (granted v is grants) (declined w is2 declines2) =
      let same : v ≡ w = same_verdict asked asked2 (setup_ask r a q) (setup_ask s a q) v w agree grants.asks declines2.asks refl addba_is_not_data in
      absurd (none-some grants.size (sym declines2.declines ∙ ap (λ x. agreement_size x q.parameters.buffer_size) (sym same) ∙ grants.grants))
  setup_alike a q (granted v is grants) (granted w is2 grants2) =
      let same : v ≡ w = same_verdict asked asked2 (setup_ask r a q) (setup_ask s a q) v w agree grants.asks grants2.asks refl addba_is_not_data in
      let size : grants.size ≡ grants2.size = same_Some grants.size grants2.size (sym grants.grants ∙ ap (λ x. agreement_size x q.parameters.buffer_size) same ∙ grants2.grants) in
      both_agree r s r2 s2 a q.parameters.tid
      (Some (record { window = grants.window; timeout = q.timeout; last_use = r.clock }))
      (Some (record { window = grants2.window; timeout = q.timeout; last_use = s.clock }))
      alike
      (record { window = opened_alike q.start grants.window grants2.window (grants.sized ∙ size ∙ sym grants2.sized) grants.opens grants2.opens; timeout = refl; last_use = alike.clock })
      grants.agrees grants2.agrees

  pair : (a : List ℕ) (tid : ℕ) (u v : Using) → r.agreement a tid ≡ Some u → s.agreement a tid ≡ Some v → AlikeUses u v
  pair a tid u v is is2 =
      let t = there (r.agreement a tid) (s.agreement a tid) u (alike.agreement a tid) is in
      let same : t.using ≡ v = same_Some t.using v (sym t.is ∙ is2) in
      let P : Using → Type 0 = λ x. AlikeUses u x in
      subst P same t.alike

  request_alike : (a : List ℕ) (tid start : ℕ) → RequestComes c r a tid start asked outs r2 → RequestComes c s a tid start asked2 outs2 s2 → Alike r2 s2
  request_alike a tid start (unagreed none one) (unagreed none2 other) = stay one.stays other.stays
  request_alike a tid start (unagreed none one) (agreed v is2 other) =
      absurd (none-some v (sym (none_there (r.agreement a tid) (s.agreement a tid) (alike.agreement a tid) none) ∙ is2))
  request_alike a tid start (agreed u is one) (unagreed none2 other) =
      let t = there (r.agreement a tid) (s.agreement a tid) u (alike.agreement a tid) is in
      absurd (none-some t.using (sym none2 ∙ t.is))
  request_alike a tid start (agreed u is one) (agreed v is2 other) =
      let p = pair a tid u v is is2 in
      both_agree r s r2 s2 a tid
      (Some (record { window = one.window; timeout = u.timeout; last_use = r.clock }))
      (Some (record { window = other.window; timeout = v.timeout; last_use = s.clock }))
      alike
      (record {
        window = request_reads_same start u.window v.window one.window other.window one.passed other.passed (one_holds.start a tid u is) p.window one.size other.size one.moves other.moves;
        timeout = p.timeout;
        last_use = alike.clock;
      })
      one.agrees other.agrees

  used_alike : (a : List ℕ) (p : Packet) (tid : ℕ) (u v : Using) (x y : Option Held) (took took2 : Bool) (new new2 : Reading Held) (out out2 : List (ℕ × Held)) →
      r.agreement a tid ≡ Some u → s.agreement a tid ≡ Some v → new.size ≡ u.window.size → new2.size ≡ v.window.size →
      DataMovesWindow took p.number x u.window new out → DataMovesWindow took2 p.number y v.window new2 out2 →
      Agrees r a tid (Some (record { window = new; timeout = u.timeout; last_use = r.clock })) r2 →
      Agrees s a tid (Some (record { window = new2; timeout = v.timeout; last_use = s.clock })) s2 → Alike r2 s2
  used_alike a p tid u v x y took took2 new new2 out out2 is is2 size size2 moves moves2 one other =
      let w = pair a tid u v is is2 in
      let same = data_reads_same p.number x y took took2 u.window v.window new new2 out out2 (one_holds.start a tid u is) w.window size size2 moves moves2 in
      both_agree r s r2 s2 a tid
      (Some (record { window = new; timeout = u.timeout; last_use = r.clock }))
      (Some (record { window = new2; timeout = v.timeout; last_use = s.clock }))
      alike (record { window = same.1; timeout = w.timeout; last_use = alike.clock }) one other

  -- a packet used an agreement
  record Used (q : Readings) (a : List ℕ) (p : Packet) (tid : ℕ) (q2 : Readings) : Type 0 where
    using : Using
    is : q.agreement a tid ≡ Some using
    thing : Option Held
    took : Bool
    window : Reading Held
    size : window.size ≡ using.window.size
    out : List (ℕ × Held)
    moved : DataMovesWindow took p.number thing using.window window out
    agrees : Agrees q a tid (Some (record { window = window; timeout = using.timeout; last_use = q.clock })) q2

  some_tid : (m n : ℕ) (o : Option ℕ) → o ≡ Some m → o ≡ Some n → m ≡ n
  some_tid m n o p q = cc

  both_used : (a : List ℕ) (p : Packet) (tid tid2 : ℕ) → p.tid ≡ Some tid → p.tid ≡ Some tid2 → Used r a p tid r2 → Used s a p tid2 s2 → Alike r2 s2
  both_used a p tid tid2 e e2 one two =
      let P : ℕ → Type 0 = λ x. Used s a p x s2 in
      let other : Used s a p tid s2 = subst P (some_tid tid2 tid p.tid e2 e) two in
      used_alike a p tid one.using other.using one.thing other.thing one.took other.took one.window other.window one.out other.out one.is other.is one.size other.size one.moved other.moved one.agrees other.agrees

  used_taken : (q q2 : Readings) (a : List ℕ) (p : Packet) (tid : ℕ) (u : Using) (asked3 : List (Ask × ℕ)) (outs3 : List Out) → q.agreement a tid ≡ Some u → Takes q a p tid u asked3 outs3 q2 → Used q a p tid q2
  used_taken q q2 a p tid u asked3 outs3 is t =
      record { using = u; is = is; thing = item p (data_verdict t.verdict); took = true; window = t.window; size = t.size; out = t.passed; moved = t.moves; agrees = t.agrees }

  used_left : (q q2 : Readings) (a : List ℕ) (p : Packet) (tid : ℕ) (u : Using) (asked3 : List (Ask × ℕ)) (outs3 : List Out) → q.agreement a tid ≡ Some u → Leaves q a p tid u asked3 outs3 q2 → Used q a p tid q2
  used_left q q2 a p tid u asked3 outs3 is l =
      record { using = u; is = is; thing = None; took = false; window = l.window; size = l.size; out = []; moved = l.moves; agrees = l.agrees }

  -- an agreement for a packet in one but not in the other is impossible
  plain_used : (q q2 : Readings) (a : List ℕ) (p : Packet) (tid : ℕ) (v : Using) → Alike q q2 → agreement_for q a p.tid ≡ None → p.tid ≡ Some tid → q2.agreement a tid ≡ Some v → ⊥
  plain_used q q2 a p tid v same none e is =
      let P : Option ℕ → Type 0 = λ x. agreement_for q a x ≡ None in
      let gone : q.agreement a tid ≡ None = subst P e none in
      none-some v (sym (none_there (q.agreement a tid) (q2.agreement a tid) (same.agreement a tid) gone) ∙ is)

  packet_alike : (a : List ℕ) (p : Packet) → DataComes r a p asked outs r2 → DataComes s a p asked2 outs2 s2 → Alike r2 s2
  packet_alike a p (plain one) (plain other) = stay one.stays other.stays
  packet_alike a p (plain one) (taken tid v e is other) = absurd (plain_used r s a p tid v alike one.plain e is)
  packet_alike a p (plain one) (left tid v e is other) = absurd (plain_used r s a p tid v alike one.plain e is)
  packet_alike a p (taken tid u e is one) (plain other) = absurd (plain_used s r a p tid u (alike_turned r s alike) other.plain e is)
  packet_alike a p (left tid u e is one) (plain other) = absurd (plain_used s r a p tid u (alike_turned r s alike) other.plain e is)
  packet_alike a p (taken tid u e is one) (taken tid2 v e2 is2 other) =
      both_used a p tid tid2 e e2 (used_taken r r2 a p tid u asked outs is one) (used_taken s s2 a p tid2 v asked2 outs2 is2 other)
  packet_alike a p (taken tid u e is one) (left tid2 v e2 is2 other) =
      both_used a p tid tid2 e e2 (used_taken r r2 a p tid u asked outs is one) (used_left s s2 a p tid2 v asked2 outs2 is2 other)
  packet_alike a p (left tid u e is one) (taken tid2 v e2 is2 other) =
      both_used a p tid tid2 e e2 (used_left r r2 a p tid u asked outs is one) (used_taken s s2 a p tid2 v asked2 outs2 is2 other)
  packet_alike a p (left tid u e is one) (left tid2 v e2 is2 other) =
      both_used a p tid tid2 e e2 (used_left r r2 a p tid u asked outs is one) (used_left s s2 a p tid2 v asked2 outs2 is2 other)

  -- ---- frames

  management_alike : (f : Frame) (body : Management) → ManagementComes c r f body asked outs r2 → ManagementComes c s f body asked2 outs2 s2 → Alike r2 s2
  management_alike f (management.Authentication algorithm transaction status) one other = authentication_alike f.sender algorithm transaction one other
  management_alike f (management.AssociationRequest capability interval) one other =
      association_alike f.sender (record { frame = f; capability = capability; listen_interval = interval; again = false }) one other
  management_alike f (management.ReassociationRequest capability interval current) one other =
      association_alike f.sender (record { frame = f; capability = capability; listen_interval = interval; again = true }) one other
  management_alike f (management.Disassociation reason) one other =
      both_move r s r2 s2 f.sender (disassociated (r.standing f.sender)) (disassociated (s.standing f.sender)) alike
      (disassociated_alike (r.standing f.sender) (s.standing f.sender) (alike.standing f.sender)) one.moves other.moves
  management_alike f (management.Deauthentication reason) one other = both_move r s r2 s2 f.sender None None alike refl one.moves other.moves
  management_alike f (management.AddbaRequest token parameters timeout start) one other =
      setup_alike f.sender (record { frame = f; token = token; parameters = parameters; timeout = timeout; start = start }) one other
  management_alike f (management.Delba parameters reason) one other = delba_alike f.sender parameters.initiator parameters.tid one other
  management_alike f (management.AssociationResponse capability status aid) one other = stay one.stays other.stays
  management_alike f (management.ReassociationResponse capability status aid) one other = stay one.stays other.stays
  management_alike f (management.AddbaResponse token status parameters timeout) one other = stay one.stays other.stays

  control_alike : (f : Frame) (body : Control) → ControlComes c r f body asked outs r2 → ControlComes c s f body asked2 outs2 s2 → Alike r2 s2
  control_alike f (control.BlockAckReq tid start) one other = request_alike f.sender tid start one other
  control_alike f (control.BlockAck tid start bitmap) one other = stay one.stays other.stays

  data_alike : (f : Frame) (destination : List ℕ) (number : ℕ) (kind : DataKind) → DataKindComes c r f destination number kind asked outs r2 → DataKindComes c s f destination number kind asked2 outs2 s2 → Alike r2 s2
  data_alike f destination number kinds.Data one other = packet_alike f.sender (record { frame = f; destination = destination; tid = None; number = number }) one other
  data_alike f destination number (kinds.QosData qos) one other = packet_alike f.sender (record { frame = f; destination = destination; tid = Some qos.tid; number = number }) one other
  data_alike f destination number kinds.Null one other = stay one.stays other.stays
  data_alike f destination number (kinds.QosNull qos) one other = stay one.stays other.stays

  content_alike : (f : Frame) (body : Content) → Follows c r f body asked outs r2 → Follows c s f body asked2 outs2 s2 → Alike r2 s2
  content_alike f (content.Management bssid sequence body) one other = management_alike f body one other
  content_alike f (content.Control body) one other = control_alike f body one other
  content_alike f (content.Data destination sequence kind) one other = data_alike f destination sequence kind one other

  checked_alike : (f : Frame) (answer : ClassAnswer) → Checked c r f answer asked outs r2 → Checked c s f answer asked2 outs2 s2 → Alike r2 s2
  checked_alike f Permitted one other = content_alike f f.content one other
  checked_alike f (Deauthenticate reason) one other = stay one.stays other.stays
  checked_alike f (Disassociate reason) one other = stay one.stays other.stays

  same_answer : (x y : Standing) (k : Class) → state_of x ≡ state_of y → class_answer x k ≡ class_answer y k
  same_answer x y k e = ap (λ n. if nat_le (class_number k) n then Permitted else rejection n (class_number k)) e

  ours_alike : (f g : Frame) → f ≡ g → Checked c r f (check_of c r f) asked outs r2 → Checked c s g (check_of c s g) asked2 outs2 s2 → Alike r2 s2
  ours_alike f g same one other =
      let P : Frame → Type 0 = λ x. Checked c s x (check_of c s x) asked2 outs2 s2 in
      let Q : ClassAnswer → Type 0 = λ x. Checked c s f x asked2 outs2 s2 in
      let checks : check_of c s f ≡ check_of c r f = same_answer (s.standing f.sender) (r.standing f.sender) (class_of (content_subtype f.content)) (sym (alike.standing f.sender)) in
      checked_alike f (check_of c r f) one (subst Q checks (subst P (sym same) other))

  -- bytes with a fault aren't a frame
  no_frame : (bytes : List ℕ) (fault : Fault) (f : Frame) → first_fault bytes ≡ Some fault → IsFrame f → bytes ≡ spelling f → ⊥
  no_frame bytes fault f is grammar same = none-some fault (sym (fault_free f grammar) ∙ ap first_fault (sym same) ∙ is)

  one_frame : (bytes : List ℕ) (f g : Frame) → IsFrame f → IsFrame g → bytes ≡ spelling f → bytes ≡ spelling g → f ≡ g
  one_frame bytes f g grammar grammar2 is is2 = alone f g grammar grammar2 (sym is ∙ is2)

  frame_alike : (bytes : List ℕ) → FrameComes c r bytes asked outs r2 → FrameComes c s bytes asked2 outs2 s2 → Alike r2 s2
  frame_alike bytes (faulty fault is one) (faulty fault2 is2 other) = stay one.stays other.stays
  frame_alike bytes (faulty fault is one) (foreign g grammar2 is2 not2 other) = stay one.stays other.stays
  frame_alike bytes (faulty fault is one) (ours g grammar2 is2 us2 other) = absurd (no_frame bytes fault g is grammar2 is2)
  frame_alike bytes (foreign f grammar is not one) (faulty fault2 is2 other) = stay one.stays other.stays
  frame_alike bytes (foreign f grammar is not one) (foreign g grammar2 is2 not2 other) = stay one.stays other.stays
  frame_alike bytes (foreign f grammar is not one) (ours g grammar2 is2 us2 other) =
      let P : Frame → Type 0 = λ x. IsOurs c x in
      absurd (not (subst P (sym (one_frame bytes f g grammar grammar2 is is2)) us2))
  frame_alike bytes (ours f grammar is us one) (faulty fault2 is2 other) = absurd (no_frame bytes fault2 f is2 grammar is)
  frame_alike bytes (ours f grammar is us one) (foreign g grammar2 is2 not2 other) =
      let P : Frame → Type 0 = λ x. IsOurs c x in
      absurd (not2 (subst P (one_frame bytes f g grammar grammar2 is is2) us))
  frame_alike bytes (ours f grammar is us one) (ours g grammar2 is2 us2 other) = ours_alike f g (one_frame bytes f g grammar grammar2 is is2) one other

  -- ---- commands

  kick_alike : (a : List ℕ) (reason : ℕ) → Kicks c r a reason asked outs r2 → Kicks c s a reason asked2 outs2 s2 → Alike r2 s2
  kick_alike a reason (kicked known settles moves) (kicked known2 settles2 moves2) = both_move r s r2 s2 a None None alike refl moves moves2
  kick_alike a reason (kicked known settles moves) (not_kicked unknown2 other) = absurd (unknown_too (s.standing a) (r.standing a) (sym (alike.standing a)) unknown2 known)
  kick_alike a reason (not_kicked unknown one) (kicked known2 settles2 moves2) = absurd (unknown_too (r.standing a) (s.standing a) (alike.standing a) unknown known2)
  kick_alike a reason (not_kicked unknown one) (not_kicked unknown2 other) = stay one.stays other.stays

  close_alike : (a : List ℕ) (tid : ℕ) → Closes c r a tid asked outs r2 → Closes c s a tid asked2 outs2 s2 → Alike r2 s2
  close_alike a tid (closed known one) (closed known2 other) = both_agree r s r2 s2 a tid None None alike tt one.agrees other.agrees
  close_alike a tid (closed known one) (not_closed unknown2 other) = absurd (unknown_too (s.standing a) (r.standing a) (sym (alike.standing a)) unknown2 known)
  close_alike a tid (not_closed unknown one) (closed known2 other) = absurd (unknown_too (r.standing a) (s.standing a) (alike.standing a) unknown known2)
  close_alike a tid (not_closed unknown one) (not_closed unknown2 other) = stay one.stays other.stays

  step_alike : (e : Event) → Step c r e asked outs r2 → Step c s e asked2 outs2 s2 → Alike r2 s2
  step_alike (event.Frame bytes) one other = frame_alike bytes one other
  step_alike (event.Tick n) one other = both_tick c r s r2 s2 n asked asked2 outs outs2 alike one other
  step_alike (event.Kick a reason) one other = kick_alike a reason one other
  step_alike (event.Close a tid) one other = close_alike a tid one other

-- ---- whole runs

-- what holds of readings after steps
record Sound (c : Rules) (r : Readings) : Type 0 where
  once : HoldsOnce c r
  agreements : HoldsAgreements r

sound_step : (c : Rules) (r r2 : Readings) (e : Entry) → Sound c r → Handles c r e r2 → Sound c r2
sound_step c r r2 e sound step =
    record {
      once = change_holds c r r2 sound.once (step_stands c r e.asked e.outs r2 e.event step);
      agreements = step_holds c r r2 e sound.agreements step;
    }

entry_alike : (c : Rules) (r s r2 s2 : Readings) (one other : Entry) → Alike r s → Sound c r → Sound c s → AgreeButOnData one other → Handles c r one r2 → Handles c s other s2 → Alike r2 s2
entry_alike c r s r2 s2 one other alike sound sound2 agree step step2 =
    let P : Event → Type 0 = λ e. Step c s e other.asked other.outs s2 in
    step_alike c r s alike sound.once sound2.once sound.agreements sound2.agreements one.asked other.asked one.outs other.outs r2 s2 agree.verdicts one.event step (subst P (sym agree.event) step2)

runs_alike : (c : Rules) {r s r2 s2 : Readings} {ones others : List Entry} → Alike r s → Sound c r → Sound c s → Alongside ones others → Run c r ones r2 → Run c s others s2 → Alike r2 s2
runs_alike c alike sound sound2 both_end (rests r) (rests s) = alike
runs_alike c alike sound sound2 (both_go_on one other ones others agree further) (goes_on r mid r2 one2 later step run) (goes_on s mid2 s2 other2 later2 step2 run2) =
    runs_alike c (entry_alike c r s mid mid2 one2 other2 alike sound sound2 agree step step2) (sound_step c r mid one2 sound step) (sound_step c s mid2 other2 sound2 step2) further run run2

pub runs_leave_same_starts : RunsLeaveSameStarts
runs_leave_same_starts c r one other ones others once agreements run run2 along =
    let sound : Sound c r = record { once = once; agreements = agreements } in
    alike_starts one other (runs_alike c (alike_itself r) sound sound along run run2)

pub link_runs_leave_same_starts : LinkRunsLeaveSameStarts
link_runs_leave_same_starts c r one other ones others once agreements runs runs2 along s fits =
    runs_leave_same_starts (c s) (r s) (one s) (other s) (entries_of s ones) (entries_of s others) (once s fits) (agreements s fits) (runs s fits) (runs2 s fits) (along s fits)
