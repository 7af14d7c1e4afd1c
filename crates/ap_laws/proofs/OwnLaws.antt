-- What a station's own frame does to its agreements.
use Rattle.std.proofs.Common.{◌≡◌, ◌≢◌, ℕ, ◌<◌, ⊎_elim, Bool, true, false, ◌==◌, ◌&&◌, cond, Option, None, Some, List, [], ◌∷◌, ◌++◌, refl, sym, ap, ◌∙◌, subst, arith}
use Rattle.std.specs.Prelude.{Contains, is_some, if◌then◌else◌}
use Rattle.std.proofs.lemmas.Bool.{cases_eq, eq-eqb}
use Rattle.std.proofs.lemmas.List.{append-nil}
use Rattle.std.proofs.lemmas.List.Elements.{Contains-append_cases, Contains-push_cases}
use Rattle.mac_types.specs.declared.fields.QosControl.{QosControl}
use Rattle.mac_types.specs.declared.fields.BlockAckParameters.{BlockAckParameters}
use Rattle.mac_types.specs.declared.fields.DelbaParameters.{DelbaParameters}
use Rattle.mac_frame.specs.declared.content.Management.{Management}
use Rattle.mac_frame.specs.declared.content.Management.TheVariants as management
use Rattle.mac_frame.specs.declared.content.Control.{Control}
use Rattle.mac_frame.specs.declared.content.Control.TheVariants as control
use Rattle.mac_frame.specs.declared.content.DataKind.{DataKind}
use Rattle.mac_frame.specs.declared.content.DataKind.TheVariants as kinds
use Rattle.mac_frame.specs.declared.content.Content.{Content}
use Rattle.mac_frame.specs.declared.content.Content.TheVariants as content
use Rattle.mac_frame.specs.Spelling.{Frame}
use Rattle.assoc.specs.declared.class.Class.{Class}
use Rattle.assoc.specs.declared.class.Class.TheVariants.{One, Two, Three}
use Rattle.assoc.specs.declared.class.ClassAnswer.{ClassAnswer}
use Rattle.assoc.specs.declared.class.ClassAnswer.TheVariants.{Permitted, Deauthenticate, Disassociate}
use Rattle.assoc.specs.Classes.{class_answer}
use Rattle.assoc.specs.declared.standing.Known.TheVariants as known
use Rattle.assoc.specs.Standings.{Standing, state_of}
use Rattle.assoc.proofs.Tables.{address_tells}
use Rattle.blockack.specs.Window.{opening, TakesData}
use Rattle.blockack.specs.Scoreboard.{blank, DataMarks, RequestMarks}
use Rattle.hooks.specs.declared.verdicts.DataVerdict.{DataVerdict}
use Rattle.hooks.specs.declared.verdicts.DataVerdict.TheVariants.{Pass, Discard}
use Rattle.hooks.specs.Verdicts.{association_status, agreement_size, data_verdict}
use Rattle.ap_model.specs.declared.event.Out.{Out}
use Rattle.ap_model.specs.declared.event.Out.TheVariants as out
use Rattle.ap_model.specs.declared.event.Up.{Up}
use Rattle.ap_model.specs.Readings.{Readings, Rules, Using, Held}
use Rattle.ap_model.specs.Changes.{Stays, Moves, Agrees, Nothing, Answers}
use Rattle.ap_model.specs.Associations.{AuthenticationStatus, other_algorithm, other_transaction, no_room, accepted, Authenticates, accepts, refuses, Associates, unsuited, elsewhere, exhausted, admitted, refused, Request, association_answer}
use Rattle.ap_model.specs.Agreements.{Packet, item, let_through, ups, data_ask, DataComes, plain, taken, left, Takes, Leaves, RequestComes, unagreed, agreed, Reports, block_ack, PassesHeld, none_held, held_up, Ends, SetsUp, delayed, declined, granted, Setup, setup_ask, setup_answer, Declines, Grants}
use Rattle.ap_model.specs.Steps.{Checked, check_of, Follows, ManagementComes, ControlComes, DataKindComes, DelbaComes}
use Rattle.ap_model.specs.Runs.{Entry}
use Rattle.ap_laws.specs.Origins.{HoldsAgreements}
use Rattle.ap_laws.specs.Exchanges.{Exchange, Authenticated, Associated, Disassociated, Deauthenticated, ComesFrom, IsRequest, first, again, IsExchange, authentication, association, disassociation, deauthentication}
use Rattle.ap_laws.specs.Agreed as history
use Rattle.ap_laws.specs.Agreed.{Agreement, Opens, IsItsData, IsUsed, Uses, takes, leaves, requests, deleted, closed, late, LeavesAlone}
use Rattle.ap_laws.specs.InOrder.{ups_of}
use Rattle.ap_laws.specs.Histories.{ReadsAgreed}
use Rattle.blockack.proofs.BelowLaws.{none_in_none}
use Rattle.ap_laws.proofs.ChangeLaws.{agreed_cases}
use Rattle.ap_laws.proofs.Forms.{NoUp, none_up, no_up_of, one_sent, no_up_in_answer, no_up_in_block_ack}
use Rattle.ap_laws.proofs.OriginLaws.{up_of, if_there}
use Rattle.ap_laws.proofs.FrameLaws.{same_content, small_status}
use Rattle.ap_laws.proofs.UpLaws.{ups_of-append, none_of, none_of_no_up, other_tid, no_tid, own_ups}
use Rattle.ap_laws.proofs.RefusedLaws.{refused_authentication, refused_association}
use Rattle.ap_laws.proofs.TellLaws.{SetsUpFor, UsesFor, DeletesFor, exchange_of, opens_for, There, told, not_told, read_of, Telling, it_opens, it_is_used, it_ends, it_is_alone, unchanged, gone, none_alone, ends_up, alone_but, alone_with, alone_by}
use Rattle.std.proofs.lemmas.Option.{none-some}
use Rattle.ap_laws.proofs.Same.{one_verdict, not_deauthenticated, not_disassociated}

-- ---- what is passed up for one TID

abbrev pub AllFor : ℕ → List Out → Type 0
AllFor t outs = (d : Up) → Contains outs (out.Up d) → d.tid ≡ Some t

pub all_for_ups : (b : List ℕ) (t : ℕ) (passed : List (ℕ × Held)) → AllFor t (ups b t passed)
all_for_ups b t passed d inside = ap (λ x. x.tid) (up_of b t passed d inside).is

pub all_for_append : (t : ℕ) (xs ys : List Out) → AllFor t xs → AllFor t ys → AllFor t (xs ++ ys)
all_for_append t xs ys one other d inside = ⊎_elim (λ l. one d l) (λ r. other d r) (Contains-append_cases xs ys (out.Up d) inside)

pub all_for_none : (t : ℕ) (outs : List Out) → NoUp outs → AllFor t outs
all_for_none t outs none d inside = absurd (none d inside)

pub all_for_held : (b : List ℕ) (t : ℕ) (o : Option Using) (passed : List Out) → PassesHeld b t o passed → AllFor t passed
all_for_held b t o passed none_held = all_for_none t [] none_up
all_for_held b t o passed (held_up u frames ending) = all_for_ups b t frames

pub silent_for : (a : List ℕ) (tid t : ℕ) (outs : List Out) → t ≢ tid → AllFor t outs → ups_of a tid outs ≡ []
silent_for a tid t outs ne all = none_of a tid outs (λ d inside. other_tid a tid t d (all d inside) ne)

-- ---- small facts

no_asks : {A : Type 0} (x : A) → [] ≡ x ∷ [] → ⊥
no_asks x e = cc

same_parameters : (b b2 : List ℕ) (s s2 k k2 : ℕ) (p p2 : BlockAckParameters) (o o2 n n2 : ℕ) → content.Management b s (management.AddbaRequest k p o n) ≡ content.Management b2 s2 (management.AddbaRequest k2 p2 o2 n2) → p ≡ p2
same_parameters b b2 s s2 k k2 p p2 o o2 n n2 e = cc

pub refusal_is_small : (r : Readings) (a : List ℕ) (algorithm transaction : ℕ) {status : ℕ} → AuthenticationStatus r a algorithm transaction status → status < 65536
refusal_is_small r a algorithm transaction (other_algorithm ne) = omega arith
refusal_is_small r a algorithm transaction (other_transaction e ne) = omega arith
refusal_is_small r a algorithm transaction (no_room e f unknown many) = omega arith
refusal_is_small r a algorithm transaction (accepted e f room) = omega arith

-- a station in State 3 may send anything
associated_may : (s : Standing) (k : Class) → state_of s ≡ 3 → class_answer s k ≡ Permitted
associated_may None k e = absurd (omega arith)
associated_may (Some known.Authenticated) k e = absurd (omega arith)
associated_may (Some (known.Associated n)) One e = refl
associated_may (Some (known.Associated n)) Two e = refl
associated_may (Some (known.Associated n)) Three e = refl

pub discarded_here : (r r2 : Readings) (a : List ℕ) (s : Standing) (tid : ℕ) → Moves r a s r2 → r2.agreement a tid ≡ None
discarded_here r r2 a s tid moves =
    ⊎_elim
    (λ same. moves.discards a tid ∙ ap (λ b. cond b None (r.agreement a tid)) same.0)
    (λ other. absurd (other.1 refl))
    (address_tells a a)

pub agreed_here : (r r2 : Readings) (a : List ℕ) (tid : ℕ) (u : Option Using) → Agrees r a tid u r2 → r2.agreement a tid ≡ u
agreed_here r r2 a tid u agrees =
    ⊎_elim
    (λ same. agrees.agreement a tid ∙ ap (λ b. cond (b && (tid == tid)) u (r.agreement a tid)) same.0 ∙ ap (λ b. cond b u (r.agreement a tid)) (eq-eqb tid tid refl))
    (λ other. absurd (other.1 refl))
    (address_tells a a)

pub agreed_elsewhere : (r r2 : Readings) (a : List ℕ) (t tid : ℕ) (u : Option Using) → t ≢ tid → Agrees r a t u r2 → r2.agreement a tid ≡ r.agreement a tid
agreed_elsewhere r r2 a t tid u ne agrees = ⊎_elim (λ here. absurd (ne here.1)) (λ same. same) (agreed_cases r r2 a t u agrees a tid)

-- ---- what ends, by a frame or a command

module _ (c : Rules) (e : Entry) (clock : ℕ) (r r2 : Readings) (a : List ℕ) (tid : ℕ) (g : Option Agreement) (reads : ReadsAgreed g (r.agreement a tid)) where
  -- the outputs if the agreement exists
  ended_outs : (passed last : List Out) (u : Using) → NoUp last → r.agreement a tid ≡ Some u → e.outs ≡ (if is_some (r.agreement a tid) then passed ++ last else []) → ups_of a tid e.outs ≡ ups_of a tid passed
  ended_outs passed last u none there is =
      ap (ups_of a tid) (is ∙ ap (λ o. if is_some o then passed ++ last else []) there) ∙ ups_of-append a tid passed last ∙
      ap (λ xs. ups_of a tid passed ++ xs) (none_of_no_up a tid last none) ∙ append-nil (ups_of a tid passed)

  pub ended : (last : List Out) → NoUp last → Ends r a tid last e.asked e.outs r2 → ((old : Agreement) → history.Ends c e a tid clock old) → ((new : Agreement) → Opens c e a tid clock new → ⊥) → Telling c e clock r2 a tid g
  ended last none x ends not_opened = by_case g refl
    where
      by_case : (o : Option Agreement) → g ≡ o → Telling c e clock r2 a tid g
      by_case (Some old) there =
          let at = read_of g (r.agreement a tid) old reads there in
          it_ends old there (ends old) (agreed_here r r2 a tid None x.agrees)
          (ends_up c e clock r2 a tid r g reads x.first old there x.passes (ended_outs x.first last at.using none at.is x.settles.is))
      by_case None there =
          let P : Option Agreement → Type 0 = λ o. ReadsAgreed o (r2.agreement a tid) in
          let Q : Option Using → Type 0 = λ o. ReadsAgreed None o in
          it_is_alone (none_alone c e clock r2 a tid r g reads there not_opened) (subst P (sym there) (subst Q (sym (agreed_here r r2 a tid None x.agrees)) tt)) (λ old some. absurd (none-some old (sym there ∙ some)))

up_tid : (one other : Up) → out.Up one ≡ out.Up other → other.tid ≡ one.tid
up_tid one other e = cc

-- ---- a frame of the station

module _ (c : Rules) (e : Entry) (clock : ℕ) (r r2 : Readings) (now : r2.clock ≡ clock) (holds : HoldsAgreements r) (f : Frame) (comes : ComesFrom c e f.sender f) (tid : ℕ) (g : Option Agreement) (reads : ReadsAgreed g (r.agreement f.sender tid)) where
  unaffected : LeavesAlone c e f.sender tid clock g → Stays r r2 → NoUp e.outs → Telling c e clock r2 f.sender tid g
  unaffected leaves_alone stays none = unchanged c e clock r2 f.sender tid r g reads leaves_alone (stays.agreement f.sender tid) (λ old there. none_of_no_up f.sender tid e.outs none)

  -- another TID's agreement changed
  other_one : (t : ℕ) (u : Option Using) → t ≢ tid → LeavesAlone c e f.sender tid clock g → Agrees r f.sender t u r2 → AllFor t e.outs → Telling c e clock r2 f.sender tid g
  other_one t u ne leaves_alone agrees all =
      unchanged c e clock r2 f.sender tid r g reads leaves_alone (agreed_elsewhere r r2 f.sender t tid u ne agrees) (λ old there. silent_for f.sender tid t e.outs ne all)

  nothing_own : (body : Content) → f.content ≡ body → (SetsUpFor tid body → ⊥) → (UsesFor tid body → ⊥) → (DeletesFor tid body → ⊥) → exchange_of body ≡ 0 → Nothing r e.asked e.outs r2 → Telling c e clock r2 f.sender tid g
  nothing_own body is no_setup no_use no_end none x =
      unaffected (alone_by c e f.sender f comes f.sender tid clock g body is no_setup no_use no_end none) x.stays (no_up_of e.outs [] x.settles.is none_up)

  never_opens : (body : Content) → f.content ≡ body → (SetsUpFor tid body → ⊥) → (new : Agreement) → Opens c e f.sender tid clock new → ⊥
  never_opens body is no_setup new o = no_setup (subst (SetsUpFor tid) is (opens_for c e f.sender f comes f.sender tid clock new o))

  -- ---- exchanges

  moved_own : (body : Content) → f.content ≡ body → (SetsUpFor tid body → ⊥) → (s : Standing) (x : Exchange) → IsExchange c e f.sender x → Moves r f.sender s r2 → NoUp e.outs → Telling c e clock r2 f.sender tid g
  moved_own body is no_setup s x exchange moves none =
      gone c e clock r2 f.sender tid r g reads x exchange (never_opens body is no_setup) (discarded_here r r2 f.sender s tid moves) (none_of_no_up f.sender tid e.outs none)

  authentication_own : (bssid : List ℕ) (sequence algorithm transaction status : ℕ) → f.content ≡ content.Management bssid sequence (management.Authentication algorithm transaction status) →
      Authenticates c r f.sender algorithm transaction e.asked e.outs r2 → Telling c e clock r2 f.sender tid g
  authentication_own bssid sequence algorithm transaction status is (accepts fine settles moves) =
      moved_own (content.Management bssid sequence (management.Authentication algorithm transaction status)) is (λ x. x) _ Authenticated
      (authentication f bssid sequence algorithm transaction status comes is settles.is) moves (one_sent e.outs _ settles.is)
  authentication_own bssid sequence algorithm transaction status is (refuses n ne bad answers) =
      unaffected
      (alone_but c e f.sender f comes f.sender tid clock g (content.Management bssid sequence (management.Authentication algorithm transaction status)) is (λ x. x) (λ x. x) (λ x. x)
      (refused_authentication c e f comes algorithm n (ap exchange_of is) ne (refusal_is_small r f.sender algorithm transaction bad) answers.settles.is))
      answers.stays (one_sent e.outs _ answers.settles.is)

  module _ (body : Content) (is : f.content ≡ body) (no_setup : SetsUpFor tid body → ⊥) (no_use : UsesFor tid body → ⊥) (no_end : DeletesFor tid body → ⊥) (q : Request) (request : IsRequest q.again body) (kind : exchange_of body ≡ 2) where
    turned_away : (status : ℕ) → status ≢ 0 → status < 65536 → e.outs ≡ association_answer c f.sender q.again status 0 ∷ [] → Stays r r2 → Telling c e clock r2 f.sender tid g
    turned_away status ne small outs stays =
        unaffected
        (alone_but c e f.sender f comes f.sender tid clock g body is no_setup no_use no_end (refused_association c e f comes q.again status 0 (ap exchange_of is ∙ kind) ne small outs))
        stays (one_sent e.outs _ outs)

    association_own : Associates c r f.sender q e.asked e.outs r2 → Telling c e clock r2 f.sender tid g
    association_own (unsuited not x) = turned_away 10 (λ z. omega arith) (omega arith) x.settles.is x.stays
    association_own (elsewhere suits not x) = turned_away 12 (λ z. omega arith) (omega arith) x.settles.is x.stays
    association_own (exhausted suits names none x) = turned_away 17 (λ z. omega arith) (omega arith) x.settles.is x.stays
    association_own (admitted verdict suits names x) =
        moved_own body is no_setup _ (Associated x.identifier)
        (association f q.again x.identifier comes (subst (IsRequest q.again) (sym is) request) x.free.own x.is) x.moves (one_sent e.outs _ x.is)
    association_own (refused verdict suits names x) = turned_away (association_status verdict) x.refuses (small_status verdict) x.is x.stays

  -- ---- DELBA

  delba_own : (bssid : List ℕ) (sequence : ℕ) (parameters : DelbaParameters) (reason : ℕ) → f.content ≡ content.Management bssid sequence (management.Delba parameters reason) →
      (initiator : Bool) → parameters.initiator ≡ initiator → DelbaComes c r f.sender initiator parameters.tid e.asked e.outs r2 → Telling c e clock r2 f.sender tid g
  delba_own bssid sequence parameters reason is true initiator x =
      ⊎_elim
      (λ same.
      let P : ℕ → Type 0 = λ t. Ends r f.sender t [] e.asked e.outs r2 in
      ended c e clock r r2 f.sender tid g reads [] none_up (subst P same x) (λ old. deleted f bssid sequence parameters reason comes is initiator same)
      (never_opens (content.Management bssid sequence (management.Delba parameters reason)) is (λ x. x)))
      (λ ne.
      other_one parameters.tid None ne
      (alone_by c e f.sender f comes f.sender tid clock g (content.Management bssid sequence (management.Delba parameters reason)) is (λ x. x) (λ x. x) (λ both. ne both.1) refl)
      x.agrees
      (λ d inside.
      let P : List Out → Type 0 = λ xs. Contains xs (out.Up d) in
      ⊎_elim (λ l. all_for_held f.sender parameters.tid (r.agreement f.sender parameters.tid) x.first x.passes d l) (λ none. absurd (none_in_none (out.Up d) none))
      (if_there (is_some (r.agreement f.sender parameters.tid)) x.first [] d (subst P x.settles.is inside))))
      (cases_eq parameters.tid tid)
  delba_own bssid sequence parameters reason is false initiator x =
      nothing_own (content.Management bssid sequence (management.Delba parameters reason)) is (λ x. x) (λ x. x) (λ both. let f : false ≡ true = sym initiator ∙ both.0 in cc) refl x

  -- ---- ADDBA requests

  module _ (bssid : List ℕ) (sequence token : ℕ) (parameters : BlockAckParameters) (timeout start : ℕ) (is : f.content ≡ content.Management bssid sequence (management.AddbaRequest token parameters timeout start)) where
    abbrev body : Content
    body = content.Management bssid sequence (management.AddbaRequest token parameters timeout start)

    abbrev setup : Setup
    setup = record { frame = f; token = token; parameters = parameters; timeout = timeout; start = start }

    not_granted : ((new : Agreement) → Opens c e f.sender tid clock new → ⊥) → LeavesAlone c e f.sender tid clock g
    not_granted not_opened = alone_with c e f.sender f comes f.sender tid clock g body is not_opened (λ x. x) (λ x. x) refl

    declines_it : (verdict : ℕ) → Declines c r f.sender setup verdict e.asked e.outs r2 → (new : Agreement) → Opens c e f.sender tid clock new → ⊥
    declines_it verdict d new o =
        let same : verdict ≡ o.verdict = one_verdict (setup_ask r f.sender setup) o.ask verdict o.verdict e.asked d.asks o.asked in
        let alike : parameters ≡ o.parameters =
        same_parameters bssid o.bssid sequence o.sequence token o.token parameters o.parameters timeout o.timeout start o.start
        (sym is ∙ same_content c e f.sender f.sender o.frame f _ o.comes comes o.content) in
        none-some o.size (sym d.declines ∙ ap (λ v. agreement_size v parameters.buffer_size) same ∙ ap (λ p. agreement_size o.verdict p.buffer_size) alike ∙ o.grants)

    granted_outs : (verdict : ℕ) (x : Grants c r f.sender setup verdict e.asked e.outs r2) → ups_of f.sender tid e.outs ≡ ups_of f.sender tid x.first
    granted_outs verdict x =
        ap (ups_of f.sender tid) x.is ∙ ups_of-append f.sender tid x.first (setup_answer c f.sender setup 0 x.size ∷ []) ∙ append-nil (ups_of f.sender tid x.first)

    grants_here : (verdict : ℕ) → parameters.tid ≡ tid → Grants c r f.sender setup verdict e.asked e.outs r2 → Telling c e clock r2 f.sender tid g
    grants_here verdict same x =
        let new : Agreement = record { window = opening start; size = x.size; board = blank start x.size; timeout = timeout; last_use = clock } in
        let using : Using = record { window = x.window; timeout = timeout; last_use = r.clock } in
        let P : ℕ → Type 0 = λ t. Agrees r f.sender t (Some using) r2 in
        let Q : ℕ → Type 0 = λ t. PassesHeld f.sender t (r.agreement f.sender t) x.first in
        let agrees = subst P same x.agrees in
        let before : r2.clock ≡ r.clock = agrees.clock in
        it_opens new
        (record {
          frame = f;
          comes = comes;
          bssid = bssid;
          sequence = sequence;
          token = token;
          parameters = parameters;
          timeout = timeout;
          start = start;
          content = is;
          for_tid = same;
          ask = setup_ask r f.sender setup;
          verdict = verdict;
          asked = x.asks;
          size = x.size;
          grants = x.grants;
          is = refl;
        })
        (subst (ReadsAgreed (Some new)) (sym (agreed_here r r2 f.sender tid (Some using) agrees))
        (record { window = x.opens; size = x.sized; board = x.blanks; timeout = refl; last_use = sym before ∙ now }))
        (λ old there. ends_up c e clock r2 f.sender tid r g reads x.first old there (subst Q same x.passes) (granted_outs verdict x))

    setup_own : SetsUp c r f.sender setup e.asked e.outs r2 → Telling c e clock r2 f.sender tid g
    setup_own (delayed policy x) =
        unaffected (not_granted (λ new o. no_asks (o.ask, o.verdict) (sym x.settles.silent ∙ o.asked))) x.stays (one_sent e.outs _ x.settles.is)
    setup_own (declined verdict policy x) = unaffected (not_granted (declines_it verdict x)) x.stays (one_sent e.outs _ x.is)
    setup_own (granted verdict policy x) =
        ⊎_elim
        (λ same. grants_here verdict same x)
        (λ ne.
        other_one parameters.tid _ ne (not_granted (never_opens body is ne)) x.agrees
        (subst (AllFor parameters.tid) (sym x.is)
        (all_for_append parameters.tid x.first (setup_answer c f.sender setup 0 x.size ∷ [])
        (all_for_held f.sender parameters.tid (r.agreement f.sender parameters.tid) x.first x.passes) (all_for_none parameters.tid (setup_answer c f.sender setup 0 x.size ∷ []) (no_up_in_answer c f.sender setup 0 x.size)))))
        (cases_eq parameters.tid tid)

  -- ---- BlockAckReq

  module _ (start : ℕ) (is : f.content ≡ content.Control (control.BlockAckReq tid start)) (u : Using) (x : Reports c r f.sender tid start u e.asked e.outs r2) where
    reports_to : There g u → Telling c e clock r2 f.sender tid g
    reports_to t =
        let old : Agreement = t.agreement in
        let after = x.moves old.window t.reads.window in
        let P : ℕ → Type 0 = λ n. RequestMarks n start u.window.scoreboard_start u.window.scoreboard_bits x.window.scoreboard_start x.window.scoreboard_bits in
        let marks : RequestMarks old.size start u.window.scoreboard_start u.window.scoreboard_bits x.window.scoreboard_start x.window.scoreboard_bits = subst P t.reads.size x.marks in
        let mark = marks old.board t.reads.board in
        let new : Agreement = record { window = after.next; size = old.size; board = mark.next; timeout = old.timeout; last_use = clock } in
        let using : Using = record { window = x.window; timeout = u.timeout; last_use = r.clock } in
        let before : r2.clock ≡ r.clock = x.agrees.clock in
        it_is_used old new x.passed t.is
        (requests f start comes is (record { size = refl; timeout = refl; now = refl }) after.step mark.step)
        (subst (ReadsAgreed (Some new)) (sym (agreed_here r r2 f.sender tid (Some using) x.agrees))
        (record { window = after.reads; size = x.size ∙ t.reads.size; board = mark.reads; timeout = t.reads.timeout; last_use = sym before ∙ now }))
        after.passes
        (ap (ups_of f.sender tid) x.settles.is ∙ ups_of-append f.sender tid (ups f.sender tid x.passed) (block_ack c f.sender tid x.window ∷ []) ∙
        append-nil (ups_of f.sender tid (ups f.sender tid x.passed)) ∙ own_ups f.sender tid x.passed)

  request_own : (t start : ℕ) → f.content ≡ content.Control (control.BlockAckReq t start) → RequestComes c r f.sender t start e.asked e.outs r2 → Telling c e clock r2 f.sender tid g
  request_own t start is (unagreed none x) =
      ⊎_elim
      (λ same.
      let P : ℕ → Type 0 = λ k. r.agreement f.sender k ≡ None in
      unaffected
      (none_alone c e clock r2 f.sender tid r g reads (not_told g (r.agreement f.sender tid) reads (subst P same none)) (never_opens (content.Control (control.BlockAckReq t start)) is (λ z. z)))
      x.stays (no_up_of e.outs [] x.settles.is none_up))
      (λ ne. nothing_own (content.Control (control.BlockAckReq t start)) is (λ z. z) ne (λ z. z) refl x)
      (cases_eq t tid)
  request_own t start is (agreed u at x) =
      ⊎_elim
      (λ same.
      let P : ℕ → Type 0 = λ k. Reports c r f.sender k start u e.asked e.outs r2 in
      let Q : ℕ → Type 0 = λ k. f.content ≡ content.Control (control.BlockAckReq k start) in
      let R : ℕ → Type 0 = λ k. r.agreement f.sender k ≡ Some u in
      reports_to start (subst Q same is) u (subst P same x) (told g (r.agreement f.sender tid) u reads (subst R same at)))
      (λ ne.
      other_one t _ ne (alone_by c e f.sender f comes f.sender tid clock g (content.Control (control.BlockAckReq t start)) is (λ z. z) ne (λ z. z) refl) x.agrees
      (subst (AllFor t) (sym x.settles.is)
      (all_for_append t (ups f.sender t x.passed) (block_ack c f.sender t x.window ∷ []) (all_for_ups f.sender t x.passed) (all_for_none t (block_ack c f.sender t x.window ∷ []) (no_up_in_block_ack c f.sender t x.window)))))
      (cases_eq t tid)

  -- ---- data

  passed_plain : (p : Packet) → (t : Option ℕ) → p.tid ≡ t → (v : DataVerdict) → e.outs ≡ let_through f.sender p v → t ≡ None → ups_of f.sender tid e.outs ≡ []
  passed_plain p t told_tid v is none =
      none_of f.sender tid e.outs (λ d inside. let P : List Out → Type 0 = λ xs. Contains xs (out.Up d) in no_tid f.sender tid d (by_verdict v d (subst P is inside)))
    where
      by_verdict : (v : DataVerdict) (d : Up) → Contains (let_through f.sender p v) (out.Up d) → d.tid ≡ None
      by_verdict (Pass mark) d inside =
          ⊎_elim (λ no_one. absurd (none_in_none (out.Up d) no_one)) (λ e. up_tid _ d e ∙ told_tid ∙ none) (Contains-push_cases [] _ (out.Up d) inside)
      by_verdict Discard d inside = absurd (none_in_none (out.Up d) inside)

  module _ (destination : List ℕ) (number : ℕ) (is_plain : f.content ≡ content.Data destination number kinds.Data) where
    abbrev plain_packet : Packet
    plain_packet = record { frame = f; destination = destination; tid = None; number = number }

    no_tid_here : (t : ℕ) → None ≡ Some t → ⊥
    no_tid_here t e = none-some t e

    plain_own : DataComes r f.sender plain_packet e.asked e.outs r2 → Telling c e clock r2 f.sender tid g
    plain_own (plain x) =
        unchanged c e clock r2 f.sender tid r g reads
        (alone_by c e f.sender f comes f.sender tid clock g (content.Data destination number kinds.Data) is_plain (λ z. z) (λ z. z) (λ z. z) refl)
        (x.stays.agreement f.sender tid) (λ old there. passed_plain plain_packet None refl (data_verdict x.verdict) x.is refl)
    plain_own (taken t u at_tid at x) = absurd (no_tid_here t at_tid)
    plain_own (left t u at_tid at x) = absurd (no_tid_here t at_tid)

  module _ (destination : List ℕ) (number : ℕ) (qos : QosControl) (is_qos : f.content ≡ content.Data destination number (kinds.QosData qos)) where
    abbrev packet : Packet
    packet = record { frame = f; destination = destination; tid = Some qos.tid; number = number }

    same_tid : (m n : ℕ) → Some m ≡ Some n → m ≡ n
    same_tid m n e = cc

    its_data : qos.tid ≡ tid → IsItsData c e f.sender tid clock packet
    its_data same = record { comes = comes; qos = qos; content = is_qos; for_tid = same }

    alone_data : qos.tid ≢ tid → LeavesAlone c e f.sender tid clock g
    alone_data ne = alone_by c e f.sender f comes f.sender tid clock g (content.Data destination number (kinds.QosData qos)) is_qos (λ z. z) ne (λ z. z) refl

    takes_it : (u : Using) → qos.tid ≡ tid → There g u → Takes r f.sender packet tid u e.asked e.outs r2 → Telling c e clock r2 f.sender tid g
    takes_it u same t x =
        let old : Agreement = t.agreement in
        let thing : Option Held = item packet (data_verdict x.verdict) in
        let M : ℕ → Type 0 = λ n. DataMarks n number u.window.scoreboard_start u.window.scoreboard_bits x.window.scoreboard_start x.window.scoreboard_bits in
        let marks : DataMarks old.size number u.window.scoreboard_start u.window.scoreboard_bits x.window.scoreboard_start x.window.scoreboard_bits = subst M t.reads.size x.marks in
        let after = x.moves old.window t.reads.window in
        let mark = marks old.board t.reads.board in
        let new : Agreement = record { window = after.next; size = old.size; board = mark.next; timeout = old.timeout; last_use = clock } in
        let using : Using = record { window = x.window; timeout = u.timeout; last_use = r.clock } in
        let before : r2.clock ≡ r.clock = x.agrees.clock in
        let S : ℕ → Type 0 = λ n. TakesData n number thing old.window after.next in
        it_is_used old new x.passed t.is
        (takes packet (data_ask r f.sender packet) x.verdict (its_data same) x.asks (record { size = refl; timeout = refl; now = refl }) (subst S t.reads.size after.step) mark.step)
        (subst (ReadsAgreed (Some new)) (sym (agreed_here r r2 f.sender tid (Some using) x.agrees))
        (record { window = after.reads; size = x.size ∙ t.reads.size; board = mark.reads; timeout = t.reads.timeout; last_use = sym before ∙ now }))
        after.passes
        (ap (ups_of f.sender tid) x.is ∙ own_ups f.sender tid x.passed)

    leaves_it : (u : Using) → qos.tid ≡ tid → There g u → Leaves r f.sender packet tid u e.asked e.outs r2 → Telling c e clock r2 f.sender tid g
    leaves_it u same t x =
        let old : Agreement = t.agreement in
        let M : ℕ → Type 0 = λ n. DataMarks n number u.window.scoreboard_start u.window.scoreboard_bits x.window.scoreboard_start x.window.scoreboard_bits in
        let marks : DataMarks old.size number u.window.scoreboard_start u.window.scoreboard_bits x.window.scoreboard_start x.window.scoreboard_bits = subst M t.reads.size x.marks in
        let after = x.moves old.window t.reads.window in
        let mark = marks old.board t.reads.board in
        let new : Agreement = record { window = after.next; size = old.size; board = mark.next; timeout = old.timeout; last_use = clock } in
        let using : Using = record { window = x.window; timeout = u.timeout; last_use = r.clock } in
        let before : r2.clock ≡ r.clock = x.agrees.clock in
        it_is_used old new [] t.is
        (leaves packet (its_data same) x.settles.silent (record { size = refl; timeout = refl; now = refl }) after.step mark.step)
        (subst (ReadsAgreed (Some new)) (sym (agreed_here r r2 f.sender tid (Some using) x.agrees))
        (record { window = after.reads; size = x.size ∙ t.reads.size; board = mark.reads; timeout = t.reads.timeout; last_use = sym before ∙ now }))
        after.passes
        (ap (ups_of f.sender tid) x.settles.is)

    qos_own : DataComes r f.sender packet e.asked e.outs r2 → Telling c e clock r2 f.sender tid g
    qos_own (plain x) =
        ⊎_elim
        (λ same.
        let P : ℕ → Type 0 = λ k. r.agreement f.sender k ≡ None in
        let none : g ≡ None = not_told g (r.agreement f.sender tid) reads (subst P same x.plain) in
        unchanged c e clock r2 f.sender tid r g reads
        (none_alone c e clock r2 f.sender tid r g reads none (never_opens (content.Data destination number (kinds.QosData qos)) is_qos (λ z. z)))
        (x.stays.agreement f.sender tid) (λ old there. absurd (none-some old (sym none ∙ there))))
        (λ ne.
        unchanged c e clock r2 f.sender tid r g reads (alone_data ne) (x.stays.agreement f.sender tid)
        (λ old there. silent_for f.sender tid qos.tid e.outs ne (λ d inside. let P : List Out → Type 0 = λ xs. Contains xs (out.Up d) in by_verdict (data_verdict x.verdict) d (subst P x.is inside))))
        (cases_eq qos.tid tid)
      where
        by_verdict : (v : DataVerdict) (d : Up) → Contains (let_through f.sender packet v) (out.Up d) → d.tid ≡ Some qos.tid
        by_verdict (Pass mark) d inside =
            ⊎_elim (λ no_one. absurd (none_in_none (out.Up d) no_one)) (λ e. up_tid _ d e) (Contains-push_cases [] _ (out.Up d) inside)
        by_verdict Discard d inside = absurd (none_in_none (out.Up d) inside)
    qos_own (taken t u at_tid at x) =
        let e1 : qos.tid ≡ t = same_tid qos.tid t at_tid in
        ⊎_elim
        (λ same.
        let P : ℕ → Type 0 = λ k. Takes r f.sender packet k u e.asked e.outs r2 in
        let R : ℕ → Type 0 = λ k. r.agreement f.sender k ≡ Some u in
        takes_it u (e1 ∙ same) (told g (r.agreement f.sender tid) u reads (subst R same at)) (subst P same x))
        (λ ne.
        other_one t _ ne (alone_data (λ z. ne (sym e1 ∙ z))) x.agrees (subst (AllFor t) (sym x.is) (all_for_ups f.sender t x.passed)))
        (cases_eq t tid)
    qos_own (left t u at_tid at x) =
        let e1 : qos.tid ≡ t = same_tid qos.tid t at_tid in
        ⊎_elim
        (λ same.
        let P : ℕ → Type 0 = λ k. Leaves r f.sender packet k u e.asked e.outs r2 in
        let R : ℕ → Type 0 = λ k. r.agreement f.sender k ≡ Some u in
        leaves_it u (e1 ∙ same) (told g (r.agreement f.sender tid) u reads (subst R same at)) (subst P same x))
        (λ ne.
        other_one t _ ne (alone_data (λ z. ne (sym e1 ∙ z))) x.agrees (subst (AllFor t) (sym x.settles.is) (all_for_none t [] none_up)))
        (cases_eq t tid)

  -- ---- all frames

  management_own : (bssid : List ℕ) (sequence : ℕ) (body : Management) → f.content ≡ content.Management bssid sequence body → ManagementComes c r f body e.asked e.outs r2 → Telling c e clock r2 f.sender tid g
  management_own bssid sequence (management.Authentication algorithm transaction status) is x = authentication_own bssid sequence algorithm transaction status is x
  management_own bssid sequence (management.AssociationRequest capability interval) is x =
      association_own (content.Management bssid sequence (management.AssociationRequest capability interval)) is (λ z. z) (λ z. z) (λ z. z)
      (record { frame = f; capability = capability; listen_interval = interval; again = false }) (first bssid sequence capability interval) refl x
  management_own bssid sequence (management.ReassociationRequest capability interval current) is x =
      association_own (content.Management bssid sequence (management.ReassociationRequest capability interval current)) is (λ z. z) (λ z. z) (λ z. z)
      (record { frame = f; capability = capability; listen_interval = interval; again = true }) (again bssid sequence capability interval current) refl x
  management_own bssid sequence (management.Disassociation reason) is x =
      moved_own (content.Management bssid sequence (management.Disassociation reason)) is (λ z. z) _ Disassociated (disassociation f bssid sequence reason comes is) x.moves (no_up_of e.outs [] x.settles.is none_up)
  management_own bssid sequence (management.Deauthentication reason) is x =
      moved_own (content.Management bssid sequence (management.Deauthentication reason)) is (λ z. z) _ Deauthenticated (deauthentication f bssid sequence reason comes is) x.moves (no_up_of e.outs [] x.settles.is none_up)
  management_own bssid sequence (management.AddbaRequest token parameters timeout start) is x = setup_own bssid sequence token parameters timeout start is x
  management_own bssid sequence (management.Delba parameters reason) is x = delba_own bssid sequence parameters reason is parameters.initiator refl x
  management_own bssid sequence (management.AssociationResponse capability status aid) is x =
      nothing_own (content.Management bssid sequence (management.AssociationResponse capability status aid)) is (λ z. z) (λ z. z) (λ z. z) refl x
  management_own bssid sequence (management.ReassociationResponse capability status aid) is x =
      nothing_own (content.Management bssid sequence (management.ReassociationResponse capability status aid)) is (λ z. z) (λ z. z) (λ z. z) refl x
  management_own bssid sequence (management.AddbaResponse token status parameters timeout) is x =
      nothing_own (content.Management bssid sequence (management.AddbaResponse token status parameters timeout)) is (λ z. z) (λ z. z) (λ z. z) refl x

  control_own : (body : Control) → f.content ≡ content.Control body → ControlComes c r f body e.asked e.outs r2 → Telling c e clock r2 f.sender tid g
  control_own (control.BlockAckReq t start) is x = request_own t start is x
  control_own (control.BlockAck t start bitmap) is x = nothing_own (content.Control (control.BlockAck t start bitmap)) is (λ z. z) (λ z. z) (λ z. z) refl x

  data_own : (destination : List ℕ) (number : ℕ) (kind : DataKind) → f.content ≡ content.Data destination number kind → DataKindComes c r f destination number kind e.asked e.outs r2 → Telling c e clock r2 f.sender tid g
  data_own destination number kinds.Data is x = plain_own destination number is x
  data_own destination number (kinds.QosData qos) is x = qos_own destination number qos is x
  data_own destination number kinds.Null is x = nothing_own (content.Data destination number kinds.Null) is (λ z. z) (λ z. z) (λ z. z) refl x
  data_own destination number (kinds.QosNull qos) is x = nothing_own (content.Data destination number (kinds.QosNull qos)) is (λ z. z) (λ z. z) (λ z. z) refl x

  content_own : (body : Content) → f.content ≡ body → Follows c r f body e.asked e.outs r2 → Telling c e clock r2 f.sender tid g
  content_own (content.Management bssid sequence body) is x = management_own bssid sequence body is x
  content_own (content.Control body) is x = control_own body is x
  content_own (content.Data destination number kind) is x = data_own destination number kind is x

  -- a frame whose class isn't permitted: its station isn't associated and has no agreement
  rejected_own : (bytes : List ℕ) → (check_of c r f ≡ Permitted → ⊥) → Answers (out.Send bytes) r e.asked e.outs r2 → Telling c e clock r2 f.sender tid g
  rejected_own bytes not x = by_case g refl
    where
      by_case : (o : Option Agreement) → g ≡ o → Telling c e clock r2 f.sender tid g
      by_case (Some old) there =
          let at = read_of g (r.agreement f.sender tid) old reads there in
          absurd (not (associated_may (r.standing f.sender) _ (holds.associated f.sender tid at.using at.is)))
      by_case None there =
          unaffected (none_alone c e clock r2 f.sender tid r g reads there (λ new o. no_asks (o.ask, o.verdict) (sym x.settles.silent ∙ o.asked))) x.stays (one_sent e.outs bytes x.settles.is)

  pub checked_own : (answer : ClassAnswer) → check_of c r f ≡ answer → Checked c r f answer e.asked e.outs r2 → Telling c e clock r2 f.sender tid g
  checked_own Permitted is x = content_own f.content refl x
  checked_own (Deauthenticate reason) is x = rejected_own _ (λ may. not_deauthenticated reason (sym may ∙ is)) x
  checked_own (Disassociate reason) is x = rejected_own _ (λ may. not_disassociated reason (sym may ∙ is)) x
