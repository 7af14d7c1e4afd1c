-- A station's standing is what its exchanges say.
use Rattle.std.proofs.Common.{◌≡◌, ◌≢◌, ℕ, ◌<◌, ⊎_elim, Bool, true, false, cond, None, Some, List, [], ◌∷◌, refl, sym, ap, ◌∙◌, subst, arith}
use Rattle.mac_frame.specs.Faults.{first_fault}
use Rattle.mac_frame.specs.declared.content.Management.{Management}
use Rattle.mac_frame.specs.declared.content.Management.TheVariants as management
use Rattle.mac_frame.specs.declared.content.Control.{Control}
use Rattle.mac_frame.specs.declared.content.Control.TheVariants as control
use Rattle.mac_frame.specs.declared.content.DataKind.{DataKind}
use Rattle.mac_frame.specs.declared.content.DataKind.TheVariants as kinds
use Rattle.mac_frame.specs.declared.content.Content.{Content}
use Rattle.mac_frame.specs.declared.content.Content.TheVariants as content
use Rattle.mac_frame.specs.Spelling.{Frame, spelling, content_subtype}
use Rattle.mac_frame.proofs.Alone.{alone}
use Rattle.mac_frame.proofs.Again.{fault_free}
use Rattle.assoc.specs.declared.class.Class.TheVariants.{One, Two}
use Rattle.assoc.specs.declared.class.ClassAnswer.{ClassAnswer}
use Rattle.assoc.specs.declared.class.ClassAnswer.TheVariants.{Permitted, Deauthenticate, Disassociate}
use Rattle.assoc.specs.Classes.{class_of, class_answer}
use Rattle.assoc.specs.declared.standing.Known.TheVariants as known
use Rattle.assoc.specs.Standings.{Standing, disassociated}
use Rattle.assoc.proofs.Tables.{address_tells}
use Rattle.hooks.specs.Verdicts.{association_status}
use Rattle.ap_model.specs.declared.event.Event.{Event}
use Rattle.ap_model.specs.declared.event.Event.TheVariants as event
use Rattle.ap_model.specs.declared.event.Out.{Out}
use Rattle.ap_model.specs.Asks.{Ask}
use Rattle.ap_model.specs.Readings.{Readings, Rules}
use Rattle.ap_model.specs.Changes.{Stays, Moves}
use Rattle.ap_model.specs.Associations.{Authenticates, accepts, refuses, Associates, unsuited, elsewhere, exhausted, admitted, refused, Request, association_answer, aid_field}
use Rattle.ap_model.specs.Agreements.{Packet, DataComes, plain, taken, left, RequestComes, unagreed, agreed, SetsUp, delayed, declined, granted, Setup}
use Rattle.ap_model.specs.Steps.{Step, FrameComes, faulty, foreign, ours, IsOurs, Checked, check_of, Follows, ManagementComes, ControlComes, DataKindComes, DelbaComes, Kicks, kicked, not_kicked, Closes, closed, not_closed}
use Rattle.ap_model.specs.Runs.{Entry}
use Rattle.ap_laws.specs.Exchanges.{Exchange, Authenticated, Associated, Disassociated, Deauthenticated, standing_after, ComesFrom, IsRequest, first, again, IsExchange, authentication, association, disassociation, deauthentication, kick, one_more, other}
use Rattle.ap_laws.specs.Histories.{StandsBy}
use Rattle.ap_laws.proofs.FrameLaws.{same_sender, frame_no_tick, frame_no_kick, frame_no_close, tick_no_kick, kick_no_close, kicked_one, deauthentication_is_no_answer, disassociation_is_no_answer, small_status}
use Rattle.ap_laws.proofs.TellLaws.{exchange_of, exchange_number, some_number}
use Rattle.ap_laws.proofs.RefusedLaws.{refused_authentication, no_association, refused_association}
use Rattle.ap_laws.proofs.OwnLaws.{refusal_is_small}
use Rattle.std.proofs.lemmas.Option.{none-some}
use Rattle.ap_laws.proofs.Same.{bytes_of, not_deauthenticated, not_disassociated}

-- the standing after an exchange
abbrev pub led_to : Exchange → Standing → Standing
led_to Authenticated s = Some known.Authenticated
led_to (Associated n) s = Some (known.Associated n)
led_to Disassociated s = disassociated s
led_to Deauthenticated s = None

led_after : (x : Exchange) (older : List Exchange) → standing_after (x ∷ older) ≡ led_to x (standing_after older)
led_after Authenticated older = refl
led_after (Associated n) older = refl
led_after Disassociated older = refl
led_after Deauthenticated older = refl

-- an entry is an exchange of the station, which led to s2, or it is none and the standing is unchanged
pub data Led (c : Rules) (e : Entry) (a : List ℕ) (s s2 : Standing) : Type 0 where
  exchanged : (x : Exchange) → IsExchange c e a x → s2 ≡ led_to x s → Led c e a s s2
  as_before : ((x : Exchange) → IsExchange c e a x → ⊥) → s2 ≡ s → Led c e a s s2

pub stands_on : (c : Rules) (h : List Entry) (e : Entry) (a : List ℕ) (s s2 : Standing) → StandsBy c h a s → Led c e a s s2 → StandsBy c (e ∷ h) a s2
stands_on c h e a s s2 by (exchanged x is leads) =
    record { exchanges = x ∷ by.exchanges; are = one_more e x h by.exchanges is by.are; is = leads ∙ ap (led_to x) by.is ∙ sym (led_after x by.exchanges) }
stands_on c h e a s s2 by (as_before none same) =
    record { exchanges = by.exchanges; are = other e h by.exchanges none by.are; is = same ∙ by.is }

moved_here : (r r2 : Readings) (a : List ℕ) (s : Standing) → Moves r a s r2 → r2.standing a ≡ s
moved_here r r2 a s moves = ⊎_elim (λ same. moves.moves a ∙ ap (λ b. cond b s (r.standing a)) same.0) (λ differ. absurd (differ.1 refl)) (address_tells a a)

moved_other : (r r2 : Readings) (b a : List ℕ) (s : Standing) → b ≢ a → Moves r b s r2 → r2.standing a ≡ r.standing a
moved_other r r2 b a s ne moves = ⊎_elim (λ same. absurd (ne same.1)) (λ differ. moves.moves a ∙ ap (λ x. cond x s (r.standing a)) differ.0) (address_tells b a)

-- ---- another station

module _ (c : Rules) (r r2 : Readings) (b a : List ℕ) (ne : b ≢ a) (asked : List (Ask × ℕ)) (outs : List Out) where
  authentication_other : (algorithm transaction : ℕ) → Authenticates c r b algorithm transaction asked outs r2 → r2.standing a ≡ r.standing a
  authentication_other algorithm transaction (accepts status settles moves) = moved_other r r2 b a _ ne moves
  authentication_other algorithm transaction (refuses n bad status answers) = answers.stays.standing a

  association_other : (q : Request) → Associates c r b q asked outs r2 → r2.standing a ≡ r.standing a
  association_other q (unsuited not x) = x.stays.standing a
  association_other q (elsewhere suits not x) = x.stays.standing a
  association_other q (exhausted suits names none x) = x.stays.standing a
  association_other q (admitted verdict suits names x) = moved_other r r2 b a _ ne x.moves
  association_other q (refused verdict suits names x) = x.stays.standing a

  pub kick_other : (reason : ℕ) → Kicks c r b reason asked outs r2 → r2.standing a ≡ r.standing a
  kick_other reason (kicked some settles moves) = moved_other r r2 b a None ne moves
  kick_other reason (not_kicked unknown answers) = answers.stays.standing a

module _ (c : Rules) (r r2 : Readings) (asked : List (Ask × ℕ)) (outs : List Out) where
  delba_stands : (b : List ℕ) (initiator : Bool) (tid : ℕ) → DelbaComes c r b initiator tid asked outs r2 → (a : List ℕ) → r2.standing a ≡ r.standing a
  delba_stands b true tid x a = x.agrees.standing a
  delba_stands b false tid x a = x.stays.standing a

  setup_stands : (b : List ℕ) (s : Setup) → SetsUp c r b s asked outs r2 → (a : List ℕ) → r2.standing a ≡ r.standing a
  setup_stands b s (delayed is x) a = x.stays.standing a
  setup_stands b s (declined verdict is x) a = x.stays.standing a
  setup_stands b s (granted verdict is x) a = x.agrees.standing a

  request_stands : (b : List ℕ) (tid start : ℕ) → RequestComes c r b tid start asked outs r2 → (a : List ℕ) → r2.standing a ≡ r.standing a
  request_stands b tid start (unagreed none x) a = x.stays.standing a
  request_stands b tid start (agreed u is x) a = x.agrees.standing a

  packet_stands : (b : List ℕ) (p : Packet) → DataComes r b p asked outs r2 → (a : List ℕ) → r2.standing a ≡ r.standing a
  packet_stands b p (plain x) a = x.stays.standing a
  packet_stands b p (taken tid u is at x) a = x.agrees.standing a
  packet_stands b p (left tid u is at x) a = x.agrees.standing a

  control_stands : (f : Frame) (body : Control) → ControlComes c r f body asked outs r2 → (a : List ℕ) → r2.standing a ≡ r.standing a
  control_stands f (control.BlockAckReq tid start) x a = request_stands f.sender tid start x a
  control_stands f (control.BlockAck tid start bitmap) x a = x.stays.standing a

  data_stands : (f : Frame) (destination : List ℕ) (number : ℕ) (kind : DataKind) → DataKindComes c r f destination number kind asked outs r2 → (a : List ℕ) → r2.standing a ≡ r.standing a
  data_stands f destination number kinds.Data x a = packet_stands f.sender _ x a
  data_stands f destination number (kinds.QosData qos) x a = packet_stands f.sender _ x a
  data_stands f destination number kinds.Null x a = x.stays.standing a
  data_stands f destination number (kinds.QosNull qos) x a = x.stays.standing a

  pub close_stands : (b : List ℕ) (tid : ℕ) → Closes c r b tid asked outs r2 → (a : List ℕ) → r2.standing a ≡ r.standing a
  close_stands b tid (closed some x) a = x.agrees.standing a
  close_stands b tid (not_closed unknown x) a = x.stays.standing a

module _ (c : Rules) (r r2 : Readings) (asked : List (Ask × ℕ)) (outs : List Out) (f : Frame) (a : List ℕ) (ne : f.sender ≢ a) where
  management_other : (body : Management) → ManagementComes c r f body asked outs r2 → r2.standing a ≡ r.standing a
  management_other (management.Authentication algorithm transaction status) x = authentication_other c r r2 f.sender a ne asked outs algorithm transaction x
  management_other (management.AssociationRequest capability interval) x = association_other c r r2 f.sender a ne asked outs _ x
  management_other (management.ReassociationRequest capability interval current) x = association_other c r r2 f.sender a ne asked outs _ x
  management_other (management.Disassociation reason) x = moved_other r r2 f.sender a _ ne x.moves
  management_other (management.Deauthentication reason) x = moved_other r r2 f.sender a _ ne x.moves
  management_other (management.AddbaRequest token parameters timeout start) x = setup_stands c r r2 asked outs f.sender _ x a
  management_other (management.Delba parameters reason) x = delba_stands c r r2 asked outs f.sender parameters.initiator parameters.tid x a
  management_other (management.AssociationResponse capability status aid) x = x.stays.standing a
  management_other (management.ReassociationResponse capability status aid) x = x.stays.standing a
  management_other (management.AddbaResponse token status parameters timeout) x = x.stays.standing a

  content_other : (body : Content) → Follows c r f body asked outs r2 → r2.standing a ≡ r.standing a
  content_other (content.Management bssid sequence body) x = management_other body x
  content_other (content.Control body) x = control_stands c r r2 asked outs f body x a
  content_other (content.Data destination number kind) x = data_stands c r r2 asked outs f destination number kind x a

  checked_other : (answer : ClassAnswer) → Checked c r f answer asked outs r2 → r2.standing a ≡ r.standing a
  checked_other Permitted x = content_other f.content x
  checked_other (Deauthenticate reason) x = x.stays.standing a
  checked_other (Disassociate reason) x = x.stays.standing a

-- ---- the station itself

-- class 1 is always permitted, and class 2 from a known station
class_one : (s : Standing) → class_answer s One ≡ Permitted
class_one None = refl
class_one (Some known.Authenticated) = refl
class_one (Some (known.Associated n)) = refl

class_two : (s : Standing) → (class_answer s Two ≡ Permitted → ⊥) → s ≡ None
class_two None not = refl
class_two (Some known.Authenticated) not = absurd (not refl)
class_two (Some (known.Associated n)) not = absurd (not refl)

module _ (c : Rules) (e : Entry) (r r2 : Readings) (f : Frame) (comes : ComesFrom c e f.sender f) where
  -- a frame that isn't an exchange
  no_exchange : (body : Content) → f.content ≡ body → exchange_of body ≡ 0 → r2.standing f.sender ≡ r.standing f.sender → Led c e f.sender (r.standing f.sender) (r2.standing f.sender)
  no_exchange body is none same = as_before (λ x at. some_number x (sym (exchange_number c e f.sender f comes f.sender x at) ∙ ap exchange_of is ∙ none)) same

  turned : (repeated : Bool) (status : ℕ) → exchange_of f.content ≡ 2 → status ≢ 0 → status < 65536 → e.outs ≡ association_answer c f.sender repeated status 0 ∷ [] → Stays r r2 → Led c e f.sender (r.standing f.sender) (r2.standing f.sender)
  turned repeated status kind bad small outs stays =
      as_before (refused_association c e f comes repeated status 0 kind bad small outs) (stays.standing f.sender)

  association_own : (q : Request) (body : Content) → f.content ≡ body → IsRequest q.again body → exchange_of body ≡ 2 → Associates c r f.sender q e.asked e.outs r2 → Led c e f.sender (r.standing f.sender) (r2.standing f.sender)
  association_own q body is request kind (unsuited not x) = turned q.again 10 (ap exchange_of is ∙ kind) (λ z. omega arith) (omega arith) x.settles.is x.stays
  association_own q body is request kind (elsewhere suits not x) = turned q.again 12 (ap exchange_of is ∙ kind) (λ z. omega arith) (omega arith) x.settles.is x.stays
  association_own q body is request kind (exhausted suits names none x) = turned q.again 17 (ap exchange_of is ∙ kind) (λ z. omega arith) (omega arith) x.settles.is x.stays
  association_own q body is request kind (admitted verdict suits names x) =
      exchanged (Associated x.identifier) (association f q.again x.identifier comes (subst (IsRequest q.again) (sym is) request) x.free.own x.is) (moved_here r r2 f.sender _ x.moves)
  association_own q body is request kind (refused verdict suits names x) = turned q.again (association_status verdict) (ap exchange_of is ∙ kind) x.refuses (small_status verdict) x.is x.stays

  authentication_own : (bssid : List ℕ) (sequence algorithm transaction status : ℕ) → f.content ≡ content.Management bssid sequence (management.Authentication algorithm transaction status) →
      Authenticates c r f.sender algorithm transaction e.asked e.outs r2 → Led c e f.sender (r.standing f.sender) (r2.standing f.sender)
  authentication_own bssid sequence algorithm transaction status is (accepts fine settles moves) =
      exchanged Authenticated (authentication f bssid sequence algorithm transaction status comes is settles.is) (moved_here r r2 f.sender _ moves)
  authentication_own bssid sequence algorithm transaction status is (refuses n bad because answers) =
      as_before (refused_authentication c e f comes algorithm n (ap exchange_of is) bad (refusal_is_small r f.sender algorithm transaction because) answers.settles.is) (answers.stays.standing f.sender)

  management_own : (bssid : List ℕ) (sequence : ℕ) (body : Management) → f.content ≡ content.Management bssid sequence body → ManagementComes c r f body e.asked e.outs r2 → Led c e f.sender (r.standing f.sender) (r2.standing f.sender)
  management_own bssid sequence (management.Authentication algorithm transaction status) is x = authentication_own bssid sequence algorithm transaction status is x
  management_own bssid sequence (management.AssociationRequest capability interval) is x =
      association_own (record { frame = f; capability = capability; listen_interval = interval; again = false }) _ is (first bssid sequence capability interval) refl x
  management_own bssid sequence (management.ReassociationRequest capability interval current) is x =
      association_own (record { frame = f; capability = capability; listen_interval = interval; again = true }) _ is (again bssid sequence capability interval current) refl x
  management_own bssid sequence (management.Disassociation reason) is x = exchanged Disassociated (disassociation f bssid sequence reason comes is) (moved_here r r2 f.sender _ x.moves)
  management_own bssid sequence (management.Deauthentication reason) is x = exchanged Deauthenticated (deauthentication f bssid sequence reason comes is) (moved_here r r2 f.sender _ x.moves)
  management_own bssid sequence (management.AddbaRequest token parameters timeout start) is x = no_exchange _ is refl (setup_stands c r r2 e.asked e.outs f.sender _ x f.sender)
  management_own bssid sequence (management.Delba parameters reason) is x = no_exchange _ is refl (delba_stands c r r2 e.asked e.outs f.sender parameters.initiator parameters.tid x f.sender)
  management_own bssid sequence (management.AssociationResponse capability status aid) is x = no_exchange _ is refl (x.stays.standing f.sender)
  management_own bssid sequence (management.ReassociationResponse capability status aid) is x = no_exchange _ is refl (x.stays.standing f.sender)
  management_own bssid sequence (management.AddbaResponse token status parameters timeout) is x = no_exchange _ is refl (x.stays.standing f.sender)

  content_own : (body : Content) → f.content ≡ body → Follows c r f body e.asked e.outs r2 → Led c e f.sender (r.standing f.sender) (r2.standing f.sender)
  content_own (content.Management bssid sequence body) is x = management_own bssid sequence body is x
  content_own (content.Control body) is x = no_exchange _ is refl (control_stands c r r2 e.asked e.outs f body x f.sender)
  content_own (content.Data destination number kind) is x = no_exchange _ is refl (data_stands c r r2 e.asked e.outs f destination number kind x f.sender)

  -- a frame whose class isn't permitted: a disassociation from an unknown station leaves it unknown
  module _ (not : check_of c r f ≡ Permitted → ⊥) (outs : (repeated : Bool) (n : ℕ) → e.outs ≡ association_answer c f.sender repeated 0 (aid_field n) ∷ [] → ⊥) (same : r2.standing f.sender ≡ r.standing f.sender) where
    rejected_management : (bssid : List ℕ) (sequence : ℕ) (body : Management) → f.content ≡ content.Management bssid sequence body → Led c e f.sender (r.standing f.sender) (r2.standing f.sender)
    rejected_management bssid sequence (management.Authentication algorithm transaction status) is = absurd (not (ap (λ x. class_answer (r.standing f.sender) (class_of (content_subtype x))) is ∙ class_one (r.standing f.sender)))
    rejected_management bssid sequence (management.AssociationRequest capability interval) is = as_before (no_association c e f comes (ap exchange_of is) outs) same
    rejected_management bssid sequence (management.ReassociationRequest capability interval current) is = as_before (no_association c e f comes (ap exchange_of is) outs) same
    rejected_management bssid sequence (management.Disassociation reason) is =
        let unknown : r.standing f.sender ≡ None =
        class_two (r.standing f.sender) (λ may. not (ap (λ x. class_answer (r.standing f.sender) (class_of (content_subtype x))) is ∙ may)) in
        exchanged Disassociated (disassociation f bssid sequence reason comes is) (same ∙ unknown ∙ ap disassociated (sym unknown))
    rejected_management bssid sequence (management.Deauthentication reason) is = absurd (not (ap (λ x. class_answer (r.standing f.sender) (class_of (content_subtype x))) is ∙ class_one (r.standing f.sender)))
    rejected_management bssid sequence (management.AddbaRequest token parameters timeout start) is = no_exchange _ is refl same
    rejected_management bssid sequence (management.Delba parameters reason) is = no_exchange _ is refl same
    rejected_management bssid sequence (management.AssociationResponse capability status aid) is = no_exchange _ is refl same
    rejected_management bssid sequence (management.ReassociationResponse capability status aid) is = no_exchange _ is refl same
    rejected_management bssid sequence (management.AddbaResponse token status parameters timeout) is = no_exchange _ is refl same

    rejected : (body : Content) → f.content ≡ body → Led c e f.sender (r.standing f.sender) (r2.standing f.sender)
    rejected (content.Management bssid sequence body) is = rejected_management bssid sequence body is
    rejected (content.Control body) is = no_exchange _ is refl same
    rejected (content.Data destination number kind) is = no_exchange _ is refl same

  checked_own : (answer : ClassAnswer) → check_of c r f ≡ answer → Checked c r f answer e.asked e.outs r2 → Led c e f.sender (r.standing f.sender) (r2.standing f.sender)
  checked_own Permitted is x = content_own f.content refl x
  checked_own (Deauthenticate reason) is x =
      rejected (λ may. not_deauthenticated reason (sym may ∙ is)) (λ repeated n at. deauthentication_is_no_answer c f.sender reason repeated 0 (aid_field n) (sym x.settles.is ∙ at)) (x.stays.standing f.sender) f.content refl
  checked_own (Disassociate reason) is x =
      rejected (λ may. not_disassociated reason (sym may ∙ is)) (λ repeated n at. disassociation_is_no_answer c f.sender reason repeated 0 (aid_field n) (sym x.settles.is ∙ at)) (x.stays.standing f.sender) f.content refl

-- ---- all events

module _ (c : Rules) (e : Entry) (r r2 : Readings) (a : List ℕ) where
  -- without a frame for this access point and without a kick there is no exchange
  none_of_it : ((f : Frame) → ComesFrom c e a f → ⊥) → ((reason : ℕ) → e.event ≡ event.Kick a reason → ⊥) → (x : Exchange) → IsExchange c e a x → ⊥
  none_of_it no_frame no_kick x (authentication f bssid sequence algorithm transaction status comes is outs) = no_frame f comes
  none_of_it no_frame no_kick x (association f repeated n comes is own outs) = no_frame f comes
  none_of_it no_frame no_kick x (disassociation f bssid sequence reason comes is) = no_frame f comes
  none_of_it no_frame no_kick x (deauthentication f bssid sequence reason comes is) = no_frame f comes
  none_of_it no_frame no_kick x (kick reason is) = no_kick reason is

  frame_stands : (bytes : List ℕ) → e.event ≡ event.Frame bytes → FrameComes c r bytes e.asked e.outs r2 → Led c e a (r.standing a) (r2.standing a)
  frame_stands bytes is (faulty fault at answers) =
      as_before
      (none_of_it (λ f comes. none-some fault (sym (fault_free f comes.grammar) ∙ ap first_fault (bytes_of (spelling f) bytes (sym comes.came ∙ is)) ∙ at)) (λ reason k. frame_no_kick bytes a reason e.event is k))
      (answers.stays.standing a)
  frame_stands bytes is (foreign f grammar at not answers) =
      as_before
      (none_of_it
      (λ h comes. let P : Frame → Type 0 = λ x. IsOurs c x in not (subst P (alone h f comes.grammar grammar (bytes_of (spelling h) bytes (sym comes.came ∙ is) ∙ at)) comes.for_us))
      (λ reason k. frame_no_kick bytes a reason e.event is k))
      (answers.stays.standing a)
  frame_stands bytes is (ours f grammar at us checked) =
      let comes : ComesFrom c e f.sender f = record { grammar = grammar; came = is ∙ ap event.Frame at; for_us = us; sender = refl } in
      ⊎_elim
      (λ same.
      let P : List ℕ → Type 0 = λ x. Led c e x (r.standing x) (r2.standing x) in
      subst P same.1 (checked_own c e r r2 f comes (check_of c r f) refl checked))
      (λ differ.
      as_before
      (none_of_it (λ h from. differ.1 (same_sender c e f.sender a f h comes from)) (λ reason k. frame_no_kick bytes a reason e.event is k))
      (checked_other c r r2 e.asked e.outs f a differ.1 (check_of c r f) checked))
      (address_tells f.sender a)

  kicked_here : (reason : ℕ) → Kicks c r a reason e.asked e.outs r2 → r2.standing a ≡ None
  kicked_here reason (kicked some settles moves) = moved_here r r2 a None moves
  kicked_here reason (not_kicked unknown answers) = answers.stays.standing a ∙ unknown

  pub event_stands : (v : Event) → e.event ≡ v → Step c r v e.asked e.outs r2 → Led c e a (r.standing a) (r2.standing a)
  event_stands (event.Frame bytes) is step = frame_stands bytes is step
  event_stands (event.Tick n) is step =
      as_before (none_of_it (λ f comes. frame_no_tick (spelling f) n e.event comes.came is) (λ reason k. tick_no_kick n a reason e.event is k)) (step.standing a)
  event_stands (event.Kick b reason) is step =
      ⊎_elim
      (λ same.
      let P : List ℕ → Type 0 = λ y. e.event ≡ event.Kick y reason in
      let Q : List ℕ → Type 0 = λ y. Kicks c r y reason e.asked e.outs r2 in
      exchanged Deauthenticated (kick reason (subst P same.1 is)) (kicked_here reason (subst Q same.1 step)))
      (λ differ.
      as_before
      (none_of_it (λ f comes. frame_no_kick (spelling f) b reason e.event comes.came is) (λ again k. differ.1 (kicked_one b a reason again (sym is ∙ k))))
      (kick_other c r r2 b a differ.1 e.asked e.outs reason step))
      (address_tells b a)
  event_stands (event.Close b tid) is step =
      as_before
      (none_of_it (λ f comes. frame_no_close (spelling f) b tid e.event comes.came is) (λ reason k. kick_no_close a reason b tid e.event k is))
      (close_stands c r r2 e.asked e.outs b tid step a)
