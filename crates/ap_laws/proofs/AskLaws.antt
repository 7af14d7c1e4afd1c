-- A step has at most one query, and a judge lists its queries.
use Rattle.std.proofs.Common.{◌≡◌, ℕ, Bool, true, false, None, Some, List, [], ◌∷◌, ◌++◌, refl, sym, ap, ◌∙◌, subst, append_assoc}
use Rattle.std.proofs.lemmas.List.{append-nil}
use Rattle.mac_frame.specs.declared.content.Management.{Management}
use Rattle.mac_frame.specs.declared.content.Management.TheVariants as management
use Rattle.mac_frame.specs.declared.content.Control.{Control}
use Rattle.mac_frame.specs.declared.content.Control.TheVariants as control
use Rattle.mac_frame.specs.declared.content.DataKind.{DataKind}
use Rattle.mac_frame.specs.declared.content.DataKind.TheVariants as kinds
use Rattle.mac_frame.specs.declared.content.Content.{Content}
use Rattle.mac_frame.specs.declared.content.Content.TheVariants as content
use Rattle.mac_frame.specs.Spelling.{Frame, IsFrame, spelling}
use Rattle.assoc.specs.declared.class.ClassAnswer.{ClassAnswer}
use Rattle.assoc.specs.declared.class.ClassAnswer.TheVariants.{Permitted, Deauthenticate, Disassociate}
use Rattle.ap_model.specs.declared.event.Event.{Event}
use Rattle.ap_model.specs.declared.event.Event.TheVariants as event
use Rattle.ap_model.specs.declared.event.Out.{Out}
use Rattle.ap_model.specs.Asks.{Ask}
use Rattle.ap_model.specs.Readings.{Readings, Rules}
use Rattle.ap_model.specs.Associations.{Request, Authenticates, accepts, refuses, Associates, unsuited, elsewhere, exhausted, admitted, refused}
use Rattle.ap_model.specs.Agreements.{Packet, DataComes, plain, taken, left, RequestComes, unagreed, agreed, Setup, SetsUp, delayed, declined, granted}
use Rattle.ap_model.specs.Steps.{FrameComes, faulty, foreign, ours, IsOurs, Checked, check_of, Follows, ManagementComes, ControlComes, DataKindComes, DelbaComes, Kicks, kicked, not_kicked, Closes, closed, not_closed}
use Rattle.ap_laws.specs.Exchanges.{IsRequest}
use Rattle.ap_laws.specs.Exchanges.IsRequest.{first, again}
use Rattle.ap_laws.specs.Origins.{Carries}
use Rattle.ap_laws.specs.Origins.Carries.{plain as plain_data, with_qos}
use Rattle.ap_laws.specs.Asking.{IsAskOf, of_association, of_setup, of_data, AsksOnce, asks_nothing, asks_one, StepsAskOnce, ListsAsks}

-- ---- a step

module _ (c : Rules) (r : Readings) (e : Event) (asked : List (Ask × ℕ)) (outs : List Out) (r2 : Readings) where
  silent : asked ≡ [] → AsksOnce c r e asked
  silent is = subst (λ (l : List (Ask × ℕ)). AsksOnce c r e l) (sym is) asks_nothing

  module _ (f : Frame) (grammar : IsFrame f) (came : e ≡ event.Frame (spelling f)) (for_us : IsOurs c f) where
    one : (ask : Ask) (verdict : ℕ) → asked ≡ (ask, verdict) ∷ [] → IsAskOf r f ask → AsksOnce c r e asked
    one ask verdict is about =
        subst (λ (l : List (Ask × ℕ)). AsksOnce c r e l) (sym is)
        (asks_one ask verdict (record { frame = f; grammar = grammar; came = came; for_us = for_us; is = about }))

    authentication_asks : (algorithm transaction : ℕ) → Authenticates c r f.sender algorithm transaction asked outs r2 → AsksOnce c r e asked
    authentication_asks algorithm transaction (accepts status settles moved) = silent settles.silent
    authentication_asks algorithm transaction (refuses status other is answers) = silent answers.settles.silent

    association_asks : (q : Request) → q.frame ≡ f → IsRequest q.again f.content → Associates c r f.sender q asked outs r2 → AsksOnce c r e asked
    association_asks q same request (unsuited not answers) = silent answers.settles.silent
    association_asks q same request (elsewhere suits not answers) = silent answers.settles.silent
    association_asks q same request (exhausted suits names none answers) = silent answers.settles.silent
    association_asks q same request (admitted verdict suits names admits) = one _ verdict admits.asks (of_association q same request)
    association_asks q same request (refused verdict suits names turned) = one _ verdict turned.asks (of_association q same request)

    delba_asks : (initiator : Bool) (tid : ℕ) → DelbaComes c r f.sender initiator tid asked outs r2 → AsksOnce c r e asked
    delba_asks true tid ended = silent ended.settles.silent
    delba_asks false tid nothing = silent nothing.settles.silent

    setup_asks : (s : Setup) (bssid : List ℕ) (sequence : ℕ) → s.frame ≡ f →
        f.content ≡ content.Management bssid sequence (management.AddbaRequest s.token s.parameters s.timeout s.start) →
        SetsUp c r f.sender s asked outs r2 → AsksOnce c r e asked
    setup_asks s bssid sequence same is (delayed policy answers) = silent answers.settles.silent
    setup_asks s bssid sequence same is (declined verdict policy declines) = one _ verdict declines.asks (of_setup s bssid sequence same is policy)
    setup_asks s bssid sequence same is (granted verdict policy grants) = one _ verdict grants.asks (of_setup s bssid sequence same is policy)

    management_asks : (bssid : List ℕ) (sequence : ℕ) (body : Management) → f.content ≡ content.Management bssid sequence body → ManagementComes c r f body asked outs r2 → AsksOnce c r e asked
    management_asks bssid sequence (management.Authentication algorithm transaction status) is comes = authentication_asks algorithm transaction comes
    management_asks bssid sequence (management.AssociationRequest capability interval) is comes =
        association_asks (record { frame = f; capability = capability; listen_interval = interval; again = false }) refl
        (subst (λ (x : Content). IsRequest false x) (sym is) (first bssid sequence capability interval)) comes
    management_asks bssid sequence (management.ReassociationRequest capability interval current) is comes =
        association_asks (record { frame = f; capability = capability; listen_interval = interval; again = true }) refl
        (subst (λ (x : Content). IsRequest true x) (sym is) (again bssid sequence capability interval current)) comes
    management_asks bssid sequence (management.Disassociation reason) is comes = silent comes.settles.silent
    management_asks bssid sequence (management.Deauthentication reason) is comes = silent comes.settles.silent
    management_asks bssid sequence (management.AddbaRequest token parameters timeout start) is comes =
        setup_asks (record { frame = f; token = token; parameters = parameters; timeout = timeout; start = start }) bssid sequence refl is comes
    management_asks bssid sequence (management.Delba parameters reason) is comes = delba_asks parameters.initiator parameters.tid comes
    management_asks bssid sequence (management.AssociationResponse capability status aid) is comes = silent comes.settles.silent
    management_asks bssid sequence (management.ReassociationResponse capability status aid) is comes = silent comes.settles.silent
    management_asks bssid sequence (management.AddbaResponse token status parameters timeout) is comes = silent comes.settles.silent

    request_asks : (tid start : ℕ) → RequestComes c r f.sender tid start asked outs r2 → AsksOnce c r e asked
    request_asks tid start (unagreed none nothing) = silent nothing.settles.silent
    request_asks tid start (agreed u is report) = silent report.settles.silent

    control_asks : (body : Control) → ControlComes c r f body asked outs r2 → AsksOnce c r e asked
    control_asks (control.BlockAckReq tid start) comes = request_asks tid start comes
    control_asks (control.BlockAck tid start bitmap) comes = silent comes.settles.silent

    packet_asks : (p : Packet) (kind : DataKind) → p.frame ≡ f → f.content ≡ content.Data p.destination p.number kind → Carries kind p.tid →
        DataComes r f.sender p asked outs r2 → AsksOnce c r e asked
    packet_asks p kind same is carries (plain delivery) = one _ delivery.verdict delivery.asks (of_data p kind same is carries)
    packet_asks p kind same is carries (taken tid u at_tid at taking) = one _ taking.verdict taking.asks (of_data p kind same is carries)
    packet_asks p kind same is carries (left tid u at_tid at leaving) = silent leaving.settles.silent

    data_asks : (destination : List ℕ) (number : ℕ) (kind : DataKind) → f.content ≡ content.Data destination number kind → DataKindComes c r f destination number kind asked outs r2 → AsksOnce c r e asked
    data_asks destination number kinds.Data is comes =
        packet_asks (record { frame = f; destination = destination; tid = None; number = number }) kinds.Data refl is plain_data comes
    data_asks destination number (kinds.QosData qos) is comes =
        packet_asks (record { frame = f; destination = destination; tid = Some qos.tid; number = number }) (kinds.QosData qos) refl is (with_qos qos) comes
    data_asks destination number kinds.Null is comes = silent comes.settles.silent
    data_asks destination number (kinds.QosNull qos) is comes = silent comes.settles.silent

    content_asks : (body : Content) → f.content ≡ body → Follows c r f body asked outs r2 → AsksOnce c r e asked
    content_asks (content.Management bssid sequence body) is follows = management_asks bssid sequence body is follows
    content_asks (content.Control body) is follows = control_asks body follows
    content_asks (content.Data destination sequence kind) is follows = data_asks destination sequence kind is follows

    checked_asks : (answer : ClassAnswer) → Checked c r f answer asked outs r2 → AsksOnce c r e asked
    checked_asks Permitted follows = content_asks f.content refl follows
    checked_asks (Deauthenticate reason) answers = silent answers.settles.silent
    checked_asks (Disassociate reason) answers = silent answers.settles.silent

  frame_asks : (bytes : List ℕ) → e ≡ event.Frame bytes → FrameComes c r bytes asked outs r2 → AsksOnce c r e asked
  frame_asks bytes came (faulty fault is answers) = silent answers.settles.silent
  frame_asks bytes came (foreign f grammar is not answers) = silent answers.settles.silent
  frame_asks bytes came (ours f grammar is for_us checked) = checked_asks f grammar (came ∙ ap event.Frame is) for_us (check_of c r f) checked

  kick_asks : (a : List ℕ) (reason : ℕ) → Kicks c r a reason asked outs r2 → AsksOnce c r e asked
  kick_asks a reason (kicked known settles moved) = silent settles.silent
  kick_asks a reason (not_kicked unknown answers) = silent answers.settles.silent

  close_asks : (a : List ℕ) (tid : ℕ) → Closes c r a tid asked outs r2 → AsksOnce c r e asked
  close_asks a tid (closed known ended) = silent ended.settles.silent
  close_asks a tid (not_closed unknown answers) = silent answers.settles.silent

pub steps_ask_once : StepsAskOnce
steps_ask_once c r r2 (event.Frame bytes) asked outs step = frame_asks c r (event.Frame bytes) asked outs r2 bytes refl step
steps_ask_once c r r2 (event.Tick n) asked outs step = silent c r (event.Tick n) asked outs r2 step.silent
steps_ask_once c r r2 (event.Kick a reason) asked outs step = kick_asks c r (event.Kick a reason) asked outs r2 a reason step
steps_ask_once c r r2 (event.Close a tid) asked outs step = close_asks c r (event.Close a tid) asked outs r2 a tid step

-- ---- a judge

pub lists_asks : {S : Type 0} (asks : S → List (Ask × ℕ)) (R : S → Ask → ℕ → S → Type 0) → ((p p2 : S) (q : Ask) (a : ℕ) → R p q a p2 → asks p2 ≡ asks p ++ (q, a) ∷ []) → ListsAsks asks R
lists_asks asks R lists p p2 [] e = ap asks e ∙ sym (append-nil (asks p))
lists_asks asks R lists p p2 (x ∷ asked) h =
    lists_asks asks R lists h.0 p2 asked h.2 ∙ ap (λ (t : List (Ask × ℕ)). t ++ asked) (lists p h.0 x.0 x.1 h.1) ∙ append_assoc (asks p) (x ∷ []) asked
