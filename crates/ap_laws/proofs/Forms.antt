-- The forms that a step may have: what changes, and the origin of what is passed up.
use Rattle.std.proofs.Common.{◌≡◌, ℕ, ⊎_elim, Bool, true, false, None, Some, List, [], ◌∷◌, refl, sym, ap, ◌∙◌, subst}
use Rattle.std.specs.Prelude.{Contains}
use Rattle.std.proofs.lemmas.List.Elements.{Contains-push_cases}
use Rattle.mac_frame.specs.declared.content.Management.{Management}
use Rattle.mac_frame.specs.declared.content.Management.TheVariants as management
use Rattle.mac_frame.specs.declared.content.Control.{Control}
use Rattle.mac_frame.specs.declared.content.Control.TheVariants as control
use Rattle.mac_frame.specs.declared.content.DataKind.{DataKind}
use Rattle.mac_frame.specs.declared.content.DataKind.TheVariants as kinds
use Rattle.mac_frame.specs.declared.content.Content.{Content}
use Rattle.mac_frame.specs.declared.content.Content.TheVariants as content
use Rattle.mac_frame.specs.Spelling.{Frame, IsFrame, spelling, content_subtype}
use Rattle.assoc.specs.declared.class.Class.TheVariants.{Three}
use Rattle.assoc.specs.declared.class.ClassAnswer.{ClassAnswer}
use Rattle.assoc.specs.declared.class.ClassAnswer.TheVariants.{Permitted, Deauthenticate, Disassociate}
use Rattle.assoc.specs.Classes.{class_of, class_answer}
use Rattle.assoc.specs.declared.standing.Known.TheVariants.{Authenticated, Associated}
use Rattle.assoc.specs.Standings.{Standing, state_of, disassociated}
use Rattle.blockack.specs.Reading.{Reading}
use Rattle.ap_model.specs.declared.event.Event.{Event}
use Rattle.ap_model.specs.declared.event.Event.TheVariants as event
use Rattle.ap_model.specs.declared.event.Out.{Out}
use Rattle.ap_model.specs.declared.event.Out.TheVariants as out
use Rattle.ap_model.specs.declared.event.Up.{Up}
use Rattle.ap_model.specs.Asks.{Ask}
use Rattle.ap_model.specs.Readings.{Readings, Rules, Using, Held}
use Rattle.ap_model.specs.Changes.{Stays, Moves, Nothing, Answers}
use Rattle.ap_model.specs.Associations.{Authenticates, accepts, refuses, Associates, unsuited, elsewhere, exhausted, admitted, refused, Request}
use Rattle.ap_model.specs.Agreements.{Packet, Delivers, Takes, Leaves, DataComes, plain, taken, left, RequestComes, unagreed, agreed, Reports, Ends, SetsUp, delayed, declined, granted, Setup, Grants, setup_answer, block_ack, delba}
use Rattle.ap_model.specs.Steps.{Step, FrameComes, faulty, foreign, ours, IsOurs, Checked, check_of, Follows, ManagementComes, ControlComes, DataKindComes, DelbaComes, Ticks, Kicks, kicked, not_kicked, Closes, closed, not_closed}
use Rattle.ap_laws.specs.Origins.{IsAssociated, Carries}
use Rattle.ap_laws.specs.Origins.Carries.{plain as plain_data, with_qos}
use Rattle.blockack.proofs.BelowLaws.{none_in_none}

-- no data is passed up
abbrev pub NoUp : List Out → Type 0
NoUp outs = (d : Up) → Contains outs (out.Up d) → ⊥

pub none_up : NoUp []
none_up d p = none_in_none (out.Up d) p

pub one_send : (bytes : List ℕ) (d : Up) → Contains (out.Send bytes ∷ []) (out.Up d) → ⊥
one_send bytes d p = ⊎_elim (λ none. none_in_none (out.Up d) none) (λ e. let f : out.Send bytes ≡ out.Up d = e in absurd cc) (Contains-push_cases [] (out.Send bytes) (out.Up d) p)

pub one_note : (n : ℕ) (d : Up) → Contains (out.Note n ∷ []) (out.Up d) → ⊥
one_note n d p = ⊎_elim (λ none. none_in_none (out.Up d) none) (λ e. let f : out.Note n ≡ out.Up d = e in absurd cc) (Contains-push_cases [] (out.Note n) (out.Up d) p)

-- a response alone passes nothing up
pub no_up_in_answer : (c : Rules) (a : List ℕ) (s : Setup) (status size : ℕ) → NoUp (setup_answer c a s status size ∷ [])
no_up_in_answer c a s status size = one_send _

pub no_up_in_block_ack : (c : Rules) (a : List ℕ) (tid : ℕ) (v : Reading Held) → NoUp (block_ack c a tid v ∷ [])
no_up_in_block_ack c a tid v = one_send _

pub no_up_in_delba : (c : Rules) (a : List ℕ) (tid reason : ℕ) → NoUp (delba c a tid reason ∷ [])
no_up_in_delba c a tid reason = one_send _

pub no_up_of : (outs effects : List Out) → outs ≡ effects → NoUp effects → NoUp outs
no_up_of outs effects is none = subst NoUp (sym is) none

pub one_sent : (outs : List Out) (bytes : List ℕ) → outs ≡ out.Send bytes ∷ [] → NoUp outs
one_sent outs bytes is = no_up_of outs (out.Send bytes ∷ []) is (one_send bytes)

-- the packet of a received frame
pub record IsPacket (c : Rules) (e : Event) (f : Frame) (p : Packet) : Type 0 where
  pub grammar : IsFrame f
  pub came : e ≡ event.Frame (spelling f)
  pub for_us : IsOurs c f
  pub kind : DataKind
  pub content : f.content ≡ content.Data p.destination p.number kind
  pub carries : Carries kind p.tid
  pub frame : p.frame ≡ f

pub data Form (c : Rules) (r : Readings) (e : Event) (asked : List (Ask × ℕ)) (outs : List Out) (r2 : Readings) : Type 0 where
  quiet : NoUp outs → Stays r r2 → Form c r e asked outs r2
  moves : (a : List ℕ) (s : Standing) → NoUp outs → Moves r a s r2 → Form c r e asked outs r2
  delivers : (f : Frame) (p : Packet) → IsPacket c e f p → IsAssociated f.sender r → Delivers r f.sender p asked outs r2 → Form c r e asked outs r2
  takes : (f : Frame) (p : Packet) (tid : ℕ) (u : Using) → IsPacket c e f p → p.tid ≡ Some tid → r.agreement f.sender tid ≡ Some u → Takes r f.sender p tid u asked outs r2 → Form c r e asked outs r2
  leaves : (f : Frame) (p : Packet) (tid : ℕ) (u : Using) → IsPacket c e f p → p.tid ≡ Some tid → r.agreement f.sender tid ≡ Some u → Leaves r f.sender p tid u asked outs r2 → Form c r e asked outs r2
  reports : (a : List ℕ) (tid start : ℕ) (u : Using) → r.agreement a tid ≡ Some u → Reports c r a tid start u asked outs r2 → Form c r e asked outs r2
  ends : (a : List ℕ) (tid : ℕ) (last : List Out) → NoUp last → Ends r a tid last asked outs r2 → Form c r e asked outs r2
  grants : (a : List ℕ) (s : Setup) (verdict : ℕ) → IsAssociated a r → Grants c r a s verdict asked outs r2 → Form c r e asked outs r2
  ticks : (n : ℕ) → e ≡ event.Tick n → Ticks c r n asked outs r2 → Form c r e asked outs r2

-- ---- the class check

not_three : (s : Standing) → class_answer s Three ≡ Permitted → state_of s ≡ 3
not_three None e = absurd (let f : Deauthenticate 7 ≡ Permitted = e in cc)
not_three (Some Authenticated) e = absurd (let f : Disassociate 7 ≡ Permitted = e in cc)
not_three (Some (Associated n)) e = refl

data_is_three : (d : List ℕ) (n : ℕ) (kind : DataKind) → class_of (content_subtype (content.Data d n kind)) ≡ Three
data_is_three d n kinds.Data = refl
data_is_three d n kinds.Null = refl
data_is_three d n (kinds.QosData qos) = refl
data_is_three d n (kinds.QosNull qos) = refl

-- a permitted frame of class 3 comes from an associated station
pub permitted_three : (c : Rules) (r : Readings) (f : Frame) (body : Content) → check_of c r f ≡ Permitted → f.content ≡ body → class_of (content_subtype body) ≡ Three → IsAssociated f.sender r
permitted_three c r f body permitted is three =
    not_three (r.standing f.sender) (ap (class_answer (r.standing f.sender)) (sym three ∙ ap (λ x. class_of (content_subtype x)) (sym is)) ∙ permitted)

module _ (c : Rules) (r : Readings) (e : Event) (asked : List (Ask × ℕ)) (outs : List Out) (r2 : Readings) where
  nothing_form : Nothing r asked outs r2 → Form c r e asked outs r2
  nothing_form n = quiet (no_up_of outs [] n.settles.is none_up) n.stays

  send_form : (bytes : List ℕ) → Answers (out.Send bytes) r asked outs r2 → Form c r e asked outs r2
  send_form bytes a = quiet (one_sent outs bytes a.settles.is) a.stays

  note_form : (n : ℕ) → Answers (out.Note n) r asked outs r2 → Form c r e asked outs r2
  note_form n a = quiet (no_up_of outs (out.Note n ∷ []) a.settles.is (one_note n)) a.stays

  authentication_form : (a : List ℕ) (algorithm transaction : ℕ) → Authenticates c r a algorithm transaction asked outs r2 → Form c r e asked outs r2
  authentication_form a algorithm transaction (accepts status settles moved) = moves a (Some Authenticated) (one_sent outs _ settles.is) moved
  authentication_form a algorithm transaction (refuses status other is answers) = send_form _ answers

  association_form : (a : List ℕ) (q : Request) → Associates c r a q asked outs r2 → Form c r e asked outs r2
  association_form a q (unsuited not answers) = send_form _ answers
  association_form a q (elsewhere suits not answers) = send_form _ answers
  association_form a q (exhausted suits names none answers) = send_form _ answers
  association_form a q (admitted verdict suits names admits) = moves a (Some (Associated admits.identifier)) (one_sent outs _ admits.is) admits.moves
  association_form a q (refused verdict suits names turned) = quiet (one_sent outs _ turned.is) turned.stays

  delba_form : (a : List ℕ) (initiator : Bool) (tid : ℕ) → DelbaComes c r a initiator tid asked outs r2 → Form c r e asked outs r2
  delba_form a true tid ended = ends a tid [] none_up ended
  delba_form a false tid nothing = nothing_form nothing

  setup_form : (a : List ℕ) (s : Setup) → IsAssociated a r → SetsUp c r a s asked outs r2 → Form c r e asked outs r2
  setup_form a s associated (delayed is answers) = send_form _ answers
  setup_form a s associated (declined verdict is declines) = quiet (one_sent outs _ declines.is) declines.stays
  setup_form a s associated (granted verdict is granting) = grants a s verdict associated granting

  module _ (f : Frame) (grammar : IsFrame f) (came : e ≡ event.Frame (spelling f)) (for_us : IsOurs c f) (permitted : check_of c r f ≡ Permitted) where
    management_form : (bssid : List ℕ) (sequence : ℕ) (body : Management) → f.content ≡ content.Management bssid sequence body → ManagementComes c r f body asked outs r2 → Form c r e asked outs r2
    management_form bssid sequence (management.Authentication algorithm transaction status) is comes = authentication_form f.sender algorithm transaction comes
    management_form bssid sequence (management.AssociationRequest capability interval) is comes =
        association_form f.sender (record { frame = f; capability = capability; listen_interval = interval; again = false }) comes
    management_form bssid sequence (management.ReassociationRequest capability interval current) is comes =
        association_form f.sender (record { frame = f; capability = capability; listen_interval = interval; again = true }) comes
    management_form bssid sequence (management.Disassociation reason) is comes =
        moves f.sender (disassociated (r.standing f.sender)) (no_up_of outs [] comes.settles.is none_up) comes.moves
    management_form bssid sequence (management.Deauthentication reason) is comes = moves f.sender None (no_up_of outs [] comes.settles.is none_up) comes.moves
    management_form bssid sequence (management.AddbaRequest token parameters timeout start) is comes =
        setup_form f.sender (record { frame = f; token = token; parameters = parameters; timeout = timeout; start = start })
        (permitted_three c r f (content.Management bssid sequence (management.AddbaRequest token parameters timeout start)) permitted is refl) comes
    management_form bssid sequence (management.Delba parameters reason) is comes = delba_form f.sender parameters.initiator parameters.tid comes
    management_form bssid sequence (management.AssociationResponse capability status aid) is comes = nothing_form comes
    management_form bssid sequence (management.ReassociationResponse capability status aid) is comes = nothing_form comes
    management_form bssid sequence (management.AddbaResponse token status parameters timeout) is comes = nothing_form comes

    request_form : (a : List ℕ) (tid start : ℕ) → RequestComes c r a tid start asked outs r2 → Form c r e asked outs r2
    request_form a tid start (unagreed none nothing) = nothing_form nothing
    request_form a tid start (agreed u is report) = reports a tid start u is report

    control_form : (body : Control) → ControlComes c r f body asked outs r2 → Form c r e asked outs r2
    control_form (control.BlockAckReq tid start) comes = request_form f.sender tid start comes
    control_form (control.BlockAck tid start bitmap) comes = nothing_form comes

    packet_form : (p : Packet) → IsPacket c e f p → IsAssociated f.sender r → DataComes r f.sender p asked outs r2 → Form c r e asked outs r2
    packet_form p is associated (plain delivery) = delivers f p is associated delivery
    packet_form p is associated (taken tid u at_tid at taking) = takes f p tid u is at_tid at taking
    packet_form p is associated (left tid u at_tid at leaving) = leaves f p tid u is at_tid at leaving

    data_form : (destination : List ℕ) (number : ℕ) (kind : DataKind) → f.content ≡ content.Data destination number kind → DataKindComes c r f destination number kind asked outs r2 → Form c r e asked outs r2
    data_form destination number kinds.Data is comes =
        packet_form (record { frame = f; destination = destination; tid = None; number = number })
        (record { grammar = grammar; came = came; for_us = for_us; kind = kinds.Data; content = is; carries = plain_data; frame = refl })
        (permitted_three c r f (content.Data destination number kinds.Data) permitted is refl) comes
    data_form destination number (kinds.QosData qos) is comes =
        packet_form (record { frame = f; destination = destination; tid = Some qos.tid; number = number })
        (record { grammar = grammar; came = came; for_us = for_us; kind = kinds.QosData qos; content = is; carries = with_qos qos; frame = refl })
        (permitted_three c r f (content.Data destination number (kinds.QosData qos)) permitted is refl) comes
    data_form destination number kinds.Null is comes = nothing_form comes
    data_form destination number (kinds.QosNull qos) is comes = nothing_form comes

    content_form : (body : Content) → f.content ≡ body → Follows c r f body asked outs r2 → Form c r e asked outs r2
    content_form (content.Management bssid sequence body) is follows = management_form bssid sequence body is follows
    content_form (content.Control body) is follows = control_form body follows
    content_form (content.Data destination sequence kind) is follows = data_form destination sequence kind is follows

  checked_form : (f : Frame) → IsFrame f → e ≡ event.Frame (spelling f) → IsOurs c f → (answer : ClassAnswer) → check_of c r f ≡ answer → Checked c r f answer asked outs r2 → Form c r e asked outs r2
  checked_form f grammar came for_us Permitted is follows = content_form f grammar came for_us is f.content refl follows
  checked_form f grammar came for_us (Deauthenticate reason) is answers = send_form _ answers
  checked_form f grammar came for_us (Disassociate reason) is answers = send_form _ answers

  frame_form : (bytes : List ℕ) → e ≡ event.Frame bytes → FrameComes c r bytes asked outs r2 → Form c r e asked outs r2
  frame_form bytes came (faulty fault is answers) = note_form _ answers
  frame_form bytes came (foreign f grammar is not answers) = note_form _ answers
  frame_form bytes came (ours f grammar is for_us checked) = checked_form f grammar (came ∙ ap event.Frame is) for_us (check_of c r f) refl checked

  kick_form : (a : List ℕ) (reason : ℕ) → Kicks c r a reason asked outs r2 → Form c r e asked outs r2
  kick_form a reason (kicked known settles moved) = moves a None (one_sent outs _ settles.is) moved
  kick_form a reason (not_kicked unknown answers) = note_form _ answers

  close_form : (a : List ℕ) (tid : ℕ) → Closes c r a tid asked outs r2 → Form c r e asked outs r2
  close_form a tid (closed known ended) = ends a tid (delba c a tid 37 ∷ []) (one_send _) ended
  close_form a tid (not_closed unknown answers) = note_form _ answers

pub step_form : (c : Rules) (r : Readings) (e : Event) (asked : List (Ask × ℕ)) (outs : List Out) (r2 : Readings) → Step c r e asked outs r2 → Form c r e asked outs r2
step_form c r (event.Frame bytes) asked outs r2 step = frame_form c r (event.Frame bytes) asked outs r2 bytes refl step
step_form c r (event.Tick n) asked outs r2 step = ticks n refl step
step_form c r (event.Kick a reason) asked outs r2 step = kick_form c r (event.Kick a reason) asked outs r2 a reason step
step_form c r (event.Close a tid) asked outs r2 step = close_form c r (event.Close a tid) asked outs r2 a tid step
