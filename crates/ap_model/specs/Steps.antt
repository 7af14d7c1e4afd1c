-- The step of a shard at an event: one case for each rule of the link.
use Rattle.std.specs.Prelude.{◌≡◌, ℕ, ◌+◌, ◌-◌, ◌%◌, ◌^◌, ◌<◌, ◌≤◌, ◌↔◌, ◌⊎◌, min, Bool, true, false, Option, Some, None, IsSome, List, [], ◌∷◌, ◌++◌, slice_index, Contains, AllPairs}
use Rattle.std.specs.Ordering.{nat_cmp}
use Rattle.std.specs.declared.cmp.Ordering.TheVariants.{Less}
use Rattle.std.specs.Cmp.Lexicographic.{slice_cmp}
use Rattle.mac_frame.specs.declared.content.Management.{Management}
use Rattle.mac_frame.specs.declared.content.Management.TheVariants as management
use Rattle.mac_frame.specs.declared.content.Control.{Control}
use Rattle.mac_frame.specs.declared.content.Control.TheVariants as control
use Rattle.mac_frame.specs.declared.content.DataKind.{DataKind}
use Rattle.mac_frame.specs.declared.content.DataKind.TheVariants as kinds
use Rattle.mac_frame.specs.declared.content.Content.{Content}
use Rattle.mac_frame.specs.declared.content.Content.TheVariants as content
use Rattle.mac_frame.specs.declared.fault.Fault.{Fault}
use Rattle.mac_frame.specs.Faults.{first_fault, number_of_fault}
use Rattle.mac_frame.specs.Frames.{bssid_of, sent_management}
use Rattle.mac_frame.specs.Spelling.{Frame, IsFrame, spelling, content_subtype}
use Rattle.assoc.specs.declared.class.ClassAnswer.{ClassAnswer}
use Rattle.assoc.specs.declared.class.ClassAnswer.TheVariants.{Permitted, Deauthenticate, Disassociate}
use Rattle.assoc.specs.Classes.{class_of, class_answer}
use Rattle.assoc.specs.Standings.{disassociated}
use Rattle.ap_model.specs.declared.event.Event.{Event}
use Rattle.ap_model.specs.declared.event.Event.TheVariants as event
use Rattle.ap_model.specs.declared.event.Out.{Out}
use Rattle.ap_model.specs.declared.event.Out.TheVariants.{Note}
use Rattle.ap_model.specs.Asks.{Ask}
use Rattle.ap_model.specs.Readings.{Readings, Rules, Using}
use Rattle.ap_model.specs.Changes.{sends, Settles, Moves, Nothing, Answers}
use Rattle.ap_model.specs.Associations.{Authenticates, Associates, Departs}
use Rattle.ap_model.specs.Agreements.{DataComes, RequestComes, SetsUp, PassesHeld, Ends, delba}

-- the BSSID, if the frame names one, is this access point's
abbrev pub NamesBssid : List ℕ → Option (List ℕ) → Type 0
NamesBssid bssid None = Unit {0}
NamesBssid bssid (Some named) = named ≡ bssid

-- the frame is for this access point, and its sender isn't a group address (9.2.4.3)
pub record IsOurs (c : Rules) (f : Frame) : Type 0 where
  pub receiver : f.receiver ≡ c.config.bssid
  pub bssid : NamesBssid c.config.bssid (bssid_of f)
  pub single : slice_index f.sender 0 % 2 ≡ 0

-- a Disassociation with that reason (IEEE 802.11-2016, 9.3.3.5)
abbrev pub disassociation : Rules → List ℕ → ℕ → Out
disassociation c a reason = sends (sent_management a c.config.bssid (management.Disassociation reason) [])

-- a Deauthentication with that reason (IEEE 802.11-2016, 9.3.3.13)
abbrev pub deauthentication : Rules → List ℕ → ℕ → Out
deauthentication c a reason = sends (sent_management a c.config.bssid (management.Deauthentication reason) [])

-- one address comes before another: by the first octet in which they differ
abbrev pub OctetsBefore : List ℕ → List ℕ → Type 0
OctetsBefore a b = slice_cmp nat_cmp a b ≡ Less

-- agreements, ordered by their stations' addresses, then by their TIDs
abbrev pub IsBefore : (List ℕ × ℕ) → (List ℕ × ℕ) → Type 0
IsBefore p q = OctetsBefore p.0 q.0 ⊎ ((p.0 ≡ q.0) × (p.1 < q.1))

module _ (c : Rules) (r : Readings) where
  -- a DELBA from the originator ends the agreement; one from the recipient leads to nothing
  abbrev pub DelbaComes : List ℕ → Bool → ℕ → List (Ask × ℕ) → List Out → Readings → Type 0
  DelbaComes a true tid asked outs r2 = Ends r a tid [] asked outs r2
  DelbaComes a false tid asked outs r2 = Nothing r asked outs r2

  -- a management frame of a permitted class; kinds that only a station or an originator receives lead to nothing
  abbrev pub ManagementComes : Frame → Management → List (Ask × ℕ) → List Out → Readings → Type 0
  ManagementComes f (management.Authentication algorithm transaction status) asked outs r2 = Authenticates c r f.sender algorithm transaction asked outs r2
  ManagementComes f (management.AssociationRequest capability interval) asked outs r2 =
      Associates c r f.sender (record { frame = f; capability = capability; listen_interval = interval; again = false }) asked outs r2
  ManagementComes f (management.ReassociationRequest capability interval current) asked outs r2 =
      Associates c r f.sender (record { frame = f; capability = capability; listen_interval = interval; again = true }) asked outs r2
  ManagementComes f (management.Disassociation reason) asked outs r2 = Departs r f.sender (disassociated (r.standing f.sender)) asked outs r2
  ManagementComes f (management.Deauthentication reason) asked outs r2 = Departs r f.sender None asked outs r2
  ManagementComes f (management.AddbaRequest token parameters timeout start) asked outs r2 =
      SetsUp c r f.sender (record { frame = f; token = token; parameters = parameters; timeout = timeout; start = start }) asked outs r2
  ManagementComes f (management.Delba parameters reason) asked outs r2 = DelbaComes f.sender parameters.initiator parameters.tid asked outs r2
  ManagementComes f (management.AssociationResponse capability status aid) asked outs r2 = Nothing r asked outs r2
  ManagementComes f (management.ReassociationResponse capability status aid) asked outs r2 = Nothing r asked outs r2
  ManagementComes f (management.AddbaResponse token status parameters timeout) asked outs r2 = Nothing r asked outs r2

  abbrev pub ControlComes : Frame → Control → List (Ask × ℕ) → List Out → Readings → Type 0
  ControlComes f (control.BlockAckReq tid start) asked outs r2 = RequestComes c r f.sender tid start asked outs r2
  ControlComes f (control.BlockAck tid start bitmap) asked outs r2 = Nothing r asked outs r2

  abbrev pub DataKindComes : Frame → List ℕ → ℕ → DataKind → List (Ask × ℕ) → List Out → Readings → Type 0
  DataKindComes f destination number kinds.Data asked outs r2 =
      DataComes r f.sender (record { frame = f; destination = destination; tid = None; number = number }) asked outs r2
  DataKindComes f destination number (kinds.QosData qos) asked outs r2 =
      DataComes r f.sender (record { frame = f; destination = destination; tid = Some qos.tid; number = number }) asked outs r2
  DataKindComes f destination number kinds.Null asked outs r2 = Nothing r asked outs r2
  DataKindComes f destination number (kinds.QosNull qos) asked outs r2 = Nothing r asked outs r2

  -- a frame of a permitted class
  abbrev pub Follows : Frame → Content → List (Ask × ℕ) → List Out → Readings → Type 0
  Follows f (content.Management bssid sequence body) asked outs r2 = ManagementComes f body asked outs r2
  Follows f (content.Control body) asked outs r2 = ControlComes f body asked outs r2
  Follows f (content.Data destination sequence kind) asked outs r2 = DataKindComes f destination sequence kind asked outs r2

  -- a frame for this access point, by the result of its class check (11.3.3)
  abbrev pub Checked : Frame → ClassAnswer → List (Ask × ℕ) → List Out → Readings → Type 0
  Checked f Permitted asked outs r2 = Follows f f.content asked outs r2
  Checked f (Deauthenticate reason) asked outs r2 = Answers (deauthentication c f.sender reason) r asked outs r2
  Checked f (Disassociate reason) asked outs r2 = Answers (disassociation c f.sender reason) r asked outs r2

  abbrev pub check_of : Frame → ClassAnswer
  check_of f = class_answer (r.standing f.sender) (class_of (content_subtype f.content))

  -- received bytes: not a frame, a frame for another receiver, or one for this access point
  pub data FrameComes (bytes : List ℕ) (asked : List (Ask × ℕ)) (outs : List Out) (r2 : Readings) : Type 0 where
    faulty : (fault : Fault) → first_fault bytes ≡ Some fault → Answers (Note (number_of_fault fault)) r asked outs r2 → FrameComes bytes asked outs r2
    foreign : (f : Frame) → IsFrame f → bytes ≡ spelling f → (IsOurs c f → ⊥) → Answers (Note 56) r asked outs r2 → FrameComes bytes asked outs r2
    ours : (f : Frame) → IsFrame f → bytes ≡ spelling f → IsOurs c f → Checked f (check_of f) asked outs r2 → FrameComes bytes asked outs r2

  -- ---- time

  -- the agreement has a timeout, and was unused for at least that long
  pub record IsTimedOut (clock : ℕ) (u : Using) : Type 0 where
    pub limited : 1 ≤ u.timeout
    pub idle : u.last_use + u.timeout ≤ clock

  -- the agreement of a station for a TID ends at this time
  pub record EndsAt (clock : ℕ) (key : List ℕ × ℕ) : Type 0 where
    pub using : Using
    pub is : r.agreement key.0 key.1 ≡ Some using
    pub late : IsTimedOut clock using

  -- for each agreement in turn, what it held is passed up and then its DELBA is sent
  pub data EndInTurn : List (List ℕ × ℕ) → List Out → Type 0 where
    nobody_ends : EndInTurn [] []
    one_end : (a : List ℕ) (tid : ℕ) (keys : List (List ℕ × ℕ)) (first rest : List Out) →
        PassesHeld a tid (r.agreement a tid) first → EndInTurn keys rest → EndInTurn ((a, tid) ∷ keys) (first ++ (delba c a tid 39 ∷ rest))

  -- time passes: exactly the agreements that time out end, by increasing address and TID
  pub record Ticks (n : ℕ) (asked : List (Ask × ℕ)) (outs : List Out) (r2 : Readings) : Type 0 where
    pub silent : asked ≡ []
    pub clock : r2.clock ≡ min (r.clock + n) (2 ^ 64 - 1)
    pub standing : (q : List ℕ) → r2.standing q ≡ r.standing q
    pub ending : List (List ℕ × ℕ)
    pub rising : AllPairs IsBefore ending
    pub exact : (key : List ℕ × ℕ) → Contains ending key ↔ EndsAt r2.clock key
    pub ends : EndInTurn ending outs
    pub gone : (key : List ℕ × ℕ) → Contains ending key → r2.agreement key.0 key.1 ≡ None
    pub others : (key : List ℕ × ℕ) → (Contains ending key → ⊥) → r2.agreement key.0 key.1 ≡ r.agreement key.0 key.1

  -- ---- the operator's commands: for a known station, or for another

  pub data Kicks (a : List ℕ) (reason : ℕ) (asked : List (Ask × ℕ)) (outs : List Out) (r2 : Readings) : Type 0 where
    kicked : IsSome (r.standing a) → Settles (deauthentication c a reason ∷ []) asked outs → Moves r a None r2 → Kicks a reason asked outs r2
    not_kicked : r.standing a ≡ None → Answers (Note 63) r asked outs r2 → Kicks a reason asked outs r2

  pub data Closes (a : List ℕ) (tid : ℕ) (asked : List (Ask × ℕ)) (outs : List Out) (r2 : Readings) : Type 0 where
    closed : IsSome (r.standing a) → Ends r a tid (delba c a tid 37 ∷ []) asked outs r2 → Closes a tid asked outs r2
    not_closed : r.standing a ≡ None → Answers (Note 63) r asked outs r2 → Closes a tid asked outs r2

  -- the step
  abbrev pub Step : Event → List (Ask × ℕ) → List Out → Readings → Type 0
  Step (event.Frame bytes) asked outs r2 = FrameComes bytes asked outs r2
  Step (event.Tick n) asked outs r2 = Ticks n asked outs r2
  Step (event.Kick a reason) asked outs r2 = Kicks a reason asked outs r2
  Step (event.Close a tid) asked outs r2 = Closes a tid asked outs r2
