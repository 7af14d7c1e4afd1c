-- How a step changes standings.
use Rattle.std.proofs.Common.{◌≡◌, ℕ, Bool, true, false, None, Some, List, subst}
use Rattle.mac_frame.specs.declared.content.Management.{Management}
use Rattle.mac_frame.specs.declared.content.Management.TheVariants as management
use Rattle.mac_frame.specs.declared.content.Control.{Control}
use Rattle.mac_frame.specs.declared.content.Control.TheVariants as control
use Rattle.mac_frame.specs.declared.content.DataKind.{DataKind}
use Rattle.mac_frame.specs.declared.content.DataKind.TheVariants as kinds
use Rattle.mac_frame.specs.declared.content.Content.{Content}
use Rattle.mac_frame.specs.declared.content.Content.TheVariants as content
use Rattle.mac_frame.specs.Spelling.{Frame}
use Rattle.assoc.specs.declared.standing.Known.TheVariants.{Authenticated, Associated}
use Rattle.assoc.specs.declared.class.ClassAnswer.{ClassAnswer}
use Rattle.assoc.specs.declared.class.ClassAnswer.TheVariants.{Permitted, Deauthenticate, Disassociate}
use Rattle.assoc.specs.Standings.{Standing, IsFree, IsMoved, disassociated}
use Rattle.ap_model.specs.declared.event.Event.{Event}
use Rattle.ap_model.specs.declared.event.Event.TheVariants as event
use Rattle.ap_model.specs.declared.event.Out.{Out}
use Rattle.ap_model.specs.Asks.{Ask}
use Rattle.ap_model.specs.Readings.{Readings, Rules}
use Rattle.ap_model.specs.Associations.{Authenticates, accepts, refuses, Associates, unsuited, elsewhere, exhausted, admitted, refused, Request}
use Rattle.ap_model.specs.Agreements.{DataComes, plain, taken, left, Packet, RequestComes, unagreed, agreed, SetsUp, delayed, declined, granted, Setup}
use Rattle.ap_model.specs.Steps.{Step, FrameComes, faulty, foreign, ours, Checked, check_of, Follows, ManagementComes, ControlComes, DataKindComes, DelbaComes, Kicks, kicked, not_kicked, Closes, closed, not_closed}
use Rattle.std.proofs.lemmas.Option.{none-some}
use Rattle.ap_laws.proofs.Same.{same_number}

-- no standing changes, or one does, and gets no identifier but a free one
pub data StandingChange (c : Rules) (r r2 : Readings) : Type 0 where
  same : ((q : List ℕ) → r2.standing q ≡ r.standing q) → StandingChange c r r2
  moved : (a : List ℕ) (s : Standing) → IsMoved r.standing a s r2.standing → ((n : ℕ) → s ≡ Some (Associated n) → IsFree c.shard r.standing a n) → StandingChange c r r2

authenticated_has_none : (n : ℕ) → Some Authenticated ≡ Some (Associated n) → ⊥
authenticated_has_none n e = cc

disassociated_has_none : (s : Standing) (n : ℕ) → disassociated s ≡ Some (Associated n) → ⊥
disassociated_has_none None n e = none-some (Associated n) e
disassociated_has_none (Some k) n e = authenticated_has_none n e

module _ (c : Rules) (r : Readings) (asked : List (Ask × ℕ)) (outs : List Out) (r2 : Readings) where
  authentication_stands : (a : List ℕ) (algorithm transaction : ℕ) → Authenticates c r a algorithm transaction asked outs r2 → StandingChange c r r2
  authentication_stands a algorithm transaction (accepts status settles moves) = moved a (Some Authenticated) moves.moves (λ n e. absurd (authenticated_has_none n e))
  authentication_stands a algorithm transaction (refuses status other is answers) = same answers.stays.standing

  association_stands : (a : List ℕ) (q : Request) → Associates c r a q asked outs r2 → StandingChange c r r2
  association_stands a q (unsuited not answers) = same answers.stays.standing
  association_stands a q (elsewhere suits not answers) = same answers.stays.standing
  association_stands a q (exhausted suits names none answers) = same answers.stays.standing
  association_stands a q (admitted verdict suits names admits) =
      let P : ℕ → Type 0 = λ n. IsFree c.shard r.standing a n in
      moved a (Some (Associated admits.identifier)) admits.moves.moves (λ n e. subst P (same_number admits.identifier n e) admits.free)
  association_stands a q (refused verdict suits names turned) = same turned.stays.standing

  delba_stands : (a : List ℕ) (initiator : Bool) (tid : ℕ) → DelbaComes c r a initiator tid asked outs r2 → StandingChange c r r2
  delba_stands a true tid ends = same ends.agrees.standing
  delba_stands a false tid nothing = same nothing.stays.standing

  setup_stands : (a : List ℕ) (s : Setup) → SetsUp c r a s asked outs r2 → StandingChange c r r2
  setup_stands a s (delayed is answers) = same answers.stays.standing
  setup_stands a s (declined verdict is declines) = same declines.stays.standing
  setup_stands a s (granted verdict is grants) = same grants.agrees.standing

  management_stands : (f : Frame) (body : Management) → ManagementComes c r f body asked outs r2 → StandingChange c r r2
  management_stands f (management.Authentication algorithm transaction status) comes = authentication_stands f.sender algorithm transaction comes
  management_stands f (management.AssociationRequest capability interval) comes =
      association_stands f.sender (record { frame = f; capability = capability; listen_interval = interval; again = false }) comes
  management_stands f (management.ReassociationRequest capability interval current) comes =
      association_stands f.sender (record { frame = f; capability = capability; listen_interval = interval; again = true }) comes
  management_stands f (management.Disassociation reason) comes =
      moved f.sender (disassociated (r.standing f.sender)) comes.moves.moves (λ n e. absurd (disassociated_has_none (r.standing f.sender) n e))
  management_stands f (management.Deauthentication reason) comes = moved f.sender None comes.moves.moves (λ n e. absurd (none-some (Associated n) e))
  management_stands f (management.AddbaRequest token parameters timeout start) comes =
      setup_stands f.sender (record { frame = f; token = token; parameters = parameters; timeout = timeout; start = start }) comes
  management_stands f (management.Delba parameters reason) comes = delba_stands f.sender parameters.initiator parameters.tid comes
  management_stands f (management.AssociationResponse capability status aid) comes = same comes.stays.standing
  management_stands f (management.ReassociationResponse capability status aid) comes = same comes.stays.standing
  management_stands f (management.AddbaResponse token status parameters timeout) comes = same comes.stays.standing

  request_stands : (a : List ℕ) (tid start : ℕ) → RequestComes c r a tid start asked outs r2 → StandingChange c r r2
  request_stands a tid start (unagreed none nothing) = same nothing.stays.standing
  request_stands a tid start (agreed u is reports) = same reports.agrees.standing

  control_stands : (f : Frame) (body : Control) → ControlComes c r f body asked outs r2 → StandingChange c r r2
  control_stands f (control.BlockAckReq tid start) comes = request_stands f.sender tid start comes
  control_stands f (control.BlockAck tid start bitmap) comes = same comes.stays.standing

  packet_stands : (a : List ℕ) (p : Packet) → DataComes r a p asked outs r2 → StandingChange c r r2
  packet_stands a p (plain delivers) = same delivers.stays.standing
  packet_stands a p (taken tid u is at takes) = same takes.agrees.standing
  packet_stands a p (left tid u is at leaves) = same leaves.agrees.standing

  data_stands : (f : Frame) (destination : List ℕ) (number : ℕ) (kind : DataKind) → DataKindComes c r f destination number kind asked outs r2 → StandingChange c r r2
  data_stands f destination number kinds.Data comes = packet_stands f.sender (record { frame = f; destination = destination; tid = None; number = number }) comes
  data_stands f destination number (kinds.QosData qos) comes = packet_stands f.sender (record { frame = f; destination = destination; tid = Some qos.tid; number = number }) comes
  data_stands f destination number kinds.Null comes = same comes.stays.standing
  data_stands f destination number (kinds.QosNull qos) comes = same comes.stays.standing

  content_stands : (f : Frame) (content : Content) → Follows c r f content asked outs r2 → StandingChange c r r2
  content_stands f (content.Management bssid sequence body) follows = management_stands f body follows
  content_stands f (content.Control body) follows = control_stands f body follows
  content_stands f (content.Data destination sequence kind) follows = data_stands f destination sequence kind follows

  answer_stands : (f : Frame) (answer : ClassAnswer) → Checked c r f answer asked outs r2 → StandingChange c r r2
  answer_stands f Permitted follows = content_stands f f.content follows
  answer_stands f (Deauthenticate reason) answers = same answers.stays.standing
  answer_stands f (Disassociate reason) answers = same answers.stays.standing

  frame_stands : (bytes : List ℕ) → FrameComes c r bytes asked outs r2 → StandingChange c r r2
  frame_stands bytes (faulty fault is answers) = same answers.stays.standing
  frame_stands bytes (foreign f grammar is not answers) = same answers.stays.standing
  frame_stands bytes (ours f grammar is for_us checked) = answer_stands f (check_of c r f) checked

  kick_stands : (a : List ℕ) (reason : ℕ) → Kicks c r a reason asked outs r2 → StandingChange c r r2
  kick_stands a reason (kicked known settles moves) = moved a None moves.moves (λ n e. absurd (none-some (Associated n) e))
  kick_stands a reason (not_kicked unknown answers) = same answers.stays.standing

  close_stands : (a : List ℕ) (tid : ℕ) → Closes c r a tid asked outs r2 → StandingChange c r r2
  close_stands a tid (closed known ends) = same ends.agrees.standing
  close_stands a tid (not_closed unknown answers) = same answers.stays.standing

  pub step_stands : (e : Event) → Step c r e asked outs r2 → StandingChange c r r2
  step_stands (event.Frame bytes) step = frame_stands bytes step
  step_stands (event.Tick n) step = same step.standing
  step_stands (event.Kick a reason) step = kick_stands a reason step
  step_stands (event.Close a tid) step = close_stands a tid step
