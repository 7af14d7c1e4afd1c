-- A step of one station doesn't change the agreements of another.
use Rattle.std.proofs.Common.{◌≡◌, ◌≢◌, ℕ, ⊎_elim, Bool, true, false, cond, Option, None, List, [], ◌∷◌, ◌++◌, sym, ap, ◌∙◌, subst}
use Rattle.std.specs.Prelude.{Contains, is_some}
use Rattle.std.proofs.lemmas.List.Elements.{Contains-append_cases, Contains-push_cases}
use Rattle.mac_frame.specs.declared.content.Management.{Management}
use Rattle.mac_frame.specs.declared.content.Management.TheVariants as management
use Rattle.mac_frame.specs.declared.content.Control.{Control}
use Rattle.mac_frame.specs.declared.content.Control.TheVariants as control
use Rattle.mac_frame.specs.declared.content.DataKind.{DataKind}
use Rattle.mac_frame.specs.declared.content.DataKind.TheVariants as kinds
use Rattle.mac_frame.specs.declared.content.Content.{Content}
use Rattle.mac_frame.specs.declared.content.Content.TheVariants as content
use Rattle.mac_frame.specs.Spelling.{Frame}
use Rattle.assoc.specs.declared.class.ClassAnswer.{ClassAnswer}
use Rattle.assoc.specs.declared.class.ClassAnswer.TheVariants.{Permitted, Deauthenticate, Disassociate}
use Rattle.assoc.specs.Standings.{Standing}
use Rattle.assoc.proofs.Tables.{address_tells}
use Rattle.hooks.specs.declared.verdicts.DataVerdict.{DataVerdict}
use Rattle.hooks.specs.declared.verdicts.DataVerdict.TheVariants.{Pass, Discard}
use Rattle.hooks.specs.Verdicts.{data_verdict}
use Rattle.ap_model.specs.declared.event.Out.{Out}
use Rattle.ap_model.specs.declared.event.Out.TheVariants as out
use Rattle.ap_model.specs.declared.event.Up.{Up}
use Rattle.ap_model.specs.Asks.{Ask}
use Rattle.ap_model.specs.Readings.{Readings, Rules, Using, Held}
use Rattle.ap_model.specs.Changes.{Stays, Moves, Agrees, Nothing, Answers}
use Rattle.ap_model.specs.Associations.{Authenticates, accepts, refuses, Associates, unsuited, elsewhere, exhausted, admitted, refused, Request}
use Rattle.ap_model.specs.Agreements.{Packet, let_through, ups, DataComes, plain, taken, left, RequestComes, unagreed, agreed, block_ack, PassesHeld, none_held, held_up, Ends, delba, SetsUp, delayed, declined, granted, Setup, setup_answer}
use Rattle.ap_model.specs.Steps.{Checked, Follows, ManagementComes, ControlComes, DataKindComes, DelbaComes, Kicks, kicked, not_kicked, Closes, closed, not_closed}
use Rattle.ap_laws.specs.InOrder.{ups_of}
use Rattle.blockack.proofs.BelowLaws.{none_in_none}
use Rattle.ap_laws.proofs.ChangeLaws.{agreed_cases}
use Rattle.ap_laws.proofs.Forms.{NoUp, none_up, one_send, one_note, no_up_of, one_sent, no_up_in_answer, no_up_in_block_ack}
use Rattle.ap_laws.proofs.OriginLaws.{up_of, if_there}
use Rattle.ap_laws.proofs.UpLaws.{none_of, none_of_no_up, other_station}

-- all data passed up is from station b
abbrev pub AllOf : List ℕ → List Out → Type 0
AllOf b outs = (d : Up) → Contains outs (out.Up d) → d.source ≡ b

pub all_of_ups : (b : List ℕ) (t : ℕ) (passed : List (ℕ × Held)) → AllOf b (ups b t passed)
all_of_ups b t passed d inside = ap (λ x. x.source) (up_of b t passed d inside).is

pub all_of_append : (b : List ℕ) (xs ys : List Out) → AllOf b xs → AllOf b ys → AllOf b (xs ++ ys)
all_of_append b xs ys one other d inside = ⊎_elim (λ l. one d l) (λ r. other d r) (Contains-append_cases xs ys (out.Up d) inside)

pub all_of_none : (b : List ℕ) (outs : List Out) → NoUp outs → AllOf b outs
all_of_none b outs none d inside = absurd (none d inside)

pub all_of_held : (b : List ℕ) (t : ℕ) (o : Option Using) (first : List Out) → PassesHeld b t o first → AllOf b first
all_of_held b t o first none_held = all_of_none b [] none_up
all_of_held b t o first (held_up u passed ending) = all_of_ups b t passed

all_let_through : (b : List ℕ) (p : Packet) (v : DataVerdict) → AllOf b (let_through b p v)
all_let_through b p (Pass mark) d inside = ⊎_elim (λ none. absurd (none_in_none (out.Up d) none)) (λ e. sym (source_of _ d e)) (Contains-push_cases [] _ (out.Up d) inside)
  where
    source_of : (one other : Up) → out.Up one ≡ out.Up other → one.source ≡ other.source
    source_of one other e = cc
all_let_through b p Discard d inside = absurd (none_in_none (out.Up d) inside)

-- the agreement of another station is unchanged, and nothing of it is passed up
pub record Elsewhere (r r2 : Readings) (outs : List Out) (a : List ℕ) (tid : ℕ) : Type 0 where
  pub same : r2.agreement a tid ≡ r.agreement a tid
  pub none : ups_of a tid outs ≡ []

module _ (c : Rules) (r : Readings) (asked : List (Ask × ℕ)) (outs : List Out) (r2 : Readings) (b a : List ℕ) (other : b ≢ a) (tid : ℕ) where
  silent : AllOf b outs → ups_of a tid outs ≡ []
  silent all = none_of a tid outs (λ d inside. other_station a tid d (λ e. other (sym (all d inside) ∙ e)))

  stay : NoUp outs → Stays r r2 → Elsewhere r r2 outs a tid
  stay none stays = record { same = stays.agreement a tid; none = none_of_no_up a tid outs none }

  move : (s : Standing) → NoUp outs → Moves r b s r2 → Elsewhere r r2 outs a tid
  move s none moves =
      record {
        same = ⊎_elim (λ same. absurd (other same.1)) (λ differ. moves.discards a tid ∙ ap (λ x. cond x None (r.agreement a tid)) differ.0) (address_tells b a);
        none = none_of_no_up a tid outs none;
      }

  agree : (t : ℕ) (u : Option Using) → AllOf b outs → Agrees r b t u r2 → Elsewhere r r2 outs a tid
  agree t u all agrees =
      record {
        same = ⊎_elim (λ here. absurd (other here.0)) (λ same. same) (agreed_cases r r2 b t u agrees a tid);
        none = silent all;
      }

  nothing : Nothing r asked outs r2 → Elsewhere r r2 outs a tid
  nothing n = stay (no_up_of outs [] n.settles.is none_up) n.stays

  answered : (bytes : List ℕ) → Answers (out.Send bytes) r asked outs r2 → Elsewhere r r2 outs a tid
  answered bytes x = stay (one_sent outs bytes x.settles.is) x.stays

  all_from : (xs : List Out) → outs ≡ xs → AllOf b xs → AllOf b outs
  all_from xs is all = subst (AllOf b) (sym is) all

  authentication_elsewhere : (algorithm transaction : ℕ) → Authenticates c r b algorithm transaction asked outs r2 → Elsewhere r r2 outs a tid
  authentication_elsewhere algorithm transaction (accepts status settles moves) = move _ (one_sent outs _ settles.is) moves
  authentication_elsewhere algorithm transaction (refuses status ne is answers) = answered _ answers

  association_elsewhere : (q : Request) → Associates c r b q asked outs r2 → Elsewhere r r2 outs a tid
  association_elsewhere q (unsuited not answers) = answered _ answers
  association_elsewhere q (elsewhere suits not answers) = answered _ answers
  association_elsewhere q (exhausted suits names none answers) = answered _ answers
  association_elsewhere q (admitted verdict suits names x) = move _ (one_sent outs _ x.is) x.moves
  association_elsewhere q (refused verdict suits names x) = stay (one_sent outs _ x.is) x.stays

  end_elsewhere : (t : ℕ) (last : List Out) → NoUp last → Ends r b t last asked outs r2 → Elsewhere r r2 outs a tid
  end_elsewhere t last none ending =
      agree t None
      (λ d inside.
      let P : List Out → Type 0 = λ xs. Contains xs (out.Up d) in
      ⊎_elim (λ l. all_of_held b t (r.agreement b t) ending.first ending.passes d l) (λ x. absurd (none d x))
      (if_there (is_some (r.agreement b t)) ending.first last d (subst P ending.settles.is inside)))
      ending.agrees

  delba_elsewhere : (initiator : Bool) (t : ℕ) → DelbaComes c r b initiator t asked outs r2 → Elsewhere r r2 outs a tid
  delba_elsewhere true t ending = end_elsewhere t [] none_up ending
  delba_elsewhere false t none = nothing none

  setup_elsewhere : (s : Setup) → SetsUp c r b s asked outs r2 → Elsewhere r r2 outs a tid
  setup_elsewhere s (delayed is answers) = answered _ answers
  setup_elsewhere s (declined verdict is x) = stay (one_sent outs _ x.is) x.stays
  setup_elsewhere s (granted verdict is x) =
      agree s.parameters.tid _
      (all_from (x.first ++ setup_answer c b s 0 x.size ∷ []) x.is
      (all_of_append b x.first (setup_answer c b s 0 x.size ∷ []) (all_of_held b s.parameters.tid (r.agreement b s.parameters.tid) x.first x.passes) (all_of_none b (setup_answer c b s 0 x.size ∷ []) (no_up_in_answer c b s 0 x.size))))
      x.agrees

  request_elsewhere : (t start : ℕ) → RequestComes c r b t start asked outs r2 → Elsewhere r r2 outs a tid
  request_elsewhere t start (unagreed none x) = nothing x
  request_elsewhere t start (agreed u is x) =
      agree t _
      (all_from (ups b t x.passed ++ block_ack c b t x.window ∷ []) x.settles.is
      (all_of_append b (ups b t x.passed) (block_ack c b t x.window ∷ []) (all_of_ups b t x.passed) (all_of_none b (block_ack c b t x.window ∷ []) (no_up_in_block_ack c b t x.window))))
      x.agrees

  packet_elsewhere : (p : Packet) → DataComes r b p asked outs r2 → Elsewhere r r2 outs a tid
  packet_elsewhere p (plain x) = record { same = x.stays.agreement a tid; none = silent (all_from (let_through b p (data_verdict x.verdict)) x.is (all_let_through b p (data_verdict x.verdict))) }
  packet_elsewhere p (taken t u at_tid at x) = agree t _ (all_from (ups b t x.passed) x.is (all_of_ups b t x.passed)) x.agrees
  packet_elsewhere p (left t u at_tid at x) = agree t _ (all_from [] x.settles.is (all_of_none b [] none_up)) x.agrees

  pub kick_elsewhere : (reason : ℕ) → Kicks c r b reason asked outs r2 → Elsewhere r r2 outs a tid
  kick_elsewhere reason (kicked some settles moves) = move None (one_sent outs _ settles.is) moves
  kick_elsewhere reason (not_kicked unknown answers) = stay (no_up_of outs (out.Note 63 ∷ []) answers.settles.is (one_note 63)) answers.stays

  pub close_elsewhere : (t : ℕ) → Closes c r b t asked outs r2 → Elsewhere r r2 outs a tid
  close_elsewhere t (closed some ending) = end_elsewhere t (delba c b t 37 ∷ []) (one_send _) ending
  close_elsewhere t (not_closed unknown answers) = stay (no_up_of outs (out.Note 63 ∷ []) answers.settles.is (one_note 63)) answers.stays

module _ (c : Rules) (r : Readings) (asked : List (Ask × ℕ)) (outs : List Out) (r2 : Readings) (f : Frame) (a : List ℕ) (other : f.sender ≢ a) (tid : ℕ) where
  no_content : Nothing r asked outs r2 → Elsewhere r r2 outs a tid
  no_content x = nothing c r asked outs r2 f.sender a other tid x

  management_elsewhere : (body : Management) → ManagementComes c r f body asked outs r2 → Elsewhere r r2 outs a tid
  management_elsewhere (management.Authentication algorithm transaction status) comes = authentication_elsewhere c r asked outs r2 f.sender a other tid algorithm transaction comes
  management_elsewhere (management.AssociationRequest capability interval) comes = association_elsewhere c r asked outs r2 f.sender a other tid _ comes
  management_elsewhere (management.ReassociationRequest capability interval current) comes = association_elsewhere c r asked outs r2 f.sender a other tid _ comes
  management_elsewhere (management.Disassociation reason) comes = move c r asked outs r2 f.sender a other tid _ (no_up_of outs [] comes.settles.is none_up) comes.moves
  management_elsewhere (management.Deauthentication reason) comes = move c r asked outs r2 f.sender a other tid _ (no_up_of outs [] comes.settles.is none_up) comes.moves
  management_elsewhere (management.AddbaRequest token parameters timeout start) comes = setup_elsewhere c r asked outs r2 f.sender a other tid _ comes
  management_elsewhere (management.Delba parameters reason) comes = delba_elsewhere c r asked outs r2 f.sender a other tid parameters.initiator parameters.tid comes
  management_elsewhere (management.AssociationResponse capability status aid) comes = no_content comes
  management_elsewhere (management.ReassociationResponse capability status aid) comes = no_content comes
  management_elsewhere (management.AddbaResponse token status parameters timeout) comes = no_content comes

  control_elsewhere : (body : Control) → ControlComes c r f body asked outs r2 → Elsewhere r r2 outs a tid
  control_elsewhere (control.BlockAckReq t start) comes = request_elsewhere c r asked outs r2 f.sender a other tid t start comes
  control_elsewhere (control.BlockAck t start bitmap) comes = no_content comes

  data_elsewhere : (destination : List ℕ) (number : ℕ) (kind : DataKind) → DataKindComes c r f destination number kind asked outs r2 → Elsewhere r r2 outs a tid
  data_elsewhere destination number kinds.Data comes = packet_elsewhere c r asked outs r2 f.sender a other tid _ comes
  data_elsewhere destination number (kinds.QosData qos) comes = packet_elsewhere c r asked outs r2 f.sender a other tid _ comes
  data_elsewhere destination number kinds.Null comes = no_content comes
  data_elsewhere destination number (kinds.QosNull qos) comes = no_content comes

  content_elsewhere : (body : Content) → Follows c r f body asked outs r2 → Elsewhere r r2 outs a tid
  content_elsewhere (content.Management bssid sequence body) follows = management_elsewhere body follows
  content_elsewhere (content.Control body) follows = control_elsewhere body follows
  content_elsewhere (content.Data destination sequence kind) follows = data_elsewhere destination sequence kind follows

  pub checked_elsewhere : (answer : ClassAnswer) → Checked c r f answer asked outs r2 → Elsewhere r r2 outs a tid
  checked_elsewhere Permitted follows = content_elsewhere f.content follows
  checked_elsewhere (Deauthenticate reason) answers = answered c r asked outs r2 f.sender a other tid _ answers
  checked_elsewhere (Disassociate reason) answers = answered c r asked outs r2 f.sender a other tid _ answers
