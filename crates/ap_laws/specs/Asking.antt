-- Which queries a step puts to a judge, and which a judge has listed.
use Rattle.std.specs.Prelude.{◌≡◌, ℕ, List, [], ◌∷◌, ◌++◌}
use Rattle.mac_types.specs.declared.fields.BlockAckPolicy.TheVariants.{Immediate}
use Rattle.mac_frame.specs.declared.content.Management.TheVariants as management
use Rattle.mac_frame.specs.declared.content.Content.TheVariants as content
use Rattle.mac_frame.specs.declared.content.DataKind.{DataKind}
use Rattle.mac_frame.specs.Spelling.{Frame, IsFrame, spelling}
use Rattle.ap_model.specs.declared.event.Event.{Event}
use Rattle.ap_model.specs.declared.event.Event.TheVariants as event
use Rattle.ap_model.specs.declared.event.Out.{Out}
use Rattle.ap_model.specs.Asks.{Ask, Answered}
use Rattle.ap_model.specs.Readings.{Readings, Rules}
use Rattle.ap_model.specs.Associations.{Request, association_ask}
use Rattle.ap_model.specs.Agreements.{Packet, Setup, data_ask, setup_ask}
use Rattle.ap_model.specs.Steps.{Step, IsOurs}
use Rattle.ap_laws.specs.Exchanges.{IsRequest}
use Rattle.ap_laws.specs.Origins.{Carries}

-- the one query that a frame may lead to, by its kind: a (re)association request, an ADDBA request for an immediate
-- policy, or data
pub data IsAskOf (r : Readings) (f : Frame) : Ask → Type 0 where
  of_association : (q : Request) → q.frame ≡ f → IsRequest q.again f.content → IsAskOf r f (association_ask r f.sender q)
  of_setup : (s : Setup) (bssid : List ℕ) (sequence : ℕ) → s.frame ≡ f →
      f.content ≡ content.Management bssid sequence (management.AddbaRequest s.token s.parameters s.timeout s.start) →
      s.parameters.policy ≡ Immediate → IsAskOf r f (setup_ask r f.sender s)
  of_data : (p : Packet) (kind : DataKind) → p.frame ≡ f → f.content ≡ content.Data p.destination p.number kind → Carries kind p.tid →
      IsAskOf r f (data_ask r f.sender p)

-- a frame of the grammar came for this access point, and this is the query that it leads to
pub record IsAskAbout (c : Rules) (r : Readings) (e : Event) (ask : Ask) : Type 0 where
  pub frame : Frame
  pub grammar : IsFrame frame
  pub came : e ≡ event.Frame (spelling frame)
  pub for_us : IsOurs c frame
  pub is : IsAskOf r frame ask

-- there is no query, or one, about the received frame
pub data AsksOnce (c : Rules) (r : Readings) (e : Event) : List (Ask × ℕ) → Type 0 where
  asks_nothing : AsksOnce c r e []
  asks_one : (ask : Ask) (verdict : ℕ) → IsAskAbout c r e ask → AsksOnce c r e ((ask, verdict) ∷ [])

-- a step has at most one query
abbrev pub StepsAskOnce : Type 0
StepsAskOnce = (c : Rules) (r r2 : Readings) (e : Event) (asked : List (Ask × ℕ)) (outs : List Out) → Step c r e asked outs r2 → AsksOnce c r e asked

-- a judge appends the queries that a contract names to its list, and no others
abbrev pub ListsAsks : {S : Type 0} → (S → List (Ask × ℕ)) → (S → Ask → ℕ → S → Type 0) → Type 0
ListsAsks {S} asks R = (p p2 : S) (asked : List (Ask × ℕ)) → Answered R p asked p2 → asks p2 ≡ asks p ++ asked
