-- Authentication and association (IEEE 802.11-2016, 11.3.4 and 11.3.5): one definition for each rule.
use Rattle.std.specs.Prelude.{◌≡◌, ◌≢◌, ℕ, ◌+◌, ◌⊎◌, Bool, true, false, Some, None, IsSome, List, [], ◌∷◌}
use Rattle.mac_types.specs.Bits.{bits}
use Rattle.mac_frame.specs.declared.content.Management.{Management}
use Rattle.mac_frame.specs.declared.content.Management.TheVariants as management
use Rattle.mac_frame.specs.Elements.{rates_text}
use Rattle.mac_frame.specs.Frames.{ssid_of, rates_of, sent_management}
use Rattle.mac_frame.specs.Spelling.{Frame, spelling}
use Rattle.bpf_regions.specs.declared.hooks.Hook.TheVariants as hook
use Rattle.assoc.specs.declared.standing.Known.TheVariants.{Authenticated, Associated}
use Rattle.assoc.specs.Standings.{Standing, IsFull, IsFree}
use Rattle.hooks.specs.Verdicts.{association_status}
use Rattle.hooks.specs.Contexts as contexts
use Rattle.ap_model.specs.declared.event.Out.{Out}
use Rattle.ap_model.specs.Asks.{Ask}
use Rattle.ap_model.specs.Readings.{Readings, Rules}
use Rattle.ap_model.specs.Changes.{sends, Settles, Asks, Stays, Moves, Answers}

-- the status of the reply to an authentication of station a (11.3.4.3, 9.4.1.9): 13 if the algorithm isn't Open
-- System, 14 if the transaction isn't the first, 17 if the station is new and 512 others are known
pub data AuthenticationStatus (r : Readings) (a : List ℕ) (algorithm transaction : ℕ) : ℕ → Type 0 where
  other_algorithm : (algorithm ≢ 0) → AuthenticationStatus r a algorithm transaction 13
  other_transaction : (algorithm ≡ 0) → (transaction ≢ 1) → AuthenticationStatus r a algorithm transaction 14
  no_room : (algorithm ≡ 0) → (transaction ≡ 1) → (r.standing a ≡ None) → IsFull r.standing → AuthenticationStatus r a algorithm transaction 17
  accepted : (algorithm ≡ 0) → (transaction ≡ 1) → (IsSome (r.standing a) ⊎ (IsFull r.standing → ⊥)) → AuthenticationStatus r a algorithm transaction 0

-- the reply has the request's algorithm, transaction 2, and the status
abbrev pub authentication_answer : Rules → List ℕ → ℕ → ℕ → Out
authentication_answer c a algorithm status = sends (sent_management a c.config.bssid (management.Authentication algorithm 2 status) [])

-- an authentication: status 0 leads to State 2 from any state; any other status changes nothing
pub data Authenticates (c : Rules) (r : Readings) (a : List ℕ) (algorithm transaction : ℕ) (asked : List (Ask × ℕ)) (outs : List Out) (r2 : Readings) : Type 0 where
  accepts : AuthenticationStatus r a algorithm transaction 0 → Settles (authentication_answer c a algorithm 0 ∷ []) asked outs →
      Moves r a (Some Authenticated) r2 → Authenticates c r a algorithm transaction asked outs r2
  refuses : (status : ℕ) → (status ≢ 0) → AuthenticationStatus r a algorithm transaction status →
      Answers (authentication_answer c a algorithm status) r asked outs r2 → Authenticates c r a algorithm transaction asked outs r2

-- a (re)association request
pub record Request : Type 0 where
  pub frame : Frame
  pub capability : ℕ
  pub listen_interval : ℕ
  pub again : Bool

-- the kind of the response to a request (IEEE 802.11-2016, 9.3.3.7 and 9.3.3.9)
abbrev pub response : Bool → ℕ → ℕ → Management
response true status aid = management.ReassociationResponse 1 status aid
response false status aid = management.AssociationResponse 1 status aid

-- the response (9.3.3.7, 9.3.3.9): capability 1, the status, the AID field, which is 0 in a refusal, and the rates
abbrev pub association_answer : Rules → List ℕ → Bool → ℕ → ℕ → Out
association_answer c a again status aid = sends (sent_management a c.config.bssid (response again status aid) (rates_text c.config.rates))

-- the AID field of an identifier: its two top bits are 1 (9.4.1.8)
abbrev pub aid_field : ℕ → ℕ
aid_field n = 49152 + n

-- the request asks for an infrastructure network, and some Supported Rates element isn't empty
pub record Suits (q : Request) : Type 0 where
  pub infrastructure : bits q.capability 0 1 ≡ 1
  pub rates : IsSome (rates_of q.frame)

-- the request's first SSID element names this network
abbrev pub Names : Rules → Request → Type 0
Names c q = ssid_of q.frame ≡ Some c.config.ssid

-- the query about a request
abbrev pub association_ask : Readings → List ℕ → Request → Ask
association_ask r a q =
    record {
      hook = hook.Association;
      frame = spelling q.frame;
      context = contexts.association_context a (r.standing a) q.capability q.listen_interval q.again;
    }

-- the hook admits a request, which gets any free identifier and leads to State 3
pub record Admits (c : Rules) (r : Readings) (a : List ℕ) (q : Request) (verdict : ℕ) (asked : List (Ask × ℕ)) (outs : List Out) (r2 : Readings) : Type 0 where
  pub admits : association_status verdict ≡ 0
  pub identifier : ℕ
  pub free : IsFree c.shard r.standing a identifier
  pub asks : Asks (association_ask r a q) verdict asked
  pub is : outs ≡ association_answer c a q.again 0 (aid_field identifier) ∷ []
  pub moves : Moves r a (Some (Associated identifier)) r2

-- the hook refuses a request
pub record Refuses (c : Rules) (r : Readings) (a : List ℕ) (q : Request) (verdict : ℕ) (asked : List (Ask × ℕ)) (outs : List Out) (r2 : Readings) : Type 0 where
  pub refuses : association_status verdict ≢ 0
  pub identifier : ℕ
  pub free : IsFree c.shard r.standing a identifier
  pub asks : Asks (association_ask r a q) verdict asked
  pub is : outs ≡ association_answer c a q.again (association_status verdict) 0 ∷ []
  pub stays : Stays r r2

-- a (re)association request: the checks in order, then the verdict
pub data Associates (c : Rules) (r : Readings) (a : List ℕ) (q : Request) (asked : List (Ask × ℕ)) (outs : List Out) (r2 : Readings) : Type 0 where
  unsuited : (Suits q → ⊥) → Answers (association_answer c a q.again 10 0) r asked outs r2 → Associates c r a q asked outs r2
  elsewhere : Suits q → (Names c q → ⊥) → Answers (association_answer c a q.again 12 0) r asked outs r2 → Associates c r a q asked outs r2
  exhausted : Suits q → Names c q → ((n : ℕ) → IsFree c.shard r.standing a n → ⊥) → Answers (association_answer c a q.again 17 0) r asked outs r2 → Associates c r a q asked outs r2
  admitted : (verdict : ℕ) → Suits q → Names c q → Admits c r a q verdict asked outs r2 → Associates c r a q asked outs r2
  refused : (verdict : ℕ) → Suits q → Names c q → Refuses c r a q verdict asked outs r2 → Associates c r a q asked outs r2

-- a frame that changes a station's standing, without a reply
pub record Departs (r : Readings) (a : List ℕ) (s : Standing) (asked : List (Ask × ℕ)) (outs : List Out) (r2 : Readings) : Type 0 where
  pub settles : Settles [] asked outs
  pub moves : Moves r a s r2
