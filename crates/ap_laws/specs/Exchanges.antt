-- A station's standing, by the exchanges in its history (IEEE 802.11-2016, 11.3).
use Rattle.std.specs.Prelude.{◌≡◌, ℕ, Bool, true, false, Some, None, List, [], ◌∷◌}
use Rattle.mac_frame.specs.declared.content.Management.TheVariants as management
use Rattle.mac_frame.specs.declared.content.Content.{Content}
use Rattle.mac_frame.specs.declared.content.Content.TheVariants as content
use Rattle.mac_frame.specs.Spelling.{Frame, IsFrame, spelling}
use Rattle.assoc.specs.declared.standing.Known.TheVariants as known
use Rattle.assoc.specs.Standings.{Standing, IsOwn, disassociated}
use Rattle.ap_model.specs.declared.event.Event.TheVariants as event
use Rattle.ap_model.specs.Readings.{Rules}
use Rattle.ap_model.specs.Associations.{authentication_answer, association_answer, aid_field}
use Rattle.ap_model.specs.Steps.{IsOurs}
use Rattle.ap_model.specs.Runs.{Entry}

-- the exchanges of a station: a (re)association has the identifier that it was given; a deauthentication is the
-- station's or the operator's
pub data Exchange : Type 0 where
  Authenticated : Exchange
  Associated : (identifier : ℕ) → Exchange
  Disassociated : Exchange
  Deauthenticated : Exchange

-- a station's standing after these exchanges, the newest first
abbrev pub standing_after : List Exchange → Standing
standing_after [] = None
standing_after (Authenticated ∷ older) = Some known.Authenticated
standing_after (Associated n ∷ older) = Some (known.Associated n)
standing_after (Disassociated ∷ older) = disassociated (standing_after older)
standing_after (Deauthenticated ∷ older) = None

-- this frame came, for this access point, from station a
pub record ComesFrom (c : Rules) (e : Entry) (a : List ℕ) (f : Frame) : Type 0 where
  pub grammar : IsFrame f
  pub came : e.event ≡ event.Frame (spelling f)
  pub for_us : IsOurs c f
  pub sender : f.sender ≡ a

-- an association request, or a reassociation request
pub data IsRequest : Bool → Content → Type 0 where
  first : (bssid : List ℕ) (sequence capability interval : ℕ) →
      IsRequest false (content.Management bssid sequence (management.AssociationRequest capability interval))
  again : (bssid : List ℕ) (sequence capability interval : ℕ) (current : List ℕ) →
      IsRequest true (content.Management bssid sequence (management.ReassociationRequest capability interval current))

-- the entry is this exchange of station a; authentication and association count if the reply has status 0
pub data IsExchange (c : Rules) (e : Entry) (a : List ℕ) : Exchange → Type 0 where
  authentication : (f : Frame) (bssid : List ℕ) (sequence algorithm transaction status : ℕ) → ComesFrom c e a f →
      f.content ≡ content.Management bssid sequence (management.Authentication algorithm transaction status) →
      e.outs ≡ authentication_answer c a algorithm 0 ∷ [] → IsExchange c e a Authenticated
  association : (f : Frame) (repeated : Bool) (n : ℕ) → ComesFrom c e a f → IsRequest repeated f.content → IsOwn c.shard n →
      e.outs ≡ association_answer c a repeated 0 (aid_field n) ∷ [] → IsExchange c e a (Associated n)
  disassociation : (f : Frame) (bssid : List ℕ) (sequence reason : ℕ) → ComesFrom c e a f →
      f.content ≡ content.Management bssid sequence (management.Disassociation reason) → IsExchange c e a Disassociated
  deauthentication : (f : Frame) (bssid : List ℕ) (sequence reason : ℕ) → ComesFrom c e a f →
      f.content ≡ content.Management bssid sequence (management.Deauthentication reason) → IsExchange c e a Deauthenticated
  kick : (reason : ℕ) → e.event ≡ event.Kick a reason → IsExchange c e a Deauthenticated

-- the exchanges of station a in a history; both lists have the newest first
pub data Exchanges (c : Rules) (a : List ℕ) : List Entry → List Exchange → Type 0 where
  none_yet : Exchanges c a [] []
  one_more : (e : Entry) (x : Exchange) (older : List Entry) (exchanges : List Exchange) →
      IsExchange c e a x → Exchanges c a older exchanges → Exchanges c a (e ∷ older) (x ∷ exchanges)
  other : (e : Entry) (older : List Entry) (exchanges : List Exchange) →
      ((x : Exchange) → IsExchange c e a x → ⊥) → Exchanges c a older exchanges → Exchanges c a (e ∷ older) exchanges
