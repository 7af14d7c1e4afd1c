-- Events at access points that C keeps.
use Rattle.std.specs.Prelude.{◌≡◌, ◌≢◌, ◌≤◌, ◌<◌, ℕ, List, length, Option, Some, None, ⊤}
use Rattle.ap_model.specs.declared.event.Event.{Event}
use Rattle.ap_model.specs.declared.event.Event.TheVariants as event
use Rattle.ap_model.specs.declared.event.Out.{Out}
use Rattle.ap_single.specs.Leading.{Parts, IsLike, Leads}
use Rattle.apd_c.specs.declared.events.Happening.{Happening}
use Rattle.apd_c.specs.declared.events.Happening.TheVariants as happening
use Rattle.apd_c.specs.declared.handle.Content.{Content}
use Rattle.apd_c.specs.declared.handle.Content.TheVariants as content
use Rattle.apd_c.specs.declared.maps.Maps.{Maps}
use Rattle.apd_c.specs.Answers.{IsDone, Perhaps, Unless, UnlessNone, UnlessSome}
use Rattle.apd_c.specs.Link.{link_of}
use Rattle.apd_c.specs.Outs.{outs_of, user_of}
use Rattle.apd_c.specs.Words.{maps_of}

-- the event
abbrev pub event_of : Happening → Event
event_of (happening.Frame bytes) = event.Frame bytes.now
event_of (happening.Other other) = other

-- the maps are the same
pub record IsSame (m m' : Maps) : Type 0 where
  pub shapes : m'.shapes ≡ m.shapes
  pub tables : m'.tables ≡ m.tables
  pub state : m'.state ≡ m.state
  pub hand : m'.hand ≡ m.hand

-- The event is a step of the link. Its verdicts are those of the access point's programs over the words of the maps,
-- with the clock, the stations and the draws.
pub record IsLed (a : Parts) (m : Maps) (event : Event) (outs : List Out) (a' : Parts) (m' : Maps) : Type 0 where
  pub leads : Leads a event m.tables.maps m.state (Some outs) a' m'.state
  pub shapes : m'.shapes ≡ m.shapes
  pub tables : m'.tables ≡ m.tables
  pub hand : m'.hand ≡ m.hand

-- the same if the content is an access point
abbrev pub HasLed : Option Content → Maps → Event → List Out → Option Content → Maps → Type 0
HasLed o m event outs o' m' = (a : Parts) × (a' : Parts) × (link_of o ≡ Some a) × (link_of o' ≡ Some a') × IsLed a m event outs a' m'

-- the same if a handle holds the maps
abbrev pub HasLedTo : Event → Option Content → Option Content → List Out → Option Content → Option Content → Type 0
HasLedTo event o maps outs o' maps' = (m : Maps) × (m' : Maps) × (maps_of maps ≡ Some m) × (maps_of maps' ≡ Some m') × HasLed o m event outs o' m'

-- the same, and a handle holds the outputs
abbrev pub LeadsTo : Event → Option Content → Option Content → Option Content → Option Content → Option Content → Type 0
LeadsTo event o maps outs o' maps' = HasLedTo event o maps (outs_of outs) o' maps'

-- An access point has the same readings, maps are the same, and any other content is unchanged.
pub data Stays (o o' : Option Content) : Type 0 where
  same : o' ≡ o → Stays o o'
  like : (a a' : Parts) → link_of o ≡ Some a → link_of o' ≡ Some a' → IsLike a a' → Stays o o'
  kept : (m m' : Maps) → maps_of o ≡ Some m → maps_of o' ≡ Some m' → IsSame m m' → Stays o o'

-- The result of an event at the access point of one handle, over the maps of another: 0 fills a third with the outputs
-- and the caller's number; a refusal leaves readings, maps and the third unchanged.
pub record Serves (event : Event) (user : ℕ) (o maps outs : Option Content) (number : ℕ) (o' maps' outs' : Option Content) : Type 0 where
  pub led : number ≡ 0 → LeadsTo event o maps outs' o' maps'
  pub named : number ≡ 0 → user_of outs' ≡ user
  pub link : number ≢ 0 → Stays o o'
  pub maps_stay : number ≢ 0 → Stays maps maps'
  pub outs_stay : number ≢ 0 → outs' ≡ outs

-- 93 exactly if the access point's programs are for maps of other shapes; otherwise perhaps 40, for lack of memory;
-- otherwise 0
abbrev pub IsNumberOver : Maps → Parts → ℕ → Type 0
IsNumberOver m a = Unless (a.programs.shapes ≡ m.shapes) 93 (Perhaps 40 IsDone)

-- the same of two handles: 91 exactly if one doesn't hold an access point or maps
abbrev pub IsNumberAt : Option Content → Option Content → ℕ → Type 0
IsNumberAt link maps = UnlessSome (maps_of maps) 91 (λ m. UnlessSome (link_of link) 91 (IsNumberOver m))

-- The number of an event: 92 exactly if the handle for the outputs isn't empty; otherwise perhaps 40; otherwise that of
-- the other two.
abbrev pub IsEventNumber : Option Content → Option Content → Option Content → ℕ → Type 0
IsEventNumber link maps outs = UnlessNone outs 92 (Perhaps 40 (IsNumberAt link maps))

-- The number of a frame: 90 exactly if it is longer than 2400 bytes; otherwise that of the event.
abbrev pub IsFrameNumber : List ℕ → Option Content → Option Content → Option Content → ℕ → Type 0
IsFrameNumber bytes link maps outs = Unless (length bytes ≤ 2400) 90 (IsEventNumber link maps outs)

-- it is empty, or holds outputs
abbrev pub HasRoom : Option Content → Type 0
HasRoom None = ⊤
HasRoom (Some (content.Outs v)) = ⊤
HasRoom (Some _) = ⊥

-- The number of an event whose outputs replace those of an earlier one: 92 exactly if the handle for them holds something
-- else; otherwise perhaps 40; otherwise that of the other two.
abbrev pub IsAgainNumber : Option Content → Option Content → Option Content → ℕ → Type 0
IsAgainNumber link maps outs = Unless (HasRoom outs) 92 (Perhaps 40 (IsNumberAt link maps))

-- The same of a frame: 90 exactly if it is longer than 2400 bytes.
abbrev pub IsIntoNumber : List ℕ → Option Content → Option Content → Option Content → ℕ → Type 0
IsIntoNumber bytes link maps outs = Unless (length bytes ≤ 2400) 90 (IsAgainNumber link maps outs)

-- The number of ending an agreement: 90 exactly if the TID isn't below 8; otherwise that of the event.
abbrev pub IsCloseNumber : ℕ → Option Content → Option Content → Option Content → ℕ → Type 0
IsCloseNumber tid link maps outs = Unless (tid < 8) 90 (IsEventNumber link maps outs)
