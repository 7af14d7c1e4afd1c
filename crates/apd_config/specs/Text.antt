-- Which texts are configurations, and what faults say of them.
use Rattle.std.specs.Prelude.{◌≡◌, ◌≢◌, ℕ, ◌&&◌, Bool, true, false, nat_le, List, codes, suc, Some, None, option_and_then, string_bytes, Contains, IsUtf8}
use Rattle.std.specs.List.{list_all}
use Rattle.toml.specs.Data.{Data, array, table, Items, no_items, item, Members, get_member, get_item}
use Rattle.toml.specs.Parse.{parse_document}
use Rattle.toml.specs.Errors.{IsMemory}
use Rattle.toml.specs.declared.de.error.Error.{Error}
use Rattle.apd_config.specs.Keys.{text_of, map_text_of}
use Rattle.apd_config.specs.Meaning.{bssid_of, ssid_of, rates_of, draw_of, count_of, width_of, scope_of, keys_in, is_key, is_map_key, SaysMaps}
use Rattle.apd_config.specs.declared.keys.Key.{Key}
use Rattle.apd_config.specs.declared.keys.Key.TheVariants as top
use Rattle.apd_config.specs.declared.keys.MapKey.{MapKey}
use Rattle.apd_config.specs.declared.keys.MapKey.TheVariants as in_map
use Rattle.apd_config.specs.declared.fault.ConfigFault.{ConfigFault}
use Rattle.apd_config.specs.declared.fault.ConfigFault.TheVariants as fault
use Rattle.apd_config.specs.declared.configuration.Configuration.{Configuration}

-- the table spells the configuration
pub record Says (t : Members) (c : Configuration) : Type 0 where
  pub keys : list_all is_key (keys_in t) ≡ true
  pub bssid : option_and_then bssid_of (get_member (codes "bssid") t) ≡ Some c.bssid
  pub ssid : option_and_then ssid_of (get_member (codes "ssid") t) ≡ Some c.ssid.items
  pub rates : option_and_then rates_of (get_member (codes "rates") t) ≡ Some c.rates.items
  pub draw : option_and_then draw_of (get_member (codes "draw") t) ≡ Some c.draw
  pub maps : SaysMaps (get_member (codes "map") t) c.maps

-- the text is the TOML of the configuration
pub record IsTextOf (text : List ℕ) (c : Configuration) : Type 0 where
  pub utf8 : IsUtf8 text
  pub tables : Members
  pub parsed : parse_document text ≡ Some tables
  pub says : Says tables c

-- two configurations with the same values, wherever their lists lie in memory
pub record AreAlike (c d : Configuration) : Type 0 where
  pub bssid : c.bssid ≡ d.bssid
  pub ssid : c.ssid.items ≡ d.ssid.items
  pub rates : c.rates.items ≡ d.rates.items
  pub draw : c.draw ≡ d.draw
  pub maps : c.maps ≡ d.maps

-- ---- faults

-- the data is a table
abbrev pub is_table : Data → Bool
is_table (table m) = true
is_table _ = false

-- all items are tables
abbrev pub are_tables : Items → Bool
are_tables no_items = true
are_tables (item d rest) = is_table d && are_tables rest

-- how many items there are
abbrev pub count_items : Items → ℕ
count_items no_items = 0
count_items (item d rest) = suc (count_items rest)

-- an array of at most 16 tables
abbrev pub are_maps : Data → Bool
are_maps (array maps) = nat_le (count_items maps) 16 && are_tables maps
are_maps _ = false

-- the data isn't allowed as the key's value
abbrev pub IsNoValue : Key → Data → Type 0
IsNoValue top.Bssid d = bssid_of d ≡ None
IsNoValue top.Ssid d = ssid_of d ≡ None
IsNoValue top.Rates d = rates_of d ≡ None
IsNoValue top.Draw d = draw_of d ≡ None
IsNoValue top.Map d = are_maps d ≡ false

-- the data isn't allowed as the value of a map's key
abbrev pub IsNoMapValue : MapKey → Data → Type 0
IsNoMapValue in_map.Entries d = count_of 4096 d ≡ None
IsNoMapValue in_map.Words d = count_of 8 d ≡ None
IsNoMapValue in_map.Width d = width_of d ≡ None
IsNoMapValue in_map.Scope d = scope_of d ≡ None

-- the table has this key, which isn't known
pub record HasUnknownKey (t : Members) (known : List ℕ → Bool) (text : List ℕ) : Type 0 where
  pub there : Contains (keys_in t) text
  pub unknown : known text ≡ false

-- the table lacks the key
abbrev pub LacksKey : Members → List ℕ → Type 0
LacksKey t text = get_member text t ≡ None

-- the table has the key, with data that isn't allowed
pub record HasBadValue (t : Members) (k : Key) : Type 0 where
  pub value : Data
  pub there : get_member (text_of k) t ≡ Some value
  pub bad : IsNoValue k value

-- a map's table has the key, with data that isn't allowed
pub record HasBadMapValue (m : Members) (k : MapKey) : Type 0 where
  pub value : Data
  pub there : get_member (map_text_of k) m ≡ Some value
  pub bad : IsNoMapValue k value

-- what a fault says of the table of map `number`
abbrev pub TellsOfMap : Members → ℕ → ConfigFault → Type 0
TellsOfMap m number (fault.UnknownMapKey map key) =
    (map ≡ number) × HasUnknownKey m is_map_key (string_bytes key)
TellsOfMap m number (fault.MissingInMap map key) =
    (map ≡ number) × (key ≢ in_map.Scope) × LacksKey m (map_text_of key)
TellsOfMap m number (fault.ValueInMap map key) = (map ≡ number) × HasBadMapValue m key
TellsOfMap m number fault.NoMemory = Unit {0}
TellsOfMap m number _ = ⊥

-- what a fault says of the item of map `number`
abbrev pub TellsOfItem : Data → ℕ → ConfigFault → Type 0
TellsOfItem d number (fault.Value key) = (key ≡ top.Map) × (is_table d ≡ false)
TellsOfItem d number fault.NoMemory = Unit {0}
TellsOfItem d number f = (m : Members) × (d ≡ table m) × TellsOfMap m number f

-- one of the maps has the fault
pub record TellsOfSomeItem (maps : Items) (f : ConfigFault) : Type 0 where
  pub number : ℕ
  pub map : Members
  pub there : get_item number maps ≡ Some (table map)
  pub tells : TellsOfMap map number f

-- the configuration has an array of maps, one of which has the fault
pub record TellsOfSomeMap (t : Members) (f : ConfigFault) : Type 0 where
  pub maps : Items
  pub there : get_member (codes "map") t ≡ Some (array maps)
  pub tells : TellsOfSomeItem maps f

-- what a fault says of the items of the key `map`
abbrev pub TellsOfItems : Items → ConfigFault → Type 0
TellsOfItems maps (fault.Value key) = (key ≡ top.Map) × (are_tables maps ≡ false)
TellsOfItems maps fault.NoMemory = Unit {0}
TellsOfItems maps f = TellsOfSomeItem maps f

-- what a fault says of the whole table
abbrev pub Tells : Members → ConfigFault → Type 0
Tells t (fault.UnknownKey key) = HasUnknownKey t is_key (string_bytes key)
Tells t (fault.Missing key) = (key ≢ top.Map) × LacksKey t (text_of key)
Tells t (fault.Value key) = HasBadValue t key
Tells t fault.NoMemory = Unit {0}
Tells t fault.Encoding = ⊥
Tells t (fault.Syntax message) = ⊥
Tells t f = TellsOfSomeMap t f

-- what a fault says of the TOML reader's error
abbrev pub TellsOfError : Error → ConfigFault → Type 0
TellsOfError e (fault.Syntax message) = IsMemory e → ⊥
TellsOfError e fault.NoMemory = Unit {0}
TellsOfError e _ = ⊥

-- what a fault says of the text; lack of memory says nothing
abbrev pub TellsOfText : List ℕ → ConfigFault → Type 0
TellsOfText text fault.Encoding = IsUtf8 text → ⊥
TellsOfText text (fault.Syntax message) = parse_document text ≡ None
TellsOfText text fault.NoMemory = Unit {0}
TellsOfText text f = (t : Members) × (parse_document text ≡ Some t) × Tells t f
