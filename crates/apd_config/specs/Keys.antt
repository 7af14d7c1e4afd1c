-- The spelling of a configuration's keys.
use Rattle.std.specs.Prelude.{ℕ, List, codes}
use Rattle.apd_config.specs.declared.keys.Key.{Key}
use Rattle.apd_config.specs.declared.keys.Key.TheVariants.{Bssid, Ssid, Rates, Draw, Map}
use Rattle.apd_config.specs.declared.keys.MapKey.{MapKey}
use Rattle.apd_config.specs.declared.keys.MapKey.TheVariants.{Entries, Words, Width, Scope}

-- the keys of a configuration
abbrev pub text_of : Key → List ℕ
text_of Bssid = codes "bssid"
text_of Ssid = codes "ssid"
text_of Rates = codes "rates"
text_of Draw = codes "draw"
text_of Map = codes "map"

-- the keys of a map's table
abbrev pub map_text_of : MapKey → List ℕ
map_text_of Entries = codes "entries"
map_text_of Words = codes "words"
map_text_of Width = codes "width"
map_text_of Scope = codes "scope"
