-- What a shard's next step needs of its history.
use Rattle.std.specs.Prelude.{ℕ, ◌≤◌, List, Option, length}
use Rattle.assoc.specs.Standings.{Standings}
use Rattle.blockack.specs.Reading.{Reading}

-- an access point's configuration
pub record Config : Type 0 where
  pub bssid : List ℕ
  pub ssid : List ℕ
  pub rates : List ℕ

-- an SSID of at most 32 octets, and one to eight supported rates (IEEE 802.11-2016, 9.4.2)
pub record IsConfig (c : Config) : Type 0 where
  pub name : length c.ssid ≤ 32
  pub some : 1 ≤ length c.rates
  pub few : length c.rates ≤ 8

-- the number and the configuration of a shard
pub record Rules : Type 0 where
  pub shard : ℕ
  pub config : Config

-- of a waiting frame: destination, mark and data; `None` is a placeholder, which is never held
abbrev pub Held : Type 0
Held = Option (List ℕ × ℕ × List ℕ)

-- an agreement: its window with size and scoreboard, its timeout (0 for none), and when it was last used
pub record Using : Type 0 where
  pub window : Reading Held
  pub timeout : ℕ
  pub last_use : ℕ

-- each station's standing; the agreements, by station and TID; the sum of the ticks, at most 2 ^ 64 - 1
pub record Readings : Type 0 where
  pub standing : Standings
  pub agreement : List ℕ → ℕ → Option Using
  pub clock : ℕ
