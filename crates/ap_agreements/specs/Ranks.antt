-- Keys as numbers, whose order is that of the keys.
use Rattle.std.specs.Prelude.{◌≡◌, ◌<◌, ℕ, ◌+◌, ◌*◌, List, [], ◌∷◌, length, All}

-- the number that these octets continue, to base 256
abbrev pub continued : ℕ → List ℕ → ℕ
continued n [] = n
continued n (octet ∷ octets) = continued (256 * n + octet) octets

-- the number of a station and a TID: the octets of the address, then one for the TID
abbrev pub rank : List ℕ → ℕ → ℕ
rank station tid = 256 * continued 0 station + tid

-- n is the rank of a station and a TID, whose octets are below 256
pub record IsRanked (station : List ℕ) (tid n : ℕ) : Type 0 where
  pub long : length station ≡ 6
  pub octets : All (λ octet. octet < 256) station
  pub low : tid < 256
  pub is : n ≡ rank station tid
