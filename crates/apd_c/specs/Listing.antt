-- The stations and the agreements of an access point, as C reads them.
use Rattle.std.specs.Prelude.{◌≡◌, ℕ, List, [], map, Option, Some, None}
use Rattle.assoc.specs.Standings.{known_aid, known_state}
use Rattle.assoc.specs.declared.standing.KnownStation.{KnownStation}
use Rattle.ap_agreements.specs.declared.in_force.AgreementInForce.{AgreementInForce}
use Rattle.ap_core.specs.Listing.{MergesAgreements, MergesStations}
use Rattle.ap_core.specs.Shards.{reads}
use Rattle.ap_single.specs.Leading.{Parts}
use Rattle.apd_c.specs.declared.handle.Content.{Content}
use Rattle.apd_c.specs.declared.handle.Content.TheVariants as content
use Rattle.apd_c.specs.declared.rows.AgreementRow.{AgreementRow}
use Rattle.apd_c.specs.declared.rows.Rows.{Rows}
use Rattle.apd_c.specs.declared.rows.Rows.TheVariants as kind
use Rattle.apd_c.specs.declared.rows.StationRow.{StationRow}
use Rattle.apd_c.specs.Answers.{IsDone, Perhaps, UnlessNone, UnlessSome}
use Rattle.apd_c.specs.Link.{link_of}
use Rattle.apd_c.specs.Outs.{nowhere}

-- the stations that are held; none if the content is something else
abbrev pub stations_of : Option Content → List KnownStation
stations_of (Some (content.Stations v)) = v.items
stations_of _ = []

-- the agreements that are held; none if the content is something else
abbrev pub agreements_of : Option Content → List AgreementInForce
agreements_of (Some (content.Agreements v)) = v.items
agreements_of _ = []

-- the content is an access point, and the list has the stations that its shards' readings know, each once, by address
abbrev pub KnowsStations : Option Content → List KnownStation → Type 0
KnowsStations link rows = (a : Parts) × (link_of link ≡ Some a) × MergesStations (map reads a.shards) rows

-- the content is an access point, and the list has the agreements of its shards' readings, each once, by address and TID
abbrev pub KeepsAgreements : Option Content → List AgreementInForce → Type 0
KeepsAgreements link rows = (a : Parts) × (link_of link ≡ Some a) × MergesAgreements (map reads a.shards) rows

-- the first content is an access point, and the other its list of these rows
abbrev pub HasListed : Rows → Option Content → Option Content → Type 0
HasListed kind.Stations link o = KnowsStations link (stations_of o)
HasListed kind.Agreements link o = KeepsAgreements link (agreements_of o)

-- 91 exactly if the content is no access point; otherwise perhaps 40; otherwise 0
abbrev pub IsListedNumber : Option Content → ℕ → Type 0
IsListedNumber link = UnlessSome (link_of link) 91 (λ a. Perhaps 40 IsDone)

-- The number of filling an empty handle with a list: 92 exactly if it isn't empty; otherwise the number of listing.
abbrev pub IsListNumber : Option Content → Option Content → ℕ → Type 0
IsListNumber link o = UnlessNone o 92 (IsListedNumber link)

-- a station as C reads it: its state is 2 or 3; 0 stands for no station
abbrev pub station_row : Option KnownStation → StationRow
station_row None = record { station = record { octets = nowhere }; state = 0; aid = 0 }
station_row (Some row) = record { station = record { octets = row.station }; state = known_state row.known; aid = known_aid row.known }

-- an agreement as C reads it; the size 0 stands for no agreement
abbrev pub agreement_row : Option AgreementInForce → AgreementRow
agreement_row None = record { station = record { octets = nowhere }; tid = 0; start = 0; size = 0; timeout = 0; held = 0 }
agreement_row (Some row) =
    record { station = record { octets = row.station }; tid = row.tid; start = row.start; size = row.size; timeout = row.timeout; held = row.held }
