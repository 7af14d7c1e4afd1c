-- What an operator lists, as rows.
use Rattle.std.specs.Prelude.{◌≡◌, ℕ, List, map, Option, None, Some}
use Rattle.ap_model.specs.Readings.{Config}
use Rattle.ap_core.specs.Listing.{MergesAgreements, MergesStations}
use Rattle.assoc.specs.declared.standing.Known.{Known}
use Rattle.assoc.specs.declared.standing.Known.TheVariants.{Authenticated, Associated}
use Rattle.assoc.specs.declared.standing.KnownStation.{KnownStation}
use Rattle.ap_agreements.specs.declared.in_force.AgreementInForce.{AgreementInForce}
use Rattle.ap_shards.specs.Listing.{Shows}
use Rattle.ap_shards.specs.Tokens.{Eight}
use Rattle.apd_driver.specs.declared.answers.answer.AgreementRow.{AgreementRow}
use Rattle.apd_driver.specs.declared.answers.answer.StationRow.{StationRow}

-- the association identifier of an associated station
abbrev pub aid_of : Known → Option ℕ
aid_of Authenticated = None
aid_of (Associated aid) = Some aid

-- a known station as a row
abbrev pub station_row : KnownStation → StationRow
station_row k = record { station = k.station; aid = aid_of k.known }

-- an agreement as a row
abbrev pub agreement_row : AgreementInForce → AgreementRow
agreement_row a = record { station = a.station; tid = a.tid; start = a.start; size = a.size; held = a.held; timeout = a.timeout }

-- the rows are the stations that all shards know, each shard's at a moment that the token then has seen
pub record ListsStations (config : Config) (a b : Eight) (rows : List StationRow) : Type 0 where
  pub known : List KnownStation
  pub shows : Shows MergesStations config a b known
  pub rows_are : rows ≡ map station_row known

-- the same of agreements
pub record ListsAgreements (config : Config) (a b : Eight) (rows : List AgreementRow) : Type 0 where
  pub agreements : List AgreementInForce
  pub shows : Shows MergesAgreements config a b agreements
  pub rows_are : rows ≡ map agreement_row agreements
