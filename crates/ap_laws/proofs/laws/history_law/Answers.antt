use Rattle.ap_laws.proofs.AgreedExample.{some_is_passed_in_order}
use Rattle.ap_laws.proofs.Example.{some_is_passed_up}
use Rattle.ap_laws.proofs.HistoryLaws.{readings_serve, readings_go_on, runs_are_histories}
use Rattle.ap_laws.proofs.IdentifierLaws.{opening_holds, runs_hold, access_points_hold}
use Rattle.ap_laws.proofs.OrderLaws.{tells_one, goes_on_in_order, ends_in_order, drops_silently, runs_are_read}
use Rattle.ap_laws.proofs.OriginLaws.{opening_agrees, runs_hold_agreements, from_any_readings, from_the_opening}
use Rattle.ap_laws.proofs.laws.history_law.Goals as goal

pub returns-clause-opening_identifiers : goal.returns-clause-opening_identifiers
returns-clause-opening_identifiers c = opening_holds

pub returns-clause-kept_identifiers : goal.returns-clause-kept_identifiers
returns-clause-kept_identifiers c = runs_hold

pub returns-clause-identifiers : goal.returns-clause-identifiers
returns-clause-identifiers c = access_points_hold

pub returns-clause-opening_agreements : goal.returns-clause-opening_agreements
returns-clause-opening_agreements c = opening_agrees

pub returns-clause-kept_agreements : goal.returns-clause-kept_agreements
returns-clause-kept_agreements c = runs_hold_agreements

pub returns-clause-origin_from_readings : goal.returns-clause-origin_from_readings
returns-clause-origin_from_readings c = from_any_readings

pub returns-clause-origin : goal.returns-clause-origin
returns-clause-origin c = from_the_opening

pub returns-clause-some_origin : goal.returns-clause-some_origin
returns-clause-some_origin c = some_is_passed_up

pub returns-clause-one_agreement : goal.returns-clause-one_agreement
returns-clause-one_agreement c = tells_one

pub returns-clause-order : goal.returns-clause-order
returns-clause-order c = goes_on_in_order

pub returns-clause-order_at_end : goal.returns-clause-order_at_end
returns-clause-order_at_end c = ends_in_order

pub returns-clause-dropped : goal.returns-clause-dropped
returns-clause-dropped c = drops_silently

pub returns-clause-some_order : goal.returns-clause-some_order
returns-clause-some_order c = some_is_passed_in_order

pub returns-clause-readings : goal.returns-clause-readings
returns-clause-readings c = runs_are_read

pub returns-clause-steps : goal.returns-clause-steps
returns-clause-steps c = readings_serve

pub returns-clause-going_on : goal.returns-clause-going_on
returns-clause-going_on c = readings_go_on

pub returns-clause-runs : goal.returns-clause-runs
returns-clause-runs c = runs_are_histories
