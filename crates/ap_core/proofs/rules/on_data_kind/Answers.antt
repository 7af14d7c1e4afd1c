use Rattle.ap_core.proofs.rules.on_data_kind.Goals as goal

pub returns-in_ok-outcome-in-Data-clause-step : goal.returns-in_ok-outcome-in-Data-clause-step
returns-in_ok-outcome-in-Data-clause-step g c = λ r. rw c.in-Data.is c.in_ok-outcome-in-Data.ensures.step

pub returns-in_ok-outcome-in-QosData-clause-step : goal.returns-in_ok-outcome-in-QosData-clause-step
returns-in_ok-outcome-in-QosData-clause-step g c = λ r. rw c.in-QosData.is c.in_ok-outcome-in-QosData.ensures.step

pub on_plain_data-requires-clause-came : goal.on_plain_data-requires-clause-came
on_plain_data-requires-clause-came g c = record { spelled = c.requires.came.spelled; standing = c.requires.came.standing }

pub on_qos_data-requires-clause-came : goal.on_qos_data-requires-clause-came
on_qos_data-requires-clause-came g c = record { spelled = c.requires.came.spelled; standing = c.requires.came.standing }
