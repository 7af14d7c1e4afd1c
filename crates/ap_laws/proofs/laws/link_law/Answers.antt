use Rattle.ap_laws.proofs.AppendLaws.{runs_append, leads_append_so, histories_meet}
use Rattle.ap_laws.proofs.AskLaws.{steps_ask_once, lists_asks}
use Rattle.ap_laws.proofs.HeadlineLaws.{access_points_hold_so, events_hold, each_run_holds, windows_stand_apart, link_windows_stand_apart}
use Rattle.ap_laws.proofs.laws.link_law.Goals as goal

pub returns-clause-access_point : goal.returns-clause-access_point
returns-clause-access_point g c = access_points_hold_so g.J.Judge.gives

pub returns-clause-shard : goal.returns-clause-shard
returns-clause-shard g c = events_hold g.J.Judge.gives

pub returns-clause-run : goal.returns-clause-run
returns-clause-run g c = each_run_holds

pub returns-clause-windows : goal.returns-clause-windows
returns-clause-windows g c = link_windows_stand_apart

pub returns-clause-windows_of_a_shard : goal.returns-clause-windows_of_a_shard
returns-clause-windows_of_a_shard g c = windows_stand_apart

pub returns-clause-appended : goal.returns-clause-appended
returns-clause-appended g c = runs_append

pub returns-clause-appended_with_judge : goal.returns-clause-appended_with_judge
returns-clause-appended_with_judge g c = leads_append_so g.J.Judge.gives

pub returns-clause-histories : goal.returns-clause-histories
returns-clause-histories g c = histories_meet

pub returns-clause-asked_once : goal.returns-clause-asked_once
returns-clause-asked_once g c = steps_ask_once

pub returns-clause-listed : goal.returns-clause-listed
returns-clause-listed g c = lists_asks g.J.Judge.asks g.J.Judge.gives g.met.J.Judge.lists
