use Rattle.ap_laws.proofs.AlongsideLaws.{runs_leave_same_starts, link_runs_leave_same_starts}
use Rattle.ap_laws.proofs.laws.window_law.Goals as goal

pub returns-clause-shard : goal.returns-clause-shard
returns-clause-shard c = runs_leave_same_starts

pub returns-clause-access_point : goal.returns-clause-access_point
returns-clause-access_point c = link_runs_leave_same_starts
