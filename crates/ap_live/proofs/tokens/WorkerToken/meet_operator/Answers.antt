use Rattle.ap_live.proofs.Upheld.{all_uphold}
use Rattle.ap_laws.proofs.HeadlineLaws.{each_run_holds}
use Rattle.ap_live.proofs.tokens.WorkerToken.meet_operator.Goals as goal

pub returns-clause-upholds : goal.returns-clause-upholds
returns-clause-upholds g c = all_uphold each_run_holds g.B.Journals.config c.meet.new.self c.meet.ensures.tokens

pub returns-clause-operator_upholds : goal.returns-clause-operator_upholds
returns-clause-operator_upholds g c = all_uphold each_run_holds g.B.Journals.config c.meet.new.other c.meet.ensures.other_tokens
