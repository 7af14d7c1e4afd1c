use Rattle.std.proofs.Common.{ap, ◌∙◌}
use Rattle.ap_live.specs.Tokens.{Operator}
use Rattle.apd_run.proofs.Keeping.{put_token}
use Rattle.apd_run.proofs.Operated.{put_all, waits_all, works}
use Rattle.apd_run.proofs.access.operator.LiveOperatorOperatingLiveWorker.submit.Goals as goal

pub invariant_of-self-in-Err : goal.invariant_of-self-in-Err
invariant_of-self-in-Err g c = put_token _ _ _ _ c.submit.ensures.own (ap (λ (o : Operator). o.shards) c.submit.ensures.same ∙ ap (λ (o : Operator). o.shards) c.deref_mut.ensures.value) c.self.invariant

pub returns-in-Ok : goal.returns-in-Ok
returns-in-Ok g c =
    record { works = works g.F.Files.held _ _ _ c.self.view_is; puts = put_all g.F.Files.held _ _ c.submit.new.operator _ _ _ c.self.view_is c.deref_mut.ensures.value c.submit.ensures.same c.in-Ok.ensures.put; waits = tt }

pub returns-in-Err : goal.returns-in-Err
returns-in-Err g c =
    record { works = works g.F.Files.held _ _ _ c.self.view_is; puts = tt; waits = waits_all g.F.Files.held _ _ _ c.submit.new.operator _ _ _ _ _ c.self.view_is c.deref_mut.ensures.value c.submit.ensures.same c.in-Err.ensures.refused c.waiting_for.ensures.is }
