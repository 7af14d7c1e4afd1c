use Rattle.std.proofs.Common.{ap, refl, ◌∙◌}
use Rattle.ap_live.specs.Tokens.{Operator}
use Rattle.apd_run.proofs.Keeping.{put_token}
use Rattle.apd_run.proofs.Operated.{no_such_shard, put_there, put_tick, starts_there, waits_there, waits_tick, works, works_same}
use Rattle.apd_run.proofs.access.operator.LiveOperatorOperatingLiveWorker.go_on.Goals as goal

pub invariant_of-self : goal.invariant_of-self
invariant_of-self g c = put_token _ _ _ _ c.submit_at.ensures.own (ap (λ (o : Operator). o.shards) c.submit_at.ensures.same ∙ ap (λ (o : Operator). o.shards) c.deref_mut.ensures.value) c.self.invariant

pub invariant_of-self-in-Err : goal.invariant_of-self-in-Err
invariant_of-self-in-Err g c = put_token _ _ _ _ c.submit_at.ensures.own (ap (λ (o : Operator). o.shards) c.submit_at.ensures.same ∙ ap (λ (o : Operator). o.shards) c.deref_mut.ensures.value) c.self.invariant

pub invariant_of-self-in-Ok-submit : goal.invariant_of-self-in-Ok-submit
invariant_of-self-in-Ok-submit g c =
    put_token _ _ _ _ c.submit.ensures.own (ap (λ (o : Operator). o.shards) c.submit.ensures.same ∙ ap (λ (o : Operator). o.shards) c.deref_mut-in_default.ensures.value) c.self.invariant

pub invariant_of-self-in-Err-submit : goal.invariant_of-self-in-Err-submit
invariant_of-self-in-Err-submit g c =
    put_token _ _ _ _ c.submit.ensures.own (ap (λ (o : Operator). o.shards) c.submit.ensures.same ∙ ap (λ (o : Operator). o.shards) c.deref_mut-in_default.ensures.value) c.self.invariant

pub returns-then-shard-ge8 : goal.returns-then-shard-ge8
returns-then-shard-ge8 g c =
    record { works = works_same _ _ refl; puts = λ k. absurd (no_such_shard _ _ _ c.in-Tick.is c.if-shard-ge8.true k); waits = λ k. tt }

pub returns-in-Ok : goal.returns-in-Ok
returns-in-Ok g c =
    record {
      works = works g.F.Files.held _ _ _ c.self.view_is;
      puts = λ k. put_tick g.F.Files.held _ _ c.submit_at.new.operator _ _ _ _ _ c.self.view_is c.deref_mut.ensures.value c.submit_at.ensures.same c.if-shard-ge8.false c.in-Tick.is c.in-Ok.ensures.put;
      waits = λ k. tt;
    }

pub returns-in-Err : goal.returns-in-Err
returns-in-Err g c =
    record {
      works = works g.F.Files.held _ _ _ c.self.view_is;
      puts = λ k. tt;
      waits = λ k. waits_tick g.F.Files.held _ _ _ c.submit_at.new.operator _ _ _ _ _ _ _ c.self.view_is c.deref_mut.ensures.value c.submit_at.ensures.same c.if-shard-ge8.false c.in-Tick.is c.in-Err.ensures.refused c.waiting_for.ensures.is;
    }

pub returns-in-Ok-submit : goal.returns-in-Ok-submit
returns-in-Ok-submit g c =
    record {
      works = works g.F.Files.held _ _ _ c.self.view_is;
      puts = λ k. put_there g.F.Files.held _ _ c.submit.new.operator _ _ _ _ c.self.view_is c.deref_mut-in_default.ensures.value c.submit.ensures.same (starts_there _ _ c.in_default.not-Tick k) c.in-Ok-submit.ensures.put;
      waits = λ k. tt;
    }

pub returns-in-Err-submit : goal.returns-in-Err-submit
returns-in-Err-submit g c =
    record {
      works = works g.F.Files.held _ _ _ c.self.view_is;
      puts = λ k. tt;
      waits = λ k. waits_there g.F.Files.held _ _ _ c.submit.new.operator _ _ _ _ _ _ c.self.view_is c.deref_mut-in_default.ensures.value c.submit.ensures.same (starts_there _ _ c.in_default.not-Tick k) c.in-Err-submit.ensures.refused c.waiting_for-in-Err-submit.ensures.is;
    }
