use Rattle.ap_locked.specs.Tokens.{rules}
use Rattle.ap_shards.specs.Judged.{AnyVerdicts}
use Rattle.ap_shards.proofs.Adding.{adds}
use Rattle.ap_shards.proofs.actions.act_at.Goals as goal

pub returns-clause-acted : goal.returns-clause-acted
returns-clause-acted g c = (_, adds AnyVerdicts (rules g.row.SHARD g.B.Journals.config) c.in_ok-outs.ensures.holds c.in_ok-outs.ensures.entry (λ asked listed. tt))
