use Rattle.ap_core.specs.AccessPoints.{outs_in}
use Rattle.uses_policies.proofs.Policing.{from_nobody}
use Rattle.uses_policies.proofs.eight.serve.Goals as goal

pub returns-clause-headline : goal.returns-clause-headline
returns-clause-headline c =
    from_nobody _ c.link_law.ensures.access_point c.new-nobody.result c.args.policies c.args.config.now c.in_ok-shards.shards c.go_on.new.shards
    c.args.events.now (outs_in c.in_ok-results.results.items) c.in_ok-shards.ensures.fresh c.in_ok-results.ensures.policed
