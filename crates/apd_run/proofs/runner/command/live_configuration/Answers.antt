use Rattle.apd_run.proofs.NewRuns.{configured_still}
use Rattle.apd_run.proofs.runner.command.live_configuration.Goals as goal

pub returns-clause-read : goal.returns-clause-read
returns-clause-read g c = configured_still c.open.ensures.same c.in_ok-configuration.ensures.read
