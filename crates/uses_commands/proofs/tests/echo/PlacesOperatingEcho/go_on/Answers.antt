use Rattle.std.proofs.Common.{refl}
use Rattle.uses_commands.proofs.Idling.{idle_goes_on}
use Rattle.uses_commands.proofs.tests.echo.PlacesOperatingEcho.go_on.Goals as goal

pub returns : goal.returns
returns g c =
    let h = idle_goes_on c.args.line c.args.waiting.event c.args.waiting.shard c.put_event.result c.put_event.ensures.waits in
    record { works = refl; puts = λ concerned. (h concerned).0; waits = λ concerned. (h concerned).1 }
