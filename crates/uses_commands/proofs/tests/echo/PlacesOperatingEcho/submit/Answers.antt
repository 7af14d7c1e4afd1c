use Rattle.std.proofs.Common.{refl}
use Rattle.uses_commands.proofs.Idling.{idle_submits}
use Rattle.uses_commands.proofs.tests.echo.PlacesOperatingEcho.submit.Goals as goal

pub returns : goal.returns
returns g c =
    let h = idle_submits c.args.line c.args.event c.put_event.result c.put_event.ensures.waits c.put_event.ensures.tick in
    record { works = refl; puts = h.0; waits = h.1 }
