use Rattle.std.proofs.Common.{refl}
use Rattle.apd_run.specs.NewRuns.{NotConfigured}
use Rattle.apd_run.proofs.Captured.{if_low, keeps_capture}
use Rattle.apd_run.proofs.NewRuns.{runs_configured}
use Rattle.apd_run.proofs.runner.command.live.Goals as goal

pub returns-in-Err : goal.returns-in-Err
returns-in-Err g c = record { runs = NotConfigured _ refl c.complain.ensures.broken; keeps = if_low _ c.complain.ensures.broken }

pub returns-in_default : goal.returns-in_default
returns-in_default g c =
    record { runs = NotConfigured _ refl c.complain-in_default.ensures.broken; keeps = if_low _ c.complain-in_default.ensures.broken }

pub returns-in-Err-begun : goal.returns-in-Err-begun
returns-in-Err-begun g c =
    record { runs = NotConfigured _ c.begun.ensures.output c.in-Err-begun.ensures.broken; keeps = if_low _ c.in-Err-begun.ensures.broken }

pub returns : goal.returns
returns g c =
    record {
      runs = runs_configured _ c.live_configuration.ensures.same c.begun.ensures.output c.in-Ok.ensures.read c.run_told.ensures.runs;
      keeps = λ low. keeps_capture c.begun.ensures.output c.in_default-begun.ensures.heading (c.run_told.ensures.keeps low);
    }
