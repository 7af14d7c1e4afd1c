use Rattle.std.proofs.Common.{List, Some, ap, refl}
use Rattle.apd_script.specs.Asked.{commands_of}
use Rattle.apd_script.specs.declared.command.Numbered.{Numbered}
use Rattle.apd_run.specs.NewRuns.{NotRead}
use Rattle.apd_run.proofs.Captured.{if_low, keeps_read}
use Rattle.apd_run.proofs.NewRuns.{runs_read}
use Rattle.apd_run.proofs.runner.command.run.Goals as goal

pub returns-in-Err : goal.returns-in-Err
returns-in-Err g c = record { runs = NotRead _ refl c.complain.ensures.broken; keeps = if_low _ c.complain.ensures.broken }

pub returns-in-Err-read : goal.returns-in-Err-read
returns-in-Err-read g c =
    record { runs = NotRead _ refl c.complain-in-Err-read.ensures.broken; keeps = if_low _ c.complain-in-Err-read.ensures.broken }

pub returns-in-Err-read_script : goal.returns-in-Err-read_script
returns-in-Err-read_script g c =
    record {
      runs = NotRead _ refl c.complain-in-Err-read_script.ensures.broken;
      keeps = if_low _ c.complain-in-Err-read_script.ensures.broken;
    }

pub returns-in-Err-begun : goal.returns-in-Err-begun
returns-in-Err-begun g c =
    record { runs = NotRead _ c.begun.ensures.output c.in-Err-begun.ensures.broken; keeps = if_low _ c.in-Err-begun.ensures.broken }

pub returns : goal.returns
returns g c =
    let lines_are = ap (λ (l : List Numbered). Some (commands_of l)) c.as_slice-commands.ensures.value in
    record {
      runs = runs_read _ c.in-Ok.ensures.read c.configuration.ensures.same c.read.ensures.same c.in-Ok-read.ensures.text c.as_slice.ensures.value c.in-Ok-read_script.ensures.script lines_are c.begun.ensures.output c.run_told.ensures.runs;
      keeps = λ low. keeps_read _ c.configuration.ensures.same c.in-Ok-read.ensures.text c.as_slice.ensures.value c.in-Ok-read_script.ensures.script lines_are c.begun.ensures.output c.in_default.ensures.heading (c.run_told.ensures.keeps low);
    }
