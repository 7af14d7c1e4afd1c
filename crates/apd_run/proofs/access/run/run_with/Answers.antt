use Rattle.apd_run.specs.NewRuns.{Begun, NotBegun}
use Rattle.apd_run.proofs.Captured.{if_low}
use Rattle.apd_run.proofs.access.run.run_with.Goals as goal

pub returns-in_default : goal.returns-in_default
returns-in_default g c =
    record {
      runs = NotBegun _ c.without_memory.ensures.same c.without_memory.ensures.broken;
      keeps = if_low _ c.without_memory.ensures.broken;
    }

pub returns : goal.returns
returns g c = record { runs = Begun _ _ c.new_operator-operator.ensures.new c.run_lines-ended.ensures.runs; keeps = c.run_lines-ended.ensures.keeps }
