use Rattle.std.proofs.Common.{sym, ◌∙◌}
use Rattle.apd_run.specs.NewRuns.{NotBegun}
use Rattle.apd_run.proofs.Captured.{if_low}
use Rattle.apd_run.proofs.NewRuns.{runs_under}
use Rattle.apd_run.proofs.Returning.{whole_unused}
use Rattle.apd_run.proofs.access.run.run_live.Goals as goal

pub deal-requires-clause-unwritten : goal.deal-requires-clause-unwritten
deal-requires-clause-unwritten g c = whole_unused _ _ c.in-Ok.ensures.shards

pub returns-in_default : goal.returns-in_default
returns-in_default g c =
    record {
      runs = NotBegun _ c.without_memory.ensures.same c.without_memory.ensures.broken;
      keeps = if_low _ c.without_memory.ensures.broken;
    }

pub returns-in_default-deal : goal.returns-in_default-deal
returns-in_default-deal g c =
    record {
      runs = NotBegun _ c.without_memory-in_default-deal.ensures.same c.without_memory-in_default-deal.ensures.broken;
      keeps = if_low _ c.without_memory-in_default-deal.ensures.broken;
    }

pub returns : goal.returns
returns g c = record { runs = runs_under _ (sym c.requires.config) (c.deal.ensures.maps ∙ c.in-Ok.ensures.maps) c.run_with.ensures.runs; keeps = c.run_with.ensures.keeps }
