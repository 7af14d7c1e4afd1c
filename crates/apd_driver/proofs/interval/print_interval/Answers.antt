use Rattle.apd_driver.proofs.Ahead.{part_of}
use Rattle.apd_driver.proofs.Broken.{on_err}
use Rattle.apd_driver.proofs.interval.print_interval.Goals as goal

pub returns-clause-prints : goal.returns-clause-prints
returns-clause-prints g c =
    record {
      prints = record {
        printed = c.in_ok-answered.answered.reports.items;
        ordered = c.in_ok-answered.ensures.ordered;
        text = c.in_ok-print_answered.ensures.prints;
        memory_is = c.in_ok-answered.ensures.memory;
        refused_is = c.in_ok-answered.ensures.refused;
      };
      records = rw (← c.in_ok-answered.ensures.commands) c.in_ok-print_answered.ensures.records;
    }

pub returns-in_err-print_answered-clause-breaks : goal.returns-in_err-print_answered-clause-breaks
returns-in_err-print_answered-clause-breaks g c =
    on_err _ _ (part_of _ _ _ _ _ c.in_ok-answered.ensures.ordered c.in_err-print_answered.ensures.breaks)
