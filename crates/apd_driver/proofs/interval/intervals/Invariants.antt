use Rattle.std.proofs.Common.{◌≡◌, ◌≤◌, ◌-◌, length, take, vec_len}
use Rattle.apd_script.specs.Asked.{commands_of}
use Rattle.apd_driver.proofs.Ahead.{Ahead}
use Rattle.apd_driver.proofs.interval.intervals.Given as goal

abbrev pub invariant-intervals : goal.invariant-intervals
invariant-intervals g l =
    record {
      home : vec_len l.staff.workers ≡ length l.setting.desks.now;
      workers : (g.O.Operating.crew l.staff.operator).workers ≡ (g.O.Operating.crew l.fn.staff.operator).workers;
      within : l.line ≤ length l.commands;
      ahead : Ahead l.setting.manner (commands_of (take l.line l.commands)) l.before.commands.now l.before.reports.items (g.P.Write.contents l.fn.writer) (g.P.Write.contents l.writer) (g.P.Printing.recorded l.fn.writer) (g.P.Printing.recorded l.writer) (g.O.Operating.crew l.fn.staff.operator) (g.O.Operating.crew l.staff.operator) l.before.found.memory l.before.found.refused l.found.memory l.found.refused;
    }

abbrev pub decreases-intervals : goal.decreases-intervals
decreases-intervals g l = length l.commands - l.line
