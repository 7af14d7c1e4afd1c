use Rattle.std.proofs.Common.{◌≡◌, ◌-◌, ◌^◌, None, length, vec_len}
use Rattle.apd_driver.specs.Captures.{KeepsRun}
use Rattle.apd_driver.specs.Shows.{ShowsScript}
use Rattle.apd_driver.proofs.input.Input.do_all.Given as goal

abbrev pub invariant-intervals : goal.invariant-intervals
invariant-intervals g l =
    record {
      home : vec_len l.staff.workers ≡ length l.setting.desks.now;
      workers : (g.O.Operating.crew l.staff.operator).workers ≡ (g.O.Operating.crew l.fn.staff.operator).workers;
      shown : ShowsScript l.setting.manner None (g.P.Write.contents l.fn.writer) (g.P.Write.contents l.writer) (g.O.Operating.crew l.fn.staff.operator) (g.O.Operating.crew l.staff.operator) l.found.memory l.found.refused;
      kept : KeepsRun l.setting.manner.form None (g.P.Write.contents l.fn.writer) (g.P.Write.contents l.writer) (g.P.Printing.recorded l.fn.writer) (g.P.Printing.recorded l.writer);
    }

abbrev pub decreases-intervals : goal.decreases-intervals
decreases-intervals g l = 2 ^ 64 - l.number
