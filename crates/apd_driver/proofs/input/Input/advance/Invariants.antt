use Rattle.std.proofs.Common.{◌≡◌}
use Rattle.std.specs.Io.KnownBytes.{Keeps}
use Rattle.apd_driver.proofs.input.Input.advance.Given as goal

-- nothing was written yet
abbrev pub invariant-loop : goal.invariant-loop
invariant-loop g l =
    record {
      keeps : Keeps (g.P.Write.contents l.initial.console) (g.P.Write.contents l.console);
      kept : g.P.Printing.recorded l.console ≡ g.P.Printing.recorded l.initial.console;
    }
