use Rattle.std.proofs.Common.{Option, Some, subst, sym}
use Rattle.std.specs.Time.{instant_nanos}
use Rattle.apd_driver.specs.Clocks.{since, since_if}
use Rattle.apd_driver.specs.Units.{Passes}
use Rattle.apd_driver.specs.declared.source.passing.Passing.{Passing}
use Rattle.apd_driver.proofs.Looking.{tells}
use Rattle.uses_commands.proofs.tests.clocks.StepsSource.passed.Goals as goal

pub returns-in-Ok : goal.returns-in-Ok
returns-in-Ok c =
    let told = tells c.in-Some.passing c.tell.new.self (instant_nanos c.in-Ok.now) c.tell.result c.tell.ensures.is c.tell.ensures.told c.tell.ensures.begun in
    record { passes = subst (λ (o : Option Passing). Passes (since_if o) (Some (since c.tell.new.self)) c.tell.result) (sym c.in-Some.is) told }
