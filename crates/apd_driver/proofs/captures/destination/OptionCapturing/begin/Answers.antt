use Rattle.std.proofs.Common.{Some}
use Rattle.std.proofs.lemmas.Result.{on_ok_weaker}
use Rattle.apd_driver.proofs.captures.destination.OptionCapturing.begin.Goals as goal

pub returns-in-Some : goal.returns-in-Some
returns-in-Some g c =
    rw c.in-Some.is (record { heading = on_ok_weaker c.begin.result (λ h known. h (λ capture. known (Some capture))) c.begin.ensures.heading })
