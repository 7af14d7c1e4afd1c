use Rattle.std.proofs.lemmas.Result.{on_ok_weaker}
use Rattle.apd_driver.proofs.captures.destination.DestinationRecording.begin.Goals as goal

pub returns-clause-heading : goal.returns-clause-heading
returns-clause-heading g c =
    on_ok_weaker c.begin.result (λ h known. h (λ capture. known (record { lines = c.args.self.now.lines; capture = capture }))) c.begin.ensures.heading
