use Rattle.std.proofs.Common.{Some, None, sym, subst}
use Rattle.capture.specs.Walks.{packets_in}
use Rattle.apd_program.specs.Scripts.{IsFor, ForAll, ForGiven}
use Rattle.apd_program.specs.declared.frames.Choice.{Choice}
use Rattle.apd_program.proofs.frames.bssid.Goals as goal

pub returns-in-All-clause-bssid : goal.returns-in-All-clause-bssid
returns-in-All-clause-bssid c =
    let P : Choice → Type 0 = λ ch. IsFor (packets_in c.args.recording.bytes.now) ch None in subst P (sym c.in-All.is) ForAll

pub returns-in-Given-clause-bssid : goal.returns-in-Given-clause-bssid
returns-in-Given-clause-bssid c =
    let P : Choice → Type 0 = λ ch. IsFor (packets_in c.args.recording.bytes.now) ch (Some c.in-Given.bssid) in subst P (sym c.in-Given.is) (ForGiven c.in-Given.bssid)
