use Rattle.std.proofs.Common.{subst}
use Rattle.capture.specs.Walks.{packets_in}
use Rattle.apd_policies.specs.Chosen.{AreNamed, points_of}
use Rattle.apd_policies.specs.declared.frames.chosen.Named.{Named}
use Rattle.apd_program.specs.Scripts.{ForOnly, ForNobody}
use Rattle.apd_program.proofs.frames.only.Goals as goal

pub returns-in-NoOne-clause-bssid : goal.returns-in-NoOne-clause-bssid
returns-in-NoOne-clause-bssid c =
    let P : Named → Type 0 = λ n. AreNamed (points_of (packets_in c.args.recording.bytes.now)) n in
    ForNobody (subst P c.in-NoOne.is c.in_ok-named.ensures.is)

pub returns-in-One-clause-bssid : goal.returns-in-One-clause-bssid
returns-in-One-clause-bssid c =
    let P : Named → Type 0 = λ n. AreNamed (points_of (packets_in c.args.recording.bytes.now)) n in
    ForOnly c.in-One.bssid (subst P c.in-One.is c.in_ok-named.ensures.is)
