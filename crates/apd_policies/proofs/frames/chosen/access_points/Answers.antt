use Rattle.std.proofs.Common.{◌≡◌, List, [], refl, sym, subst}
use Rattle.capture.specs.Packets.{Seen}
use Rattle.capture.specs.Walks.{packets_in}
use Rattle.apd_policies.specs.Chosen.{AreNamed, points_of}
use Rattle.apd_policies.specs.declared.frames.chosen.Named.{Named}
use Rattle.apd_policies.specs.declared.frames.chosen.Named.TheVariants.{NoOne}
use Rattle.apd_policies.proofs.Naming.{named_from, AreNamed-from}
use Rattle.apd_policies.proofs.Nexts.{none_left}
use Rattle.apd_policies.proofs.frames.chosen.access_points.Goals as goal

pub returns : goal.returns
returns c =
    let l = c.loop-walk in
    let all = packets_in c.args.recording.bytes.now in
    let ended = none_left l.walk c.next.new.self c.in_ok-packet.field-0 c.in_ok-packet.ensures.next c.in_default.is in
    let Q : List Seen → Type 0 = λ rest. named_from l.named rest ≡ named_from NoOne all in
    let is : l.named ≡ named_from NoOne all = subst Q ended l.invariant in
    let P : Named → Type 0 = λ n. AreNamed (points_of all) n in
    record { is = subst P (sym is) (AreNamed-from all [] NoOne refl) }
