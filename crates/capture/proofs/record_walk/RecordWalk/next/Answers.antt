use Rattle.std.proofs.Common.{◌≡◌, suc, ◌-◌, Option, sym, subst, arith}
use Rattle.std.specs.Option.{option_map}
use Rattle.capture.specs.Packets.{seen_of}
use Rattle.capture.specs.Walks.{IsNext}
use Rattle.capture.specs.Walking.{records_left}
use Rattle.capture.specs.declared.packet.Packet.{Packet}
use Rattle.capture.proofs.Stepping.{records_none, records_some}
use Rattle.capture.proofs.record_walk.RecordWalk.next.Goals as goal

pub returns-in_err-packet-clause-next : goal.returns-in_err-packet-clause-next
returns-in_err-packet-clause-next c =
    let w = c.args.self.now in
    let none = records_none w.most w.form w.rest.now c.in_err-packet.ensures.first in
    let P : Option Packet → Type 0 = λ o. IsNext (records_left w) (option_map seen_of o) (records_left w) in
    subst P (sym c.from_residual.ensures) (none, none)

pub returns-clause-next : goal.returns-clause-next
returns-clause-next c =
    let w = c.args.self.now in
    let fewer : w.most ≡ suc (w.most - 1) = omega (arith, c.requires.enough, c.in_ok-packet.ensures.shorter) in
    records_some w.most (w.most - 1) w.form w.rest.now c.in_ok-packet.after.now (seen_of c.in_ok-packet.packet) fewer c.in_ok-packet.ensures.first.0 c.in_ok-packet.ensures.first.1
