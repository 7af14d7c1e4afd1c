use Rattle.std.proofs.Common.{◌≤◌, length, arith, sym}
use Rattle.std.proofs.lemmas.Result.{IfOk-weaker}
use Rattle.mac_frame.specs.Kinds.{header_of, header_length}
use Rattle.mac_frame.proofs.Order.{whole}
use Rattle.mac_frame.proofs.contents.parts_from.Goals as goal

pub returns-clause-found : goal.returns-clause-found
returns-clause-found c =
    let b = c.args.bytes.now in
    let k = c.in-Some.subtype in
    let long : header_length (header_of k) ≤ length b = rw (← c.header-kind.ensures, ← c.len.ensures) c.if-bytes-len.false in
    IfOk-weaker c.parts_by_header.result _ _ (λ p. whole b k p.0 p.1 p.2.now (omega (arith, c.if-bytes-gt2400.false)) c.if-bytes-lt2.false c.if-bytes-ne0.false (sym c.in-Some.ensures.subtype) c.in-Some.ensures.byte long) c.parts_by_header.ensures.found
