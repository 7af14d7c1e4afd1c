use Rattle.std.proofs.Common.{◌≤◌, ◌∙◌, length, sym, None, Some, arith}
use Rattle.std.proofs.lemmas.Bool.Decides.{nat_tests}
use Rattle.capture.specs.Blocks.{framed_of}
use Rattle.capture.proofs.Named.{looked_up}
use Rattle.capture.proofs.block_packets.enhanced.Goals as goal

pub returns-in-Some : goal.returns-in-Some
returns-in-Some c =
    let long : 20 ≤ length c.args.block.body.now = grind (arith, nat_tests) in
    record { is = c.enhanced_packet.ensures.is ∙ sym (looked_up c.args.place c.args.interfaces.now (framed_of c.args.block) _ (Some c.in-Some.interface) long c.u32_at-number.ensures c.in-Some.ensures.lookup) }

pub returns-in-None : goal.returns-in-None
returns-in-None c =
    let long : 20 ≤ length c.args.block.body.now = grind (arith, nat_tests) in
    record { is = sym (looked_up c.args.place c.args.interfaces.now (framed_of c.args.block) _ None long c.u32_at-number.ensures c.in-None.ensures.lookup) }
