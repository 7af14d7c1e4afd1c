use Rattle.apd_driver.specs.Capturing.{out_packets}
use Rattle.apd_driver.proofs.Packets.{next_blocks, one_more}
use Rattle.apd_driver.proofs.captures.packets.append_outs.Goals as goal

pub loop-out-preserved : goal.loop-out-preserved
loop-out-preserved c =
    one_more _ _ _ _ _ _ c.loop-out.invariant
    (next_blocks (out_packets c.args.time c.args.line) c.args.outs.now c.loop-out.out-index c.out-item.result c.loop-out-test.true c.out-item.is)
    c.in_ok-append_out.ensures.ok
