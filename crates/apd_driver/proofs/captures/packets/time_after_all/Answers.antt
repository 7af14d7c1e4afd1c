use Rattle.std.proofs.Common.{sym, ap, ◌∙◌, drop, ◌+◌}
use Rattle.apd_driver.specs.Capturing.{time_after_all}
use Rattle.apd_driver.proofs.Packets.{next_time}
use Rattle.apd_driver.proofs.captures.packets.time_after_all.Goals as goal

pub loop-numbered-preserved : goal.loop-numbered-preserved
loop-numbered-preserved c =
    ap (λ t. time_after_all t (drop (c.loop-numbered.numbered-index + 1) c.args.commands.now)) c.time_after-now.ensures.is
    ∙ (sym (next_time c.loop-numbered.now c.args.commands.now c.loop-numbered.numbered-index c.numbered-item.result c.loop-numbered-test.true c.numbered-item.is)
    ∙ c.loop-numbered.invariant)
