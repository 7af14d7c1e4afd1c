use Rattle.std.proofs.Common.{take, drop, ◌∙◌, ap}
use Rattle.apd_driver.proofs.Packets.{next_interval}
use Rattle.apd_driver.proofs.captures.recorder.write_interval.Goals as goal

pub loop-numbered-preserved : goal.loop-numbered-preserved
loop-numbered-preserved g c =
    next_interval _ _ _ _ _ _ _ _ _ c.args.commands.now c.loop-numbered.numbered-index c.numbered-item.result c.loop-numbered.rest.now _ _
    c.loop-numbered-test.true c.numbered-item.is c.time_after-now.ensures.is
    (c.split_at.ensures.front ∙ ap (λ k. take k c.loop-numbered.rest.now) c.up_to.ensures.is)
    (c.split_at.ensures.back ∙ ap (λ k. drop k c.loop-numbered.rest.now) c.up_to.ensures.is)
    c.loop-numbered.invariant c.in_ok-append_line.ensures.ok c.in_ok-flush_if_long.ensures.moved
