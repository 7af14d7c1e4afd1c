use Rattle.std.proofs.Common.{◌≡◌, ◌+◌, length, ap, arith}
use Rattle.capture.specs.Packets.{seen_of}
use Rattle.capture.specs.Walks.{packets_in}
use Rattle.apd_policies.specs.Chosen.{is_kept, others}
use Rattle.apd_policies.proofs.Nexts.{some_left, at_most_one, others_counted}
use Rattle.apd_policies.proofs.frames.chosen.count_others.Goals as goal

pub loop-walk-preserved : goal.loop-walk-preserved
loop-walk-preserved c =
    let i = c.loop-walk.invariant in
    let packet = seen_of c.in-Some.packet in
    let first = some_left c.loop-walk.walk c.next.new.self c.in_ok-packet.field-0 c.in-Some.packet c.in_ok-packet.ensures.next c.in-Some.is in
    let long : length c.loop-walk.walk ≡ length c.next.new.self + 1 = omega (arith, ap length first) in
    record {
      few = omega (arith, i.few, long, at_most_one (is_kept c.args.bssid packet.frame) c.unkept-count.result c.unkept-count.ensures.is);
      counted = others_counted c.args.bssid c.loop-walk.count c.unkept-count.result (others c.args.bssid (packets_in c.args.recording.bytes.now)) c.loop-walk.walk c.next.new.self packet first c.unkept-count.ensures.is i.counted;
    }
