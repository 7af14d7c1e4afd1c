use Rattle.std.proofs.Common.{sym, ◌∙◌}
use Rattle.bpf_cert_format.proofs.Rising.{low_label, large_room, goes_on, at_end}
use Rattle.bpf_cert_format.proofs.parts.are_rising.Goals as goal
use Rattle.bpf_cert_format.proofs.parts.are_rising.Goals.{then-room-above-via-then-room-above, then-room-above-via-else-room-above+then-room-gt2400}

pub returns-then-room-above : goal.returns-then-room-above
returns-then-room-above c =
    elim c.then-room-above.branch [
      | then-room-above-via-then-room-above w ↦ record { is = sym (low_label c.loop-room.above c.args.rooms.now c.loop-room.room-index c.loop-room-test.true w.if-room-above.true) ∙ c.loop-room.invariant }
      | then-room-above-via-else-room-above+then-room-gt2400 w ↦ record { is = sym (large_room c.loop-room.above c.args.rooms.now c.loop-room.room-index c.loop-room-test.true w.if-room-above.false w.if-room-gt2400.true) ∙ c.loop-room.invariant }
    ]

pub loop-room-preserved : goal.loop-room-preserved
loop-room-preserved c = goes_on c.loop-room.above c.args.rooms.now c.loop-room.room-index c.loop-room-test.true c.if-room-above.false c.if-room-gt2400.false ∙ c.loop-room.invariant

pub returns : goal.returns
returns c = record { is = sym (at_end c.loop-room.above c.args.rooms.now c.loop-room.room-index c.loop-room-test.false) ∙ c.loop-room.invariant }
