use Rattle.std.proofs.Common.{◌≤◌, ◌<◌, length, arith}
use Rattle.std.proofs.lemmas.List.{append-nil}
use Rattle.apd_program.proofs.Slots.{slot_lines-none, lines_go_on}
use Rattle.apd_program.proofs.answer.slot_lines.Goals as goal

pub loop-rest-preserved : goal.loop-rest-preserved
loop-rest-preserved c =
    let enough : 8 ≤ length c.loop-rest.rest.now = omega arith in
    lines_go_on _ _ c.loop-rest.rest.now _ _ _ c.loop-rest.invariant enough c.split_at.ensures.front c.split_at.ensures.back c.in_ok-append_slot.ensures.ok

pub returns : goal.returns
returns c =
    let few : length c.loop-rest.rest.now < 8 = omega arith in
    record { is = rw (slot_lines-none c.loop-rest.rest.now few, append-nil) at c.loop-rest.invariant }
