use Rattle.std.proofs.lemmas.Result.{err_from_is_err_and}
use Rattle.bpf_absval.specs.declared.room.Room.{Room}
use Rattle.bpf_cert_format.specs.Reading.{many, room_at}
use Rattle.bpf_cert_format.proofs.Loops.{goes_on, ends, is_done}
use Rattle.bpf_cert_format.proofs.parts.room_list_at.Goals as goal

pub returns-in_err-room : goal.returns-in_err-room
returns-in_err-room c =
    let p = err_from_is_err_and c.from_residual.result c.from_residual.ensures.1 in
    record { is = rw (p.1, p.2) (ends Room room_at c.in_err-room.field-0.0 c.loop.list.items c.args.count c.loop.counter c.loop.rest.now (many room_at c.args.count c.args.bytes.now) c.loop-test.true c.in_err-room.ensures.is c.loop.invariant) }

pub loop-preserved : goal.loop-preserved
loop-preserved c =
    rw c.in_ok-push.ensures.items (goes_on Room room_at c.loop.list.items c.args.count c.loop.counter c.loop.rest.now c.in_ok-room.room c.in_ok-room.after.now (many room_at c.args.count c.args.bytes.now) c.loop-test.true c.in_ok-room.ensures.is c.loop.invariant)

pub returns : goal.returns
returns c = record { is = is_done Room room_at c.loop.list.items c.args.count c.loop.counter c.loop.rest.now (many room_at c.args.count c.args.bytes.now) c.loop-test.false c.loop.invariant }
