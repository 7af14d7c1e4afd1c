use Rattle.bpf_cert_format.specs.declared.frame.Frame.{Frame}
use Rattle.bpf_cert_format.specs.Reading.{many, frame_at}
use Rattle.bpf_cert_format.proofs.Loops.{goes_on, ends, is_done}
use Rattle.bpf_cert_format.proofs.parts.frame_list_at.Goals as goal

pub returns-in-Err : goal.returns-in-Err
returns-in-Err c =
    let r = frame_at c.args.maps c.args.frames in
    record { is = ends Frame r c.in-Err.fault c.loop.list.items c.args.frames c.loop.counter c.loop.rest.now (many r c.args.frames c.args.bytes.now) c.loop-test.true c.in-Err.ensures.is c.loop.invariant }

pub loop-preserved : goal.loop-preserved
loop-preserved c =
    let r = frame_at c.args.maps c.args.frames in
    rw c.in_ok-push-in-Ok.ensures.items (goes_on Frame r c.loop.list.items c.args.frames c.loop.counter c.loop.rest.now c.in-Ok.frame c.in-Ok.after.now (many r c.args.frames c.args.bytes.now) c.loop-test.true c.in-Ok.ensures.is c.loop.invariant)

pub returns : goal.returns
returns c =
    let r = frame_at c.args.maps c.args.frames in
    record { is = is_done Frame r c.loop.list.items c.args.frames c.loop.counter c.loop.rest.now (many r c.args.frames c.args.bytes.now) c.loop-test.false c.loop.invariant }
