use Rattle.std.proofs.Common.{get_or, arith, ◌∙◌}
use Rattle.bpf_cert.proofs.Builds.{begins, depth_of, called_eleven, called_lives, call_unset, goes_on}
use Rattle.bpf_cert.proofs.states.with_frames.Goals as goal

pub loop-k-init : goal.loop-k-init
loop-k-init c =
    begins c.args.frames.now c.in_ok-state.state c.fill.new.state c.index-frames-0.result c.requires.some c.requires.main c.index-frames-0.is (c.in_ok-state.ensures.cases ∙ c.requires.blank) c.in_ok-fill.ensures.is

pub call-requires : goal.call-requires
call-requires c =
    let lt = c.loop-k-test.true in
    let few = c.requires.few in
    let depth = depth_of c.args.frames.now c.loop-k.k c.loop-k.state (omega (arith, lt)) c.loop-k.invariant in
    record { few = omega (arith, lt, few, depth) }

pub fill-requires-in-loop-k-clause-eleven : goal.fill-requires-in-loop-k-clause-eleven
fill-requires-in-loop-k-clause-eleven c =
    let lt = c.loop-k-test.true in
    let low = c.loop-k.auto.k in
    called_eleven c.args.frames.now c.loop-k.k (get_or c.args.frames.now c.loop-k.k c.index-frames-k.result).return_slot c.loop-k.state c.call.new.self (omega (arith, low)) (omega (arith, lt)) c.requires.all c.loop-k.invariant c.in_ok-call.ensures.ok

pub fill-requires-in-loop-k-clause-lives : goal.fill-requires-in-loop-k-clause-lives
fill-requires-in-loop-k-clause-lives c =
    let lt = c.loop-k-test.true in
    called_lives c.args.frames.now c.loop-k.k (get_or c.args.frames.now c.loop-k.k c.index-frames-k.result).return_slot c.loop-k.state c.call.new.self (omega (arith, lt)) c.loop-k.invariant c.in_ok-call.ensures.ok

pub fill-requires-in-loop-k-clause-unset : goal.fill-requires-in-loop-k-clause-unset
fill-requires-in-loop-k-clause-unset c =
    let lt = c.loop-k-test.true in
    call_unset c.args.frames.now c.loop-k.k (get_or c.args.frames.now c.loop-k.k c.index-frames-k.result).return_slot c.loop-k.state c.call.new.self (omega (arith, lt)) c.loop-k.invariant c.in_ok-call.ensures.ok

pub loop-k-preserved : goal.loop-k-preserved
loop-k-preserved c =
    goes_on c.args.frames.now c.loop-k.k c.loop-k.state c.call.new.self c.fill-in-loop-k.new.state c.index-frames-k.result c.index-frames-k-in-loop-k.result
    (let low = c.loop-k.auto.k in omega (arith, low)) c.loop-k-test.true c.requires.all c.index-frames-k-in-loop-k.is c.loop-k.invariant c.in_ok-call.ensures.ok c.in_ok-fill-2.ensures.is
