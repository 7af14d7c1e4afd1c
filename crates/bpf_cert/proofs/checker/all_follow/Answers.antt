use Rattle.bpf_cert_format.specs.declared.frame.Frame.{Frame}
use Rattle.bpf_cert.specs.Certified.{FollowsCall}
use Rattle.bpf_cert.proofs.Entries.{passes, fails}
use Rattle.bpf_cert.proofs.checker.all_follow.Goals as goal

pub returns-then-not-follows_call : goal.returns-then-not-follows_call
returns-then-not-follows_call c =
    record { is = fails (λ (f : Frame). FollowsCall c.args.program.now f.return_slot) c.args.frames.now c.loop-frame.frame-index c.frame-item.result c.loop-frame-test.true c.frame-item.is c.if-not-follows_call.ensures.is }

pub loop-frame-preserved : goal.loop-frame-preserved
loop-frame-preserved c =
    passes (λ (f : Frame). FollowsCall c.args.program.now f.return_slot) c.args.frames.now c.loop-frame.frame-index c.frame-item.result c.loop-frame-test.true c.frame-item.is c.if-not-follows_call.ensures.is c.loop-frame.invariant
