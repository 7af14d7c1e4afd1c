use Rattle.std.proofs.Common.{List, subst}
use Rattle.std.specs.List.{All}
use Rattle.bpf_cert_format.specs.declared.frame.Frame.{Frame}
use Rattle.bpf_cert.specs.Certified.{FollowsCall}
use Rattle.bpf_cert.specs.Steps.{Tells}
use Rattle.bpf_cert.proofs.Entries.{rest_all}
use Rattle.bpf_cert.proofs.checker.returns_well.Goals as goal

pub returns : goal.returns
returns c =
    record { is = subst (λ (fs : List Frame). Tells c.all_follow.result (All (λ f. FollowsCall c.args.program.now f.return_slot) fs)) (rest_all c.args.frames.now) c.all_follow.ensures.is }
