use Rattle.std.proofs.Common.{ℕ, ◌<◌, get_or}
use Rattle.bpf_cert_format.specs.declared.frame.Frame.{Frame}
use Rattle.bpf_cert.specs.Certified.{FollowsCall}
use Rattle.bpf_cert.proofs.checker.all_follow.Given as goal

abbrev pub invariant-loop-frame : goal.invariant-loop-frame
invariant-loop-frame l = (k : ℕ) (d : Frame) → k < l.frame-index → FollowsCall l.program (get_or l.frames k d).return_slot
