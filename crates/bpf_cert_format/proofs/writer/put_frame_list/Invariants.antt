use Rattle.std.proofs.Common.{◌≡◌, ◌++◌, take}
use Rattle.std.specs.List.{flat_map}
use Rattle.bpf_cert_format.specs.Spelling.{frame}
use Rattle.bpf_cert_format.proofs.writer.put_frame_list.Given as goal

abbrev pub invariant-loop-frame : goal.invariant-loop-frame
invariant-loop-frame l = l.out.items ≡ l.fn.out.items ++ flat_map frame (take l.frame-index l.frames)
