use Rattle.std.proofs.Common.{◌≡◌, take}
use Rattle.std.specs.Prelude.{map}
use Rattle.bpf_verifier.specs.Folded.{outline_of}
use Rattle.bpf_verifier.proofs.fold.outlines.Given as goal

abbrev pub invariant-loop-frame : goal.invariant-loop-frame
invariant-loop-frame l = l.outlines.items ≡ map outline_of (take l.frame-index l.frames)
