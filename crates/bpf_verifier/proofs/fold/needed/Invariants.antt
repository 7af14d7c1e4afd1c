use Rattle.std.proofs.Common.{◌≤◌, length, take, drop}
use Rattle.bpf_verifier.specs.Pushed.{ArePushedOut, CountAtMost}
use Rattle.bpf_verifier.proofs.fold.needed.Given as goal

abbrev pub invariant-loop-place : goal.invariant-loop-place
invariant-loop-place l = record {
  from : l.start ≤ l.place;
  upto : l.place ≤ length l.frames;
  counts : CountAtMost l.counts.items (drop l.start (take l.place l.frames));
  pushed : ArePushedOut l.needed (take l.place l.frames);
}
