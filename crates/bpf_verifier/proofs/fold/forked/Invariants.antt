use Rattle.std.proofs.Common.{◌≤◌, length, take, drop}
use Rattle.bpf_verifier.specs.Pushed.{AreStraight}
use Rattle.bpf_verifier.proofs.fold.forked.Given as goal

abbrev pub invariant-loop-place : goal.invariant-loop-place
invariant-loop-place l = record {
  within : l.end ≤ l.place;
  upto : l.place ≤ length l.frames;
  straight : AreStraight (drop l.end (take l.place l.frames));
}
