-- What was written and the rest are the whole script. Nothing was written before the first piece.
use Rattle.std.proofs.Common.{◌≡◌, ◌++◌, List, ℕ, false}
use Rattle.std.specs.Io.KnownBytes.{Appends, Keeps}
use Rattle.apd_program.proofs.script_text.write_rest.Given as goal

abbrev pub invariant-loop-more : goal.invariant-loop-more
invariant-loop-more g l = record {
  written : List ℕ;
  appended : Appends (g.W.Write.contents l.initial.out) (g.W.Write.contents l.out) written;
  all : l.initial.rest.bytes ≡ written ++ l.rest.bytes;
  unbegun : l.begun ≡ false → Keeps (g.W.Write.contents l.initial.out) (g.W.Write.contents l.out);
}

abbrev pub decreases-loop-more : goal.decreases-loop-more
decreases-loop-more g l = l.rest.packets
