-- The lines so far, followed by those of the rest, are those of the code.
use Rattle.std.proofs.Common.{◌≤◌, length}
use Rattle.std.specs.String.{string_bytes}
use Rattle.apd_text.proofs.Rawly.{GoesOn}
use Rattle.apd_text.proofs.raw.raw_text.Given as goal

abbrev pub invariant-loop-rest : goal.invariant-loop-rest
invariant-loop-rest l = record {
  far : GoesOn l.slots l.code (string_bytes l.text) l.rest;
  within : length l.rest ≤ length l.code;
}

abbrev pub decreases-loop-rest : goal.decreases-loop-rest
decreases-loop-rest l = length l.rest
