-- The text so far and the rest are the same as at first.
use Rattle.std.proofs.Common.{◌≡◌, ◌≤◌, ◌++◌}
use Rattle.std.specs.String.{string_bytes}
use Rattle.apd_policies.proofs.frames.script.ScriptRest.append_piece.Given as goal

abbrev pub invariant-loop-text : goal.invariant-loop-text
invariant-loop-text l = record {
  moved : string_bytes l.text ++ l.self.bytes ≡ string_bytes l.initial.text ++ l.initial.self.bytes;
  fewer : l.self.packets ≤ l.initial.self.packets;
}

abbrev pub decreases-loop-text : goal.decreases-loop-text
decreases-loop-text l = l.self.packets
