use Rattle.std.proofs.Common.{◌≡◌, ◌≤◌, ◌<◌, ◌^◌, length, vec_len, vec_capacity}
use Rattle.apd_script.specs.Asked.{commands_of, NameWords}
use Rattle.apd_script.specs.Script.{lines_of}
use Rattle.apd_script.proofs.Reading.{IsReadTo}
use Rattle.apd_script.proofs.read.read_script.Given as goal

abbrev pub invariant-loop-commands : goal.invariant-loop-commands
invariant-loop-commands l = record {
  read : IsReadTo l.shapes (lines_of l.text) l.before (lines_of l.rest) (commands_of l.commands.items);
  within : NameWords l.shapes l.commands.items;
  few : vec_len l.commands ≤ l.before;
  room : vec_capacity l.commands ≡ length (lines_of l.text);
  countable : length (lines_of l.text) < 2 ^ 64;
}

abbrev pub decreases-loop-commands : goal.decreases-loop-commands
decreases-loop-commands l = length l.rest
