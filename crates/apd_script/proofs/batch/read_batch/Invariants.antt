use Rattle.std.proofs.Common.{◌<◌, [], length}
use Rattle.apd_script.specs.Asked.{commands_of}
use Rattle.apd_script.specs.Batches.{numbers_of, Takes, NoneWaits}
use Rattle.apd_script.proofs.batch.read_batch.Given as goal

abbrev pub invariant-lines : goal.invariant-lines
invariant-lines l = record {
  takes : Takes l.shapes l.first l.text (commands_of l.commands.items) (numbers_of l.malformed.items) [] l.lines l.rest;
  few : l.lines < 4096;
  none : NoneWaits l.commands.items;
}

abbrev pub decreases-lines : goal.decreases-lines
decreases-lines l = length l.rest
