use Rattle.std.proofs.Common.{◌≡◌, length, vec_capacity}
use Rattle.ap_queues.specs.Passes.{IsMakerOf}
use Rattle.ap_rows.specs.Rows.{Stand}
use Rattle.ap_queues.specs.Lines.{MayTake}
use Rattle.ap_queues.proofs.Makers.{Made}
use Rattle.ap_queues.proofs.lines.lines.EventLines.open.Given as goal

abbrev pub invariant-loop : goal.invariant-loop
invariant-loop l = record {
  queues : length l.queues.items ≡ l.counter;
  made : length l.makers.items ≡ l.counter;
  taken : length l.passes.items ≡ l.counter;
  room : vec_capacity l.queues ≡ l.workers;
  room_made : vec_capacity l.makers ≡ l.workers;
  room_taken : vec_capacity l.passes ≡ l.workers;
  unmade : Made 0 l.makers.items;
  makers : Stand IsMakerOf l.queues.items l.makers.items;
  workers : Stand MayTake l.queues.items l.passes.items;
}
