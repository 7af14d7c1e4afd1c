use Rattle.std.proofs.Common.{◌≡◌, ◌+◌, ℕ, [], length, map, replicate, vec_capacity}
use Rattle.ap_queues.specs.Passes.{IsOperatorOf, put_by}
use Rattle.ap_rows.specs.Rows.{Stand}
use Rattle.ap_queues.specs.Lines.{ArePassesOf, HaveMade}
use Rattle.ap_queues.proofs.Makers.{MadeBefore, MadeFrom}
use Rattle.ap_queues.proofs.lines.lines.EventLines.operator.Given as goal

abbrev pub invariant-loop-worker : goal.invariant-loop-worker
invariant-loop-worker l = record {
  left : ArePassesOf l.self l.left;
  count : length l.passes.items ≡ l.worker;
  room : vec_capacity l.passes ≡ length l.self;
  own : Stand IsOperatorOf l.self l.passes.items;
  made : (n : ℕ) → HaveMade n l.initial.left → MadeBefore l.worker (n + 1) l.left.makers.items;
  unmade : (n : ℕ) → HaveMade n l.initial.left → MadeFrom l.worker n l.left.makers.items;
  unput : map put_by l.passes.items ≡ replicate l.worker [];
}
