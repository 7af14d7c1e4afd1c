use Rattle.std.proofs.Common.{◌≡◌, ◌-◌}
use Rattle.ap_queues.specs.Lines.{AreLinesOf, puts_of}
use Rattle.ap_queues.specs.Putting.{served}
use Rattle.ap_queues.proofs.lines.lines.EventLines.submit_at.Given as goal

abbrev pub invariant-loop-next : goal.invariant-loop-next
invariant-loop-next g l = record {
  own : AreLinesOf l.self l.operator;
  put : puts_of l.operator ≡ served (puts_of l.initial.operator) l.call l.fn.event l.shard (l.next - l.shard);
}
