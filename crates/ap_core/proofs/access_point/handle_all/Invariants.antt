use Rattle.std.proofs.Common.{◌≡◌, ◌≤◌, length, take, vec_len, vec_capacity}
use Rattle.ap_core.specs.AccessPoints.{outs_in, RunsAll}
use Rattle.ap_core.proofs.access_point.handle_all.Given as goal

abbrev pub invariant-loop-event : goal.invariant-loop-event
invariant-loop-event g l =
    record {
      run : RunsAll g.J.Judge.gives l.fn.shards (take l.event-index l.events) l.fn.judge (outs_in l.results.items) l.shards l.judge;
      many : vec_len l.results ≡ l.event-index;
      room : length l.events ≤ vec_capacity l.results;
    }
