use Rattle.std.proofs.Common.{◌≡◌, ◌≤◌, ◌-◌, length, drop}
use Rattle.std.specs.List.{slice_range}
use Rattle.apd_script.specs.Asked.{commands_of}
use Rattle.apd_driver.specs.Crews.{Works}
use Rattle.apd_driver.specs.Following.{FollowsAll, Lists}
use Rattle.apd_driver.specs.Intervals.{after_wait}
use Rattle.apd_driver.specs.Tells.{Tells}
use Rattle.apd_driver.proofs.feed.feed.Given as goal

abbrev pub invariant-lines : goal.invariant-lines
invariant-lines g l =
    record {
      on : l.start ≤ l.next;
      within : l.next ≤ length l.commands;
      rest : after_wait (drop l.next l.commands) ≡ after_wait (drop l.start l.commands);
      works : Works (g.O.Operating.crew l.fn.operator) (g.O.Operating.crew l.operator);
      follows : Lists (FollowsAll g.O.Operating.semantics (g.O.Operating.crew l.fn.operator).work (commands_of (slice_range l.commands l.start l.next)) (g.O.Operating.crew l.operator).work) l.fn.told.items l.told.items;
      told : Tells l.fn.told.items l.told.items;
    }

abbrev pub decreases-lines : goal.decreases-lines
decreases-lines g l = length l.commands - l.next
