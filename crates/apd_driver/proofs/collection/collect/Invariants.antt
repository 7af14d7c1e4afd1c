use Rattle.std.proofs.Common.{◌≡◌, ◌+◌, vec_len}
use Rattle.apd_driver.specs.Crews.{Collects}
use Rattle.apd_driver.proofs.collection.collect.Given as goal

-- some workers came back, and what they counted is listed
abbrev pub invariant-loop-desk : goal.invariant-loop-desk
invariant-loop-desk g l =
    record {
      home : vec_len l.staff.workers ≡ vec_len l.initial.staff.workers + l.desk-index;
      collects : Collects (g.O.Operating.crew l.initial.staff.operator) (g.O.Operating.crew l.staff.operator) l.initial.all.items l.all.items;
    }
