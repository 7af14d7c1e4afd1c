use Rattle.std.proofs.Common.{arith}
use Rattle.apd_driver.proofs.Tallying.{collects_none, collects_more}
use Rattle.apd_driver.proofs.collection.collect.Goals as goal

pub loop-desk-init : goal.loop-desk-init
loop-desk-init g c = record { home = omega arith; collects = collects_none _ _ }

pub loop-desk-preserved : goal.loop-desk-preserved
loop-desk-preserved g c =
    record {
      home = omega (arith, c.in_ok-collect_one.ensures.home);
      collects = collects_more _ _ _ _ _ _ c.loop-desk.invariant.collects c.in_ok-collect_one.ensures.collects;
    }
