use Rattle.apd_driver.specs.Crews.{LooksOn}
use Rattle.apd_driver.proofs.Entries.{ListsFirst}
use Rattle.apd_driver.proofs.questions.dump.Given as goal

abbrev pub invariant-loop-index : goal.invariant-loop-index
invariant-loop-index g l =
    record {
      looks : LooksOn (g.O.Operating.crew l.fn.operator) (g.O.Operating.crew l.operator);
      lists : ListsFirst l.index l.map.shape.words l.entries.items;
    }
