use Rattle.std.proofs.Common.{◌≡◌, vec_len}
use Rattle.apd_driver.specs.Crews.{LooksOn}
use Rattle.apd_driver.proofs.questions.words_of.Given as goal

abbrev pub invariant-loop-place : goal.invariant-loop-place
invariant-loop-place g l =
    record {
      looks : LooksOn (g.O.Operating.crew l.fn.operator) (g.O.Operating.crew l.operator);
      many : vec_len l.words ≡ l.place;
    }
