use Rattle.std.proofs.Common.{take}
use Rattle.apd_script.specs.Batches.{numbers_of}
use Rattle.apd_driver.specs.Following.{Lists}
use Rattle.apd_driver.specs.Shows.{AnswerMalformed}
use Rattle.apd_driver.specs.Tells.{Tells}
use Rattle.apd_driver.proofs.feed.tell_malformed.Given as goal

abbrev pub invariant-loop-line : goal.invariant-loop-line
invariant-loop-line l =
    record {
      answers : Lists (AnswerMalformed (numbers_of (take l.line-index l.malformed))) l.fn.told.items l.told.items;
      told : Tells l.fn.told.items l.told.items;
    }
