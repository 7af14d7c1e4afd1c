use Rattle.std.proofs.Common.{Some, refl}
use Rattle.apd_driver.specs.declared.reports.report.Told.TheVariants.{Memory}
use Rattle.apd_driver.specs.Following.{LacksMemory, PutsIt, Waits, told_of}
use Rattle.apd_driver.proofs.Followed.{line_of, lists_nothing, lists_same}
use Rattle.apd_driver.proofs.feed.follow.Goals as goal

pub returns-in_ok-put-in-Ok-Submit-clause-follows : goal.returns-in_ok-put-in-Ok-Submit-clause-follows
returns-in_ok-put-in-Ok-Submit-clause-follows g c =
    lists_nothing _ _ _ _ _ _ _ (PutsIt c.in-Ok-Submit.event (line_of _ _ (rw c.in-Ok-Submit.field-0-is at c.in-Ok-Submit.ensures.is)) c.in_ok-put-in-Ok-Submit.ensures.puts) refl

pub returns-in_ok-publish-in-Ok-Publish-clause-follows : goal.returns-in_ok-publish-in-Ok-Publish-clause-follows
returns-in_ok-publish-in-Ok-Publish-clause-follows g c =
    lists_same _ _ _ _ _ _ _ _ (line_of _ _ (rw c.in-Ok-Publish.field-0-is at c.in-Ok-Publish.ensures.is)) c.in_ok-publish-in-Ok-Publish.ensures.follows

pub returns-in_ok-use_word-in-Ok-UseWord-clause-follows : goal.returns-in_ok-use_word-in-Ok-UseWord-clause-follows
returns-in_ok-use_word-in-Ok-UseWord-clause-follows g c =
    lists_same _ _ _ _ _ _ _ _ (line_of _ _ (rw c.in-Ok-UseWord.field-0-is at c.in-Ok-UseWord.ensures.is)) c.in_ok-use_word-in-Ok-UseWord.ensures.follows

pub returns-in-Ok-Wait-clause-follows : goal.returns-in-Ok-Wait-clause-follows
returns-in-Ok-Wait-clause-follows g c = lists_nothing _ _ _ _ _ _ _ (Waits (line_of _ _ (rw c.in-Ok-Wait.field-0-is at c.in-Ok-Wait.ensures.is)) refl) refl

pub returns-in_ok-tell_memory-in-Err-clause-follows : goal.returns-in_ok-tell_memory-in-Err-clause-follows
returns-in_ok-tell_memory-in-Err-clause-follows g c = record {
  reports = told_of c.args.numbered.now.line (Some Memory);
  listed = c.in_ok-tell_memory-in-Err.ensures.listed;
  kind = LacksMemory c.in-Err.ensures.frame refl;
}
