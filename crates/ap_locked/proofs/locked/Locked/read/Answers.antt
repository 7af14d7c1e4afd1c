use Rattle.std.proofs.Common.{◌∙◌}
use Rattle.ap_core.specs.Handles.{rules}
use Rattle.ap_locked.specs.Kept.{Kept}
use Rattle.ap_locked.specs.Pages.{entries_of}
use Rattle.ap_locked.proofs.Entering.{journal_handled}
use Rattle.ap_locked.proofs.locked.Locked.read.Goals as goal

pub returns-clause-journal : goal.returns-clause-journal
returns-clause-journal g c =
    let was : Kept = record { shard = c.self.inside.shard; journal = entries_of c.self.inside.journal.entries; counts = c.self.inside.books } in
    record {
      journal = was.journal;
      handled = journal_handled (rules g.row.SHARD g.B.Journals.config) was c.self.invariant.2;
      counted = c.read.ensures.whole ∙ c.self.invariant.2.counted;
    }
