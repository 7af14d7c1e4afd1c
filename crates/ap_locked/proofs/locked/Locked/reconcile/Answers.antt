use Rattle.std.proofs.Common.{◌∙◌}
use Rattle.ap_core.specs.Handles.{rules}
use Rattle.ap_locked.specs.Kept.{Kept}
use Rattle.ap_locked.specs.Pages.{entries_of}
use Rattle.ap_locked.proofs.Entering.{journal_handled}
use Rattle.ap_locked.proofs.Signing.{made_longer}
use Rattle.ap_locked.proofs.Whole.{are_whole}
use Rattle.ap_locked.proofs.locked.Locked.reconcile.Goals as goal

pub returns-clause-journal : goal.returns-clause-journal
returns-clause-journal g c =
    let journal = c.self.inside.journal.entries in
    let was : Kept = record { shard = c.self.inside.shard; journal = entries_of journal; counts = c.self.inside.books } in
    let pages = c.args.pages.now.pages in
    record {
      journal = journal;
      handled = journal_handled (rules g.row.SHARD g.B.Journals.config) was c.self.invariant.2;
      whole = are_whole g.B.Ledgers.shares pages journal (made_longer pages c.args.pages.now.seen journal c.look.ensures.seen c.look.ensures.made) c.look.ensures.powers c.requires.pages c.audit.ensures.marks (c.audit.ensures.sizes ∙ c.self.invariant.3);
      counted = c.read.ensures.whole ∙ c.self.invariant.2.counted;
    }
