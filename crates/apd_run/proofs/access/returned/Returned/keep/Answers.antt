use Rattle.std.proofs.Common.{◌≡◌, [], ap, subst, sym, ◌∙◌}
use Rattle.ap_books.specs.Counts.{none}
use Rattle.ap_live.specs.Counting.{counted_by, tally}
use Rattle.ap_shards.specs.Pages.{both_pages}
use Rattle.apd_run.specs.Batches.{batches_of}
use Rattle.apd_run.specs.Hands.{RunWorker}
use Rattle.apd_run.specs.Returning.{TookBack}
use Rattle.apd_run.proofs.Returning.{pages_of_worker, parts_back}
use Rattle.apd_run.proofs.Served.{tally_none}
use Rattle.apd_run.proofs.access.returned.Returned.keep.Goals as goal

pub returns-clause-took : goal.returns-clause-took
returns-clause-took g c =
    let i = c.worker.invariant in
    let shards = c.worker.inside.token.shards in
    let old = c.args.self.now.register in
    let loads = c.args.loads.now.loads in
    let empty : c.worker.inside.handled.items ≡ [] = ap (λ (w : RunWorker). w.handled) c.worker.view_is ∙ c.requires.empty in
    let agree : batches_of c.worker.inside.receipt.number c.worker.inside.receipt.batches ≡ batches_of c.worker.inside.receipt.number old =
    subst (λ (w : RunWorker). batches_of w.number w.batches ≡ batches_of w.number old) (sym c.worker.view_is) c.requires.agree in
    let nothing : counted_by shards ≡ none = i.counts ∙ (ap tally empty ∙ tally_none) in
    let two = parts_back loads c.worker.inside.receipt.number old c.args.self.now.hoard.value c.into_parts-shares.result.0 c.add.new.self.hoard.value shards i.parts nothing c.into_parts-shares.ensures.shares c.add.ensures.hoard in
    subst (λ (w : RunWorker). TookBack loads w.number old c.args.self.now.hoard.value c.add.new.self.hoard.value c.args.self.now.pages.value c.add.new.self.pages.value) c.worker.view_is
    (record {
      parts = two.0;
      counted = two.1;
      token = shards;
      pages_are = c.add.ensures.pages ∙ ap (both_pages c.args.self.now.pages.value) c.into_parts-shares.ensures.pages;
      written = pages_of_worker _ _ i empty loads c.meet.ensures.seen.has_all old agree;
    })
