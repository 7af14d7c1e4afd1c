use Rattle.std.proofs.Common.{◌≡◌, ◌+◌, ap, length, subst, sym, ◌∙◌, arith}
use Rattle.std.specs.Prelude.{OnOk}
use Rattle.ap_books.specs.Counts.{none, plus}
use Rattle.ap_books.specs.Holdings.{HasParts, Holding, sum_of}
use Rattle.ap_live.specs.Counting.{counted_by}
use Rattle.ap_live.specs.Tokens.{Operator}
use Rattle.ap_shards.specs.Pages.{AreTheJournals, EightPages, HasPages, both_pages, pages_of}
use Rattle.ap_shards.specs.Tokens.{holding_of}
use Rattle.apd_run.specs.Hands.{RunOperator, work_of}
use Rattle.apd_run.specs.Work.{AllTold}
use Rattle.apd_run.proofs.Returning.{closes_told, on_ok, pages_count}
use Rattle.apd_run.proofs.Sums.{merged_sum, one_more_part, plus_none}
use Rattle.apd_run.proofs.access.operator.LiveOperator.close.Goals as goal

pub close-requires-clause-parts : goal.close-requires-clause-parts
close-requires-clause-parts g c =
    let i = c.self.invariant in
    let shares = c.into_parts-shares.result.0 in
    let own = ap (λ (o : Operator). holding_of o.shards) (sym c.into_inner.ensures) in
    let mine : HasParts 1 shares = subst (HasParts 1) (own ∙ sym c.into_parts-shares.ensures.shares) i.mine in
    let given = c.in_ok-take_all_back.ensures.parts (c.self.inside.parts + 1) (one_more_part c.self.inside.parts c.self.inside.hoard.value shares c.add.new.self.hoard.value i.parts mine c.add.ensures.hoard) in
    let workers : c.self.inside.workers ≡ length c.self.inside.ap.now.queues = ap (λ (o : RunOperator _). o.workers) c.self.view_is ∙ (sym c.requires.all ∙ c.in_ok-take_all_back.ensures.many) in
    let all : c.self.inside.parts + 1 + length c.self.inside.ap.now.queues ≡ g.B.Ledgers.shares = omega (arith, i.all, i.shares_are, workers) in
    subst (HasParts g.B.Ledgers.shares) (sym c.deref_mut.ensures.value) (subst (λ n. HasParts n c.take_all_back.new.self.hoard.value) all given)

pub close-requires-clause-pages : goal.close-requires-clause-pages
close-requires-clause-pages g c =
    let i = c.self.invariant in
    let both : HasPages (c.self.inside.parts + 1) c.add.new.self.pages.value =
    subst (HasPages (c.self.inside.parts + 1)) (sym c.add.ensures.pages) (pages_count c.self.inside.parts c.self.inside.pages.value c.into_parts-shares.result.1 i.pages c.into_parts-shares.ensures.count) in
    let given = c.in_ok-take_all_back.ensures.pages (c.self.inside.parts + 1) both in
    let workers : c.self.inside.workers ≡ length c.self.inside.ap.now.queues = ap (λ (o : RunOperator _). o.workers) c.self.view_is ∙ (sym c.requires.all ∙ c.in_ok-take_all_back.ensures.many) in
    let all : c.self.inside.parts + 1 + length c.self.inside.ap.now.queues ≡ g.B.Ledgers.shares = omega (arith, i.all, i.shares_are, workers) in
    subst (HasPages g.B.Ledgers.shares) (sym c.deref_mut-2.ensures.value) (subst (λ n. HasPages n c.take_all_back.new.self.pages.value) all given)

pub returns-clause-all_told : goal.returns-clause-all_told
returns-clause-all_told g c =
    let i = c.self.invariant in
    let hoard = c.self.inside.hoard.value in
    let shares = c.into_parts-shares.result.0 in
    let own : sum_of shares ≡ none = ap sum_of c.into_parts-shares.ensures.shares ∙ (ap (λ (o : Operator). counted_by o.shards) c.into_inner.ensures ∙ i.nothing) in
    let counted : sum_of c.take_all_back.new.self.hoard.value ≡ sum_of hoard =
    c.in_ok-take_all_back.ensures.counted ∙ (merged_sum hoard shares c.add.new.self.hoard.value c.add.ensures.hoard ∙ (ap (plus (sum_of hoard)) own ∙ plus_none (sum_of hoard))) in
    let pages : c.add.new.self.pages.value ≡ both_pages c.self.inside.pages.value (pages_of c.self.inside.token.value.shards) =
    c.add.ensures.pages ∙ ap (both_pages c.self.inside.pages.value) (c.into_parts-shares.ensures.pages ∙ ap (λ (o : Operator). pages_of o.shards) c.into_inner.ensures) in
    subst (λ (o : RunOperator _). OnOk c.close.result (AllTold (sum_of o.hoard) (work_of g.F.Files.held o))) c.self.view_is
    (on_ok c.close.result
    (λ j.
    closes_told g.F.Files.held _ _ _ i c.add.new.self.register c.add.ensures.register c.add.new.self.pages.value pages c.take_all_back.new.self.hoard.value c.take_all_back.new.self.pages.value counted
    (λ w n same loads h. c.in_ok-take_all_back.ensures.written w n same loads h)
    (subst (λ (h : Holding). AreTheJournals g.B.Journals.config h c.take_all_back.new.self.pages.value) c.deref_mut.ensures.value
    (subst (λ (p : EightPages). AreTheJournals g.B.Journals.config c.deref_mut.result.now p) c.deref_mut-2.ensures.value j)))
    c.close.ensures.entries)
