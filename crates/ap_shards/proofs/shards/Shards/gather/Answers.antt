use Rattle.std.proofs.Common.{subst}
use Rattle.ap_books.specs.Holdings.{Holding, sum_of}
use Rattle.ap_books.specs.Reading.{Reads}
use Rattle.ap_shards.specs.Tokens.{CountJournals}
use Rattle.ap_shards.proofs.shards.Shards.gather.Goals as goal

pub returns-clause-sum : goal.returns-clause-sum
returns-clause-sum g c =
    let to1 = c.and-sum.ensures _ _ c.read_under-sum.ensures.reads c.read_under.ensures.reads in
    let to2 = c.and-sum-2.ensures _ _ to1 c.read_under-2.ensures.reads in
    let to3 = c.and-sum-3.ensures _ _ to2 c.read_under-3.ensures.reads in
    let to4 = c.and-sum-4.ensures _ _ to3 c.read_under-4.ensures.reads in
    let to5 = c.and-sum-5.ensures _ _ to4 c.read_under-5.ensures.reads in
    let to6 = c.and-sum-6.ensures _ _ to5 c.read_under-6.ensures.reads in
    let to7 = c.and.ensures _ _ to6 c.read_under-7.ensures.reads in
    subst (λ (h : Holding). Reads c.and.result (sum_of h)) c.all.view_is to7

pub returns-clause-journals : goal.returns-clause-journals
returns-clause-journals g c = subst (λ (h : Holding). CountJournals g.B.Journals.config h) c.all.view_is (
  c.read_under-sum.ensures.journal,
  c.read_under.ensures.journal,
  c.read_under-2.ensures.journal,
  c.read_under-3.ensures.journal,
  c.read_under-4.ensures.journal,
  c.read_under-5.ensures.journal,
  c.read_under-6.ensures.journal,
  c.read_under-7.ensures.journal,
)
