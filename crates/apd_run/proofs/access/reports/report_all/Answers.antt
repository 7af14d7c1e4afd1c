use Rattle.std.proofs.Common.{◌≡◌, List, [], ◌∷◌, ◌++◌, length, arith, refl, sym, ap, ◌∙◌, append_assoc, append-nil}
use Rattle.std.specs.Vec.Iter.{into_iter_items}
use Rattle.ap_live.specs.declared.tagged.Tagged.{Tagged}
use Rattle.apd_run.specs.Reports.{Report}
use Rattle.apd_run.specs.Telling.{reports_in, reports_of}
use Rattle.apd_run.proofs.access.reports.report_all.Goals as goal

pub loop-tagged-init : goal.loop-tagged-init
loop-tagged-init c = (
  tt,
  tt,
  λ i. c.in_ok-reserve.ensures.items i ++ reports_in (c.into_iter-tagged-iterator.ensures.into_iter_gives.0 i),
)

pub loop-tagged-preserved : goal.loop-tagged-preserved
loop-tagged-preserved c =
    let x : Tagged = c.in-Some.tagged in
    let rest : List Tagged = into_iter_items c.next.new.self in
    let all : List Report = c.loop-tagged.all.items in (
      tt,
      tt,
      ap (λ (l : List Report). l ++ reports_in rest) c.in_ok-report.ensures
          ∙ (append_assoc all (reports_of x) (reports_in rest) ∙ (ap (λ (ts : List Tagged). all ++ reports_in ts) (sym c.in-Some.ensures.steps.0) ∙ c.loop-tagged.invariant.2)),
    )

none_left : (ts : List Tagged) → length ts ≡ 0 → ts ≡ []
none_left [] e = refl
none_left (t ∷ ts) e = absurd (omega arith)

pub returns : goal.returns
returns c =
    let rest : List Tagged = into_iter_items c.loop-tagged.tagged-iterator in
    let none : rest ≡ [] = none_left rest (omega (arith, c.in-None.ensures.steps.0, c.loop-tagged.tagged-iterator.rest.ok.0)) in
    sym (append-nil c.loop-tagged.all.items) ∙ (ap (λ (ts : List Tagged). c.loop-tagged.all.items ++ reports_in ts) (sym none) ∙ c.loop-tagged.invariant.2)
