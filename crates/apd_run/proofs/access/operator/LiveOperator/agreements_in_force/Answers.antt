use Rattle.apd_driver.specs.Asking.{agreement_cmp}
use Rattle.apd_driver.specs.Following.{AtRows}
use Rattle.apd_run.specs.Listing.{agreement_row}
use Rattle.apd_run.proofs.Operated.{sees_more, works}
use Rattle.apd_run.proofs.Rising.{if_rising}
use Rattle.apd_run.proofs.access.operator.LiveOperator.agreements_in_force.Goals as goal

pub returns-clause-ordered : goal.returns-clause-ordered
returns-clause-ordered g c = if_rising agreement_row (λ r. (r.station, r.tid)) agreement_cmp _ _ c.agreement_rows.ensures.are (rw c.as_slice.ensures.value c.in_ok-agreements.ensures.shown.merges.ordered)

pub returns-clause-looks : goal.returns-clause-looks
returns-clause-looks g c =
    record {
      works = works g.F.Files.held _ _ _ c.self.view_is;
      looks = AtRows _ _ (sees_more g.F.Files.held _ _ c.agreements.new.operator _ c.self.view_is c.deref_mut.ensures.value c.agreements.ensures.same c.agreements.ensures.own);
    }

pub returns-in_err-agreements-clause-looks : goal.returns-in_err-agreements-clause-looks
returns-in_err-agreements-clause-looks g c =
    record {
      works = works g.F.Files.held _ _ _ c.self.view_is;
      looks = AtRows _ _ (sees_more g.F.Files.held _ _ c.agreements.new.operator _ c.self.view_is c.deref_mut.ensures.value c.agreements.ensures.same c.agreements.ensures.own);
    }
