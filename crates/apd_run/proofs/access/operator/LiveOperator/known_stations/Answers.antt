use Rattle.std.specs.Cmp.Lexicographic.{slice_cmp}
use Rattle.std.specs.Ordering.{nat_cmp}
use Rattle.apd_driver.specs.Following.{AtRows}
use Rattle.apd_run.specs.Listing.{station_row}
use Rattle.apd_run.proofs.Operated.{sees_more, works}
use Rattle.apd_run.proofs.Rising.{if_rising}
use Rattle.apd_run.proofs.access.operator.LiveOperator.known_stations.Goals as goal

pub returns-clause-ordered : goal.returns-clause-ordered
returns-clause-ordered g c = if_rising station_row (λ r. r.station) (slice_cmp nat_cmp) _ _ c.station_rows.ensures.are (rw c.as_slice.ensures.value c.in_ok-known.ensures.shown.merges.ordered)

pub returns-clause-looks : goal.returns-clause-looks
returns-clause-looks g c =
    record {
      works = works g.F.Files.held _ _ _ c.self.view_is;
      looks = AtRows _ _ (sees_more g.F.Files.held _ _ c.known_stations.new.operator _ c.self.view_is c.deref_mut.ensures.value c.known_stations.ensures.same c.known_stations.ensures.own);
    }

pub returns-in_err-known-clause-looks : goal.returns-in_err-known-clause-looks
returns-in_err-known-clause-looks g c =
    record {
      works = works g.F.Files.held _ _ _ c.self.view_is;
      looks = AtRows _ _ (sees_more g.F.Files.held _ _ c.known_stations.new.operator _ c.self.view_is c.deref_mut.ensures.value c.known_stations.ensures.same c.known_stations.ensures.own);
    }
