use Rattle.apd_run.proofs.Budgeting.{adopted_file_budgets}
use Rattle.apd_run.proofs.Keeping.{other_loads}
use Rattle.apd_run.proofs.Loading.{adopted_file_list, adopted_file_told}
use Rattle.apd_run.proofs.Operated.{adopt_does, works}
use Rattle.apd_run.proofs.access.operator.LiveOperator.adopt.Goals as goal

pub invariant_of-self : goal.invariant_of-self
invariant_of-self g c =
    other_loads _ _ _ _ _ _ (adopted_file_list _ _ _ _ _ _ _ _ c.adopt-told.ensures.adopts)
    (rw c.note.ensures.is (adopted_file_budgets _ _ _ _ c.self.invariant.in_force _ _ _ _ _ c.adopt-told.ensures.adopts)) c.self.invariant

pub returns-clause-works : goal.returns-clause-works
returns-clause-works g c = works g.F.Files.held _ _ _ c.self.view_is

pub returns-clause-does : goal.returns-clause-does
returns-clause-does g c = adopt_does g.F.Files.held _ _ _ _ _ _ _ _ _ _ c.self.view_is c.adopt-told.ensures.same c.path_of_word.ensures.is c.path_of_word-2.ensures.is c.adopt-told.ensures.adopts

pub returns-clause-nothing : goal.returns-clause-nothing
returns-clause-nothing g c = adopted_file_told _ _ _ _ _ _ _ _ c.adopt-told.ensures.adopts
