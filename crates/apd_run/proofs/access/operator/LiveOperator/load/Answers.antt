use Rattle.apd_run.proofs.Budgeting.{file_budgets}
use Rattle.apd_run.proofs.Keeping.{other_loads}
use Rattle.apd_run.proofs.Loading.{file_list, file_told}
use Rattle.apd_run.proofs.Operated.{load_does, works}
use Rattle.apd_run.proofs.access.operator.LiveOperator.load.Goals as goal

pub invariant_of-self : goal.invariant_of-self
invariant_of-self g c =
    other_loads _ _ _ _ _ _ (file_list _ _ _ _ _ _ _ c.load-told.ensures.loads)
    (rw c.note.ensures.is (file_budgets _ _ _ _ c.self.invariant.in_force _ _ _ _ c.load-told.ensures.loads)) c.self.invariant

pub returns-clause-works : goal.returns-clause-works
returns-clause-works g c = works g.F.Files.held _ _ _ c.self.view_is

pub returns-clause-does : goal.returns-clause-does
returns-clause-does g c = load_does g.F.Files.held _ _ _ _ _ _ _ _ c.self.view_is c.load-told.ensures.same c.path_of_word.ensures.is c.load-told.ensures.loads

pub returns-clause-nothing : goal.returns-clause-nothing
returns-clause-nothing g c = file_told _ _ _ _ _ _ _ c.load-told.ensures.loads
