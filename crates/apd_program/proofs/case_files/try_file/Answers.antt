use Rattle.apd_cases.specs.Said.{lines_said}
use Rattle.apd_program.proofs.Tested.{case_at_fault, cases_at_fault}
use Rattle.apd_program.proofs.case_files.try_file.Goals as goal

pub returns-in-Err-clause-fault : goal.returns-in-Err-clause-fault
returns-in-Err-clause-fault g c = cases_at_fault _ _ _ _ c.in_ok-text.ensures.there c.as_slice.ensures.value _ c.in-Err.unread c.in-Err.ensures.malformed c.of_unread.ensures.memory

pub returns-clause-fault : goal.returns-clause-fault
returns-clause-fault g c = case_at_fault _ _ _ _ c.in_ok-text.ensures.there c.as_slice.ensures.value _ (lines_said c.in-Ok.lines.items) c.in-Ok.ensures.cases
