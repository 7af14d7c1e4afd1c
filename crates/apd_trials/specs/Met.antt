-- When an expectation is met by what is found.
use Rattle.std.specs.Prelude.{◌==◌, nat_le, Bool, true, false}
use Rattle.std.specs.List.{list_any}
use Rattle.apd_trials.specs.Policies.{number_of_reason}
use Rattle.apd_trials.specs.declared.found.Found.{Found}
use Rattle.apd_trials.specs.declared.found.Found.TheVariants as found
use Rattle.apd_cases.specs.declared.line.Expectation.{Expectation}
use Rattle.apd_cases.specs.declared.line.Expectation.TheVariants as expectation
use Rattle.apd_cases.specs.declared.line.Verdict.{Verdict}
use Rattle.apd_cases.specs.declared.line.Verdict.TheVariants.{Admit, Refuse, Size, Decline, Pass, Discard}

-- the same verdict, with the same status, size or mark
abbrev pub is_same : Verdict → Verdict → Bool
is_same Admit Admit = true
is_same (Refuse n) (Refuse m) = n == m
is_same (Size n) (Size m) = n == m
is_same Decline Decline = true
is_same (Pass n) (Pass m) = n == m
is_same Discard Discard = true
is_same _ _ = false

-- An expectation of a run isn't met if the policy isn't admitted.
abbrev pub is_met : Expectation → Found → Bool
is_met (expectation.Verdict v) (found.Ran w steps) = is_same v w
is_met (expectation.Refused n) (found.Unadmitted why) = number_of_reason why == n
is_met (expectation.Budget n) (found.Accepted budget) = nat_le budget n
is_met (expectation.Steps n) (found.Ran w steps) = nat_le steps n
is_met (expectation.Note n) (found.Noted notes) = list_any (λ note. note == n) notes.items
is_met (expectation.Word place n) (found.Holds value) = value == n
is_met _ _ = false
