-- Following one more line.
use Rattle.std.specs.Prelude.{◌≡◌, ◌≢◌, ℕ, List, [], ◌∷◌, ◌++◌, Option, Some, None, IsSome, IfSome, refl}
use Rattle.std.proofs.Common.{sym, subst}
use Rattle.apd_files.specs.Held.{Held}
use Rattle.apd_trials.specs.Policies.{IsAdmission}
use Rattle.apd_trials.specs.Rows.{ExpectsNothing, IsRow, Leads, Changes, Judges}
use Rattle.apd_cases.specs.Said.{Said, Expect, said_of}
use Rattle.apd_cases.specs.Situations.{Situation, after}
use Rattle.apd_cases.specs.declared.line.Expectation.{Expectation}
use Rattle.apd_cases.specs.declared.line.Line.{Line}
use Rattle.apd_cases.specs.declared.line.Line.TheVariants as line
use Rattle.apd_trials.specs.Trials.{Finds}
use Rattle.apd_trials.specs.declared.admission.Admission.{Admission}
use Rattle.apd_trials.specs.declared.row.Row.{Row}

-- a line that expects nothing
pub changes : (files : Held) (lines : List (ℕ × Said)) (s s2 : Situation) (rows : List Row) (number : ℕ) (said : Said)
    → Leads files lines s rows → ExpectsNothing said → s2 ≡ after s said → Leads files (lines ++ (number, said) ∷ []) s2 rows
changes files lines s s2 rows number said h nothing is =
    subst (λ t. Leads files (lines ++ (number, said) ∷ []) t rows) (sym is) (Changes number said lines s rows h nothing)

-- a line that expects something
pub judges : (files : Held) (lines : List (ℕ × Said)) (s s2 : Situation) (rows more : List Row) (number : ℕ) (e : Expectation) (row : Row)
    → Leads files lines s rows → s2 ≡ s → more ≡ rows ++ row ∷ [] → IsRow files s number e row
    → Leads files (lines ++ (number, Expect e) ∷ []) s2 more
judges files lines s s2 rows more number e row h same pushed is =
    subst (λ t. Leads files (lines ++ (number, Expect e) ∷ []) t more) (sym same)
    (subst (λ r. Leads files (lines ++ (number, Expect e) ∷ []) s r) (sym pushed) (Judges number e row lines s rows h is))

-- what isn't an expectation
pub expects_nothing : (l : Line) → ((e : Expectation) → l ≢ line.Expect e) → ExpectsNothing (said_of l)
expects_nothing (line.Policy hook path) other = tt
expects_nothing (line.Config path) other = tt
expects_nothing (line.Given given) other = tt
expects_nothing (line.Clock clock) other = tt
expects_nothing (line.Stations stations) other = tt
expects_nothing (line.Word place value) other = tt
expects_nothing (line.Frame text) other = tt
expects_nothing (line.Expect e) other = absurd (other e refl)

-- the row of an expectation, in a situation that stays the same while the verifier is asked
pub row_of : (files : Held) (s s2 : Situation) (asked : Option Admission) (row : Row)
    → s2 ≡ s → IsSome asked → IfSome asked (IsAdmission files s2.policy s2.config) → IfSome asked (λ a. Finds s2 a row.expectation row.found)
    → IsRow files s row.line row.expectation row
row_of files s s2 None row same some fits finds = absurd cc
row_of files s s2 (Some a) row same some fits finds =
    record {
      line_is = refl;
      expectation_is = refl;
      admission = a;
      says = subst (λ t. IsAdmission files t.policy t.config a) same fits;
      finds = subst (λ t. Finds t a row.expectation row.found) same finds;
    }

-- nothing was asked
pub unasked : (asked : Option Admission) (P : Admission → Type 0) → asked ≡ None → IfSome asked P
unasked None P is = tt
unasked (Some a) P is = absurd cc
