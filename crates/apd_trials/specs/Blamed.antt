-- The line that is to blame if an expectation can't be judged.
use Rattle.std.specs.Prelude.{◌≡◌, ℕ, ◌<◌, List, ◌∷◌, ◌++◌}
use Rattle.std.specs.List.{All, Contains}
use Rattle.apd_cases.specs.Said.{Said, Policy, Config, Given, Word, Frame}
use Rattle.apd_trials.specs.declared.fault.CaseFault.{CaseFault}
use Rattle.apd_trials.specs.declared.fault.Trouble.{Trouble}
use Rattle.apd_trials.specs.declared.fault.Trouble.TheVariants as trouble

-- A line leads to the trouble with an expectation after it: it names the file that can't be used, says what is given
-- for the context, has the frame that is too long, or names the word that no map has.
abbrev pub LeadsTo : Said → Trouble → Type 0
LeadsTo (Policy hook path) (trouble.Policy why) = Unit {0}
LeadsTo (Config path) (trouble.Config why) = Unit {0}
LeadsTo (Given words) (trouble.Given why) = Unit {0}
LeadsTo (Frame bytes) trouble.LongFrame = Unit {0}
LeadsTo (Word place value) (trouble.NoWord missing) = place ≡ missing
LeadsTo said t = ⊥

-- a line ends all `word` lines before it, and one of these might have led to the trouble
abbrev pub EndsWords : Said → Trouble → Type 0
EndsWords (Config path) (trouble.NoWord missing) = Unit {0}
EndsWords said t = ⊥

-- if the line is before number `at`, it doesn't lead to the trouble
abbrev pub LeadsNowhere : ℕ → Trouble → ℕ × Said → Type 0
LeadsNowhere at t line = line.0 < at → LeadsTo line.1 t → ⊥

-- nor does it end `word` lines
abbrev pub IsIdle : ℕ → Trouble → ℕ × Said → Type 0
IsIdle at t line = LeadsNowhere at t line × (line.0 < at → EndsWords line.1 t → ⊥)

-- The line with this number is to blame for the trouble with the expectation in line `at`: the last before `at` that
-- leads to it, if none that follows before `at` ends it; or else `at` itself.
pub data IsBlamed (lines : List (ℕ × Said)) (at : ℕ) (t : Trouble) : ℕ → Type 0 where
  LastLeads : (before after : List (ℕ × Said)) (number : ℕ) (said : Said) → lines ≡ before ++ (number, said) ∷ after →
      number < at → LeadsTo said t → All (IsIdle at t) after → IsBlamed lines at t number
  NoneLeads : All (LeadsNowhere at t) lines → IsBlamed lines at t at
  NoneLeadsSince : (before after : List (ℕ × Said)) (number : ℕ) (said : Said) → lines ≡ before ++ (number, said) ∷ after →
      number < at → EndsWords said t → All (LeadsNowhere at t) after → IsBlamed lines at t at

-- the fault is at the line to blame for its trouble with a line of these
pub record IsBlamedIn (lines : List (ℕ × Said)) (fault : CaseFault) : Type 0 where
  pub line : ℕ × Said
  pub there : Contains lines line
  pub blamed : IsBlamed lines line.0 fault.trouble fault.line
