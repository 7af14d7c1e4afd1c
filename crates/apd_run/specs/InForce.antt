-- What was counted of the runs of the programs in force.
use Rattle.std.specs.Prelude.{◌≡◌, ℕ, List, [], ◌∷◌, ◌++◌, Option, Some, None, IfSome, option_map}
use Rattle.bpf_regions.specs.declared.hooks.Hook.{Hook}
use Rattle.bpf_regions.specs.declared.hooks.Hook.TheVariants.{Association, Addba, Data}
use Rattle.bpf_machine.specs.Verified.{Verified}
use Rattle.versions.specs.declared.list.Load.{Load}
use Rattle.versions.specs.Numbers.{next_at, no_numbers, numbers_of, one_more}
use Rattle.versions.specs.Sets.{Programs, set_of}
use Rattle.hook_judge.specs.Counts.{Counts, no_runs, sum_of}
use Rattle.hook_judge.specs.declared.hook_counts.HookCounts.{HookCounts}
use Rattle.apd_driver.specs.declared.answers.answer.ProgramRow.{ProgramRow}
use Rattle.apd_driver.specs.declared.reports.report.Told.{Told}
use Rattle.apd_driver.specs.declared.reports.report.Told.TheVariants.{Loaded}
use Rattle.apd_run.specs.declared.access.program_counts.ProgramCounts.{ProgramCounts}

-- a program's budget, if there is one
abbrev pub budget_of : Option Verified → Option ℕ
budget_of program = option_map (λ p. p.budget) program

-- the budget of the program whose runs are counted, if there is one
abbrev pub budget_in : Option Counts → Option ℕ
budget_in counts = option_map (λ c. c.budget) counts

-- they count runs of the program that the load with this number put in force
abbrev pub AreOf : ℕ → Option Counts → Type 0
AreOf number counts = IfSome counts (λ c. c.load ≡ number)

-- these are counts of the programs that the loads result in: of their budgets, since each hook's last load
pub record AreInForce (p : ProgramCounts) (loads : List Load) : Type 0 where
  pub association : budget_in p.association ≡ budget_of (set_of loads).association
  pub addba : budget_in p.addba ≡ budget_of (set_of loads).addba
  pub frames : budget_in p.frames ≡ budget_of (set_of loads).frames
  pub numbers : p.numbers ≡ numbers_of loads
  pub of_association : AreOf p.numbers.association p.association
  pub of_addba : AreOf p.numbers.addba p.addba
  pub of_frames : AreOf p.numbers.frames p.frames

-- no program is in force, and none was loaded
abbrev pub nothing : ProgramCounts
nothing = record { association = None; addba = None; frames = None; numbers = no_numbers }

-- no run of a new program, which the load with this number put in force
abbrev pub none_since : ℕ → Option ℕ → Option Counts
none_since number budget = option_map (λ b. no_runs number b) budget

-- after one more load for a hook, of a program with this budget, or a removal: its counts begin anew
abbrev pub put_program : Hook → Option ℕ → ProgramCounts → ProgramCounts
put_program Association budget p =
    record p { association = none_since (one_more p.numbers.association) budget; numbers = next_at Association p.numbers }
put_program Addba budget p =
    record p { addba = none_since (one_more p.numbers.addba) budget; numbers = next_at Addba p.numbers }
put_program Data budget p =
    record p { frames = none_since (one_more p.numbers.frames) budget; numbers = next_at Data p.numbers }

-- after a report on a load for the hook
abbrev pub noted : Hook → Told → ProgramCounts → ProgramCounts
noted hook (Loaded budget slots) p = put_program hook (Some budget) p
noted hook _ p = p

-- with what a worker counted of runs of the same load
abbrev pub with_more : Option Counts → Counts → Option Counts
with_more counts more = option_map (λ c. sum_of c more) counts

-- with what a worker counted of each hook's program
abbrev pub with_counts : ProgramCounts → HookCounts → ProgramCounts
with_counts p more =
    record {
      association = with_more p.association more.association;
      addba = with_more p.addba more.addba;
      frames = with_more p.frames more.frames;
      numbers = p.numbers;
    }

-- what a row shows
pub record Row : Type 0 where
  pub hook : Hook
  pub budget : ℕ
  pub runs : ℕ
  pub most : ℕ
  pub steps : ℕ
  pub granted : ℕ
  pub denied : ℕ
  pub says : List ℕ

-- the same of a row
abbrev pub row_shown : ProgramRow → Row
row_shown r =
    record {
      hook = r.hook;
      budget = r.budget;
      runs = r.runs;
      most = r.most;
      steps = r.steps;
      granted = r.granted;
      denied = r.denied;
      says = r.says.items;
    }

-- the row of a hook's program
abbrev pub row_of : Hook → Counts → Row
row_of hook c =
    record {
      hook = hook;
      budget = c.budget;
      runs = c.runs;
      most = c.most;
      steps = c.steps;
      granted = c.granted;
      denied = c.denied;
      says = c.notes;
    }

-- the same, if the hook has a program
abbrev pub row_if : Hook → Option Counts → List Row
row_if hook None = []
row_if hook (Some c) = row_of hook c ∷ []

-- the rows of all hooks that have a program, in the order of the hooks' numbers
abbrev pub rows_of : ProgramCounts → List Row
rows_of p = row_if Association p.association ++ (row_if Addba p.addba ++ row_if Data p.frames)

-- a hook with the budget of its program, if it has one
abbrev pub with_budget : Hook → Option ℕ → List (Hook × ℕ)
with_budget hook None = []
with_budget hook (Some budget) = (hook, budget) ∷ []

-- the hooks that have a program in a set, in the order of their numbers, with the programs' budgets
abbrev pub budgets_of : Programs → List (Hook × ℕ)
budgets_of set =
    with_budget Association (budget_of set.association)
    ++ (with_budget Addba (budget_of set.addba) ++ with_budget Data (budget_of set.frames))

-- a row's hook and budget
abbrev pub budget_shown : ProgramRow → Hook × ℕ
budget_shown r = (r.hook, r.budget)
