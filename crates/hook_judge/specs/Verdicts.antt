-- The verdicts that a set of programs gives.
use Rattle.std.specs.Prelude.{◌≡◌, ◌≤◌, ℕ, List, Option, Some, None, take}
use Rattle.bpf_regions.specs.declared.asks.Ask as program
use Rattle.bpf_model.specs.Run.{Safe, Ends}
use Rattle.bpf_tagged.specs.Took.{Answered}
use Rattle.bpf_machine.specs.Verified.{Verified}
use Rattle.bpf_machine.specs.Runs.{setting_of}
use Rattle.bpf_helpers.specs.Hooked.{Given, Held, Gives, shapes_of}
use Rattle.hooks.specs.Verdicts.{no_program}
use Rattle.versions.specs.declared.list.Load.{Load}
use Rattle.versions.specs.Numbers.{number_at, numbers_of}
use Rattle.versions.specs.Sets.{program_at, set_of}
use Rattle.ap_model.specs.Asks.{Ask}
use Rattle.hook_judge.specs.Counted.{Counted, held_of, made_by}
use Rattle.hook_judge.specs.Sums.{counted}

-- A program's run on the frame and context of a query. The program was accepted for the hook, so no run of it faults
-- or exceeds its budget. What it asked was answered from its worker's tables, the clock, the stations and the draws;
-- it ended with `r0` in R0, after `steps` steps.
pub record RunOf (g : Given) (v : Verified) (h : Held) (ask : Ask) (r0 steps : ℕ) (h' : Held) : Type 0 where
  pub for_hook : v.hook ≡ ask.hook
  pub for_maps : v.code.shapes ≡ shapes_of g.maps
  pub safe : Safe v.code.slots v.code.shapes v.budget
  pub asked : List (program.Ask × ℕ)
  pub answered : Answered (Gives g) h asked h'
  pub notes : List ℕ
  pub ends : Ends (setting_of v.code ask.frame ask.context) asked steps r0 notes
  pub within : steps ≤ v.budget

-- the same run, counted once under the number of the load that put the program in force, with the first 16 notes
pub record CountedRun (g : Given) (load : ℕ) (v : Verified) (c : Counted) (ask : Ask) (r0 steps : ℕ) (c' : Counted) : Type 0 where
  pub run : RunOf g v (held_of c) ask r0 steps (held_of c')
  pub counts : c'.counts ≡ counted ask.hook (made_by load v r0 steps (take 16 run.notes)) c.counts

-- the run of the hook's program, which the load with this number put in force; without one, the number of the verdict
-- tables, and nothing runs or is counted
abbrev pub VerdictOf : Given → ℕ → Option Verified → Counted → Ask → ℕ → ℕ → Counted → Type 0
VerdictOf g load None c ask verdict steps c' = (verdict ≡ no_program ask.hook) × (steps ≡ 0) × (c' ≡ c)
VerdictOf g load (Some v) c ask verdict steps c' = CountedRun g load v c ask verdict steps c'

-- the verdict of the programs that these loads result in on a query, after `steps` steps
abbrev pub GivesIn : Given → List Load → Counted → Ask → ℕ → ℕ → Counted → Type 0
GivesIn g loads c ask verdict steps c' =
    VerdictOf g (number_at ask.hook (numbers_of loads)) (program_at ask.hook (set_of loads)) c ask verdict steps c'

-- the verdict of these programs on a query
abbrev pub GivesVerdict : Given → List Load → Counted → Ask → ℕ → Counted → Type 0
GivesVerdict g loads c ask verdict c' = (steps : ℕ) × GivesIn g loads c ask verdict steps c'
