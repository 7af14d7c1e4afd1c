-- What a worker's programs change, with what was counted of their runs.
use Rattle.std.specs.Prelude.{◌≡◌, ℕ, List}
use Rattle.arrayvec.specs.ArrayVec.{ArrayVec}
use Rattle.shared_maps.specs.Tables.{Place}
use Rattle.bpf_machine.specs.Runs.{Ran, setting_of, with_notes}
use Rattle.bpf_machine.specs.Verified.{Verified}
use Rattle.bpf_machine.specs.declared.outcome.Exit.{Exit}
use Rattle.bpf_machine.specs.declared.outcome.Outcome.{Outcome}
use Rattle.bpf_helpers.specs.Hooked.{Given, Gives, Held}
use Rattle.hook_judge.specs.Counts.{Made}
use Rattle.hook_judge.specs.Sums.{counted}
use Rattle.hook_judge.specs.declared.hook_counts.HookCounts.{HookCounts}

-- a seat at each map, the word drawn next, and what was counted of the runs of each hook's program
pub record Counted : Type 0 where
  pub seats : List Place
  pub draw : ℕ
  pub counts : HookCounts

-- what programs change
abbrev pub held_of : Counted → Held
held_of c = record { seats = c.seats; draw = c.draw }

-- a run with this verdict and these notes, of a program that the load with this number put in force
abbrev pub made_by : ℕ → Verified → ℕ → ℕ → List ℕ → Made
made_by load v verdict steps notes =
    record { load = load; budget = v.budget; verdict = verdict; steps = steps; notes = notes }

-- the counts with that run
abbrev pub counted_by : ℕ → Verified → Outcome → HookCounts → HookCounts
counted_by load v o counts = counted v.hook (made_by load v o.r0 o.steps o.notes.items) counts

-- A run that ended so, with these notes, counted once under the number of the load. What it asked was answered from its
-- worker's tables, the clock, the stations and the draws.
pub record HasRun (g : Given) (load : ℕ) (v : Verified) (frame context : List ℕ) (c : Counted) (exit : Exit) (c' : Counted) : Type 0 where
  pub notes : ArrayVec ℕ
  pub ran : Ran (Gives g) (setting_of v.code frame context) (held_of c) (held_of c') (with_notes exit notes)
  pub counted : c'.counts ≡ counted_by load v (with_notes exit notes) c.counts
