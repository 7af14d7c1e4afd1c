-- What is counted of the runs of programs.
use Rattle.std.specs.Prelude.{ℕ, ◌+◌, ◌-◌, ◌%◌, ◌^◌, ◌==◌, ◌&&◌, Bool, true, false, not, max, drop, length, List, [], ◌++◌, if◌then◌else◌}
use Rattle.bpf_regions.specs.declared.hooks.Hook.{Hook}
use Rattle.bpf_regions.specs.declared.hooks.Hook.TheVariants.{Association, Addba, Data}
use Rattle.hooks.specs.Verdicts.{data_verdict}
use Rattle.hooks.specs.declared.verdicts.DataVerdict.{DataVerdict}
use Rattle.hooks.specs.declared.verdicts.DataVerdict.TheVariants.{Pass, Discard}

-- A run of a hook's program: the number of the load that put the program in force, the program's budget, and what came
-- of the run, with the first 16 of its notes.
pub record Made : Type 0 where
  pub load : ℕ
  pub budget : ℕ
  pub verdict : ℕ
  pub steps : ℕ
  pub notes : List ℕ

-- What was counted of the runs of the program with this budget that the hook's load with this number put in force: how
-- many they were, the most steps of one, the steps of all, how many granted what was asked and how many denied it, and
-- the newest 16 notes, the oldest first.
pub record Counts : Type 0 where
  pub load : ℕ
  pub budget : ℕ
  pub runs : ℕ
  pub most : ℕ
  pub steps : ℕ
  pub granted : ℕ
  pub denied : ℕ
  pub notes : List ℕ

-- no run of it
abbrev pub no_runs : ℕ → ℕ → Counts
no_runs load budget =
    record { load = load; budget = budget; runs = 0; most = 0; steps = 0; granted = 0; denied = 0; notes = [] }

-- the data is not passed up
abbrev pub is_discard : DataVerdict → Bool
is_discard (Pass mark) = false
is_discard Discard = true

-- the verdict refuses an association, declines an agreement, or drops data
abbrev pub denies : Hook → ℕ → Bool
denies Association r = not (r == 0)
denies Addba r = r == 0
denies Data r = is_discard (data_verdict r)

-- the last 16
abbrev pub newest : List ℕ → List ℕ
newest notes = drop (length notes - 16) notes

-- 1 if it holds
abbrev pub one_if : Bool → ℕ
one_if b = if b then 1 else 0

-- the sum, mod 2^64
abbrev pub sum64 : ℕ → ℕ → ℕ
sum64 a b = (a + b) % 2 ^ 64

-- both count runs of the same load
abbrev pub are_of_one : Counts → ℕ → ℕ → Bool
are_of_one c load budget = c.load == load && c.budget == budget

-- the counts of that load: none, if these count runs of another
abbrev pub for_load : ℕ → ℕ → Counts → Counts
for_load load budget c = if are_of_one c load budget then c else no_runs load budget

-- with one more run, of a program of this hook
abbrev pub with_run : Hook → Made → Counts → Counts
with_run hook m c =
    record {
      load = c.load;
      budget = c.budget;
      runs = sum64 c.runs 1;
      most = max c.most m.steps;
      steps = sum64 c.steps m.steps;
      granted = sum64 c.granted (one_if (not (denies hook m.verdict)));
      denied = sum64 c.denied (one_if (denies hook m.verdict));
      notes = newest (c.notes ++ m.notes);
    }

-- with the runs that others counted
abbrev pub with_all : Counts → Counts → Counts
with_all c d =
    record {
      load = c.load;
      budget = c.budget;
      runs = sum64 c.runs d.runs;
      most = max c.most d.most;
      steps = sum64 c.steps d.steps;
      granted = sum64 c.granted d.granted;
      denied = sum64 c.denied d.denied;
      notes = newest (c.notes ++ d.notes);
    }

-- with what another counted of the same load's runs; what it counted of another load's is left out
abbrev pub sum_of : Counts → Counts → Counts
sum_of c d = if are_of_one d c.load c.budget then with_all c d else c
