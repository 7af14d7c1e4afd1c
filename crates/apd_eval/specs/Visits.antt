-- The slots at which a run makes its steps, and how many steps it makes at each.
use Rattle.std.specs.Prelude.{◌≡◌, ◌+◌, ◌%◌, ◌^◌, ◌++◌, ◌∷◌, ◌==◌, ℕ, List, [], count_by, length, slice_index, slice_set}
use Rattle.bpf_regions.specs.declared.asks.Ask.{Ask}
use Rattle.bpf_model.specs.State.{Setting, State, Done, entry}
use Rattle.bpf_model.specs.Step.{next}
use Rattle.bpf_model.specs.Run.{Leads}
use Rattle.bpf_machine.specs.declared.outcome.Outcome.{Outcome}
use Rattle.bpf_machine.specs.Runs.{Ran}

-- steps at these slots lead from s to s2, and l lists their queries with their answers
unfoldable pub Visits : Setting → List ℕ → State → List (Ask × ℕ) → State → Type 0
Visits p [] s l s2 = (l ≡ []) × (s ≡ s2)
Visits p (slot ∷ slots) s l s2 =
    (slot ≡ s.pc) × (mid : State) × (now : List (Ask × ℕ)) × (later : List (Ask × ℕ)) ×
    Leads p.shapes (next p s) now mid × Visits p slots mid later s2 × (l ≡ now ++ later)

-- The run with these queries and answers, which ends with this number in R0, makes its steps at these slots. The last
-- is that of EXIT.
pub record Passes (p : Setting) (asked : List (Ask × ℕ)) (r0 : ℕ) (slots : List ℕ) : Type 0 where
  pub last : State
  pub before : List ℕ
  pub steps : Visits p before entry asked last
  pub exit : next p last ≡ Done r0
  pub all : slots ≡ before ++ last.pc ∷ []

-- how many of some steps are made at a slot
abbrev pub times : ℕ → List ℕ → ℕ
times slot slots = count_by (λ s. s == slot) slots

-- counts with one more at a slot, mod 2^64
abbrev pub ticked : ℕ → List ℕ → List ℕ
ticked slot counts = slice_set counts slot ((slice_index counts slot + 1) % 2 ^ 64)

-- the counts after steps at these slots
abbrev pub counted : List ℕ → List ℕ → List ℕ
counted [] counts = counts
counted (slot ∷ slots) counts = counted slots (ticked slot counts)

-- the run whose queries took the port from q to q2 ends with this outcome, and each of its steps is counted
pub record Tallied {S : Type 0} (R : S → Ask → ℕ → S → Type 0) (p : Setting) (q q2 : S) (counts counts' : List ℕ) (outcome : Outcome) : Type 0 where
  pub ran : Ran R p q q2 outcome
  pub slots : List ℕ
  pub passes : Passes p ran.asked outcome.r0 slots
  pub many : length slots ≡ outcome.steps
  pub is_counted : counts' ≡ counted slots counts
