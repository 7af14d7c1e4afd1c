-- The lines of a run.
use Rattle.std.specs.Prelude.{ℕ, List, [], ◌∷◌, ◌++◌, codes, decimal, Option, Some, None, slice_get}
use Rattle.bpf_insn.specs.declared.insn.Insn.{Insn}
use Rattle.bpf_line.specs.Spellings.{text_of}
use Rattle.bpf_machine.specs.declared.outcome.Step.{Step}

-- the slot, a space (32), the instruction's text and a line feed (10)
abbrev pub insn_line : ℕ → Insn → List ℕ
insn_line pc insn = decimal pc ++ (32 ∷ (text_of insn ++ 10 ∷ []))

-- `note N`
abbrev pub note_line : ℕ → List ℕ
note_line n = codes "note " ++ (decimal n ++ 10 ∷ [])

-- `r0 N steps K`: the result and the number of steps
abbrev pub end_line : ℕ → ℕ → List ℕ
end_line r0 steps = codes "r0 " ++ (decimal r0 ++ (codes " steps " ++ (decimal steps ++ 10 ∷ [])))

-- empty if no instruction starts there; no step is there
abbrev pub line_at : ℕ → Option (Option Insn) → List ℕ
line_at pc (Some (Some insn)) = insn_line pc insn
line_at pc (Some None) = []
line_at pc None = []

-- the note of a step, if it made one
abbrev pub noted_line : Option ℕ → List ℕ
noted_line (Some n) = note_line n
noted_line None = []

-- a step: its instruction and its note
abbrev pub step_lines : List (Option Insn) → Step → List ℕ
step_lines slots step = line_at step.pc (slice_get slots step.pc) ++ noted_line step.note

-- the lines of all steps, in order
abbrev pub steps_text : List (Option Insn) → List Step → List ℕ
steps_text slots [] = []
steps_text slots (step ∷ log) = step_lines slots step ++ steps_text slots log

-- the lines of the steps, and that of the result
abbrev pub run_text : List (Option Insn) → List Step → ℕ → ℕ → List ℕ
run_text slots log r0 steps = steps_text slots log ++ end_line r0 steps
