-- The answer of `disasm --dot` for a program.
use Rattle.std.specs.Prelude.{◌≢◌, ℕ, Bool, true, false, List, None, string_bytes}
use Rattle.bpf_decode.specs.Program.{Code}
use Rattle.bpf_rules.specs.declared.fault.Fault.TheVariants.{NoMemory}
use Rattle.bpf_verifier.specs.Admission.{IsSafeBudget, IsRefusalWithin}
use Rattle.bpf_verifier.specs.declared.limit.Limits.{Limits}
use Rattle.apd_policies.specs.Overlays.{Nothing, States}
use Rattle.apd_policies.specs.Graph.{IsGraph}
use Rattle.apd_words.specs.CommandLine.{most_states}
use Rattle.apd_program.specs.Verifying.{within}
use Rattle.apd_program.specs.declared.answer.Answer.{Answer}
use Rattle.apd_program.specs.declared.answer.Answer.TheVariants.{Instructions, RefusedGraph}

-- the program's control-flow graph
abbrev pub IsDrawing : Code → Answer → Type 0
IsDrawing p (Instructions text) = IsGraph Nothing p.slots (string_bytes text)
IsDrawing p _ = ⊥

-- the most states, and any work
abbrev pub unlimited : Limits
unlimited = within most_states None

-- the graph with numbers of states, and with budgets; the verifier's contract doesn't say that it examined as many, nor
-- what they are
abbrev pub IsExplored : Code → List ℕ → Type 0
IsExplored p text = (visits budgets : List ℕ) × IsGraph (States visits budgets) p.slots text

-- the same of a program that is safe within a budget, or of one that the verifier refuses, but not for lack of memory
abbrev pub IsExplained : Code → Answer → Type 0
IsExplained p (Instructions text) =
    (budget : ℕ) × IsSafeBudget p unlimited.states budget × IsExplored p (string_bytes text)
IsExplained p (RefusedGraph text e) =
    (e.fault ≢ NoMemory) × IsRefusalWithin p unlimited e × IsExplored p (string_bytes text)
IsExplained p _ = ⊥

-- with what the verifier finds, or without
abbrev pub IsDrawingWith : Bool → Code → Answer → Type 0
IsDrawingWith true p a = IsExplained p a
IsDrawingWith false p a = IsDrawing p a
