-- A run over plain maps, and its text.
use Rattle.std.specs.Prelude.{◌≡◌, ◌≤◌, ℕ, List, ◌∷◌, ◌++◌, map, replicate, All}
use Rattle.bpf_regions.specs.declared.hooks.Hook.{Hook}
use Rattle.bpf_regions.specs.declared.maps.Shape.{Shape}
use Rattle.bpf_regions.specs.declared.asks.Ask.{Ask}
use Rattle.bpf_regions.specs.Hooks.{number_of}
use Rattle.bpf_decode.specs.Program.{Begins}
use Rattle.bpf_machine.specs.Verified.{Verified}
use Rattle.bpf_machine.specs.Runs.{Traced, setting_of}
use Rattle.bpf_machine.specs.declared.outcome.Step.{Step}
use Rattle.bpf_machine.specs.declared.outcome.Outcome.{Outcome}
use Rattle.bpf_helpers.specs.Plain.{Plain, zeros, answer_of, left_after}
use Rattle.apd_text.specs.TraceLines.{run_text}

-- 32 bytes that are 0 except for byte 6, the number of the hook
abbrev pub context_of : Hook → List ℕ
context_of hook = replicate 6 0 ++ (number_of hook ∷ replicate 25 0)

-- maps whose words are 0, clock 0, no stations, and the first number drawn
abbrev pub port_of : List Shape → ℕ → Plain
port_of shapes draw = record { tables = map zeros shapes; clock = 0; stations = 0; draw = draw }

-- the maps, the clock, the stations and the draw word answer a query
abbrev pub Gives : Plain → Ask → ℕ → Plain → Type 0
Gives p q a p2 = (a ≡ answer_of p q) × (p2 ≡ left_after p q)

-- The text of the program's run on the frame with the context. Each step begins an instruction, and there are at most
-- as many steps as the program's budget.
pub record IsTrace (program : Verified) (frame context : List ℕ) (draw : ℕ) (text : List ℕ) : Type 0 where
  pub port : Plain
  pub log : List Step
  pub outcome : Outcome
  pub run : Traced Gives (setting_of program.code frame context)
      (port_of program.code.shapes draw) port log outcome
  pub begins : All (λ step. Begins program.code.slots step.pc) log
  pub within : outcome.steps ≤ program.budget
  pub is : text ≡ run_text program.code.slots log outcome.r0 outcome.steps
