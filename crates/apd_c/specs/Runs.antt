-- Runs of programs, as C sees them.
use Rattle.std.specs.Prelude.{◌≡◌, ◌≤◌, ℕ, List, length, take, slice_index, Option, Some}
use Rattle.bpf_regions.specs.Hooks.{number_of}
use Rattle.bpf_machine.specs.Verified.{Verified}
use Rattle.bpf_machine.specs.Runs.{Ran, setting_of}
use Rattle.bpf_machine.specs.declared.outcome.Outcome.{Outcome}
use Rattle.bpf_helpers.specs.Hooked as hooked
use Rattle.apd_c.specs.declared.handle.Content.{Content}
use Rattle.apd_c.specs.declared.maps.Maps.{Maps}
use Rattle.apd_c.specs.declared.runs.Given.{Given}
use Rattle.apd_c.specs.declared.runs.Report.{Report}
use Rattle.apd_c.specs.Answers.{IsDone, Unless, UnlessSome}
use Rattle.apd_c.specs.Code.{code_of}
use Rattle.apd_c.specs.Words.{maps_of}

-- what the program reads: the words of the maps, the clock and the stations
abbrev pub given_to : Maps → Given → hooked.Given
given_to m g = record { maps = m.tables.maps; worker = 0; clock = g.clock; stations = g.stations }

-- The run of the program on the frame and the context, whose queries were answered over the words of the maps, with the
-- clock, the stations and the draws. It ended within the budget. R0, the steps and the notes are reported.
pub record RunsOn (a : Verified) (m : Maps) (frame : List ℕ) (g : Given) (report : Report) (m' : Maps) : Type 0 where
  pub outcome : Outcome
  pub ran : Ran (hooked.Gives (given_to m g)) (setting_of a.code frame g.context) m.state m'.state outcome
  pub within : outcome.steps ≤ a.budget
  pub r0 : report.r0 ≡ outcome.r0
  pub steps : report.steps ≡ outcome.steps
  pub notes : take report.count report.notes ≡ outcome.notes.items
  pub shapes : m'.shapes ≡ m.shapes
  pub tables : m'.tables ≡ m.tables
  pub hand : m'.hand ≡ m.hand

-- the run over maps that a handle holds
abbrev pub HasRun : Verified → Option Content → List ℕ → Given → Report → Option Content → Type 0
HasRun a o frame g report o' =
    (m : Maps) × (m' : Maps) × (maps_of o ≡ Some m) × (maps_of o' ≡ Some m') × RunsOn a m frame g report m'

-- the run of a program that a handle holds
abbrev pub RunsCode : Option Content → Option Content → List ℕ → Given → Report → Option Content → Type 0
RunsCode code o frame g report o' = (a : Verified) × (code_of code ≡ Some a) × HasRun a o frame g report o'

-- the frame and the number of stations are within their limits
pub record IsGivable (frame : List ℕ) (g : Given) : Type 0 where
  pub short : length frame ≤ 2400
  pub few : g.stations ≤ 2007

-- byte 6 of the context is the hook that the program was verified for
abbrev pub IsForHook : Verified → Given → Type 0
IsForHook a g = slice_index g.context 6 ≡ number_of a.hook

-- 90 exactly if the frame or the stations are out of their limits; otherwise 93 exactly if the program is for maps of
-- other shapes; otherwise 95 exactly if the context is for another hook; otherwise 0
abbrev pub IsNumberOn : Verified → Maps → List ℕ → Given → ℕ → Type 0
IsNumberOn a m frame g = Unless (IsGivable frame g) 90 (Unless (m.shapes ≡ a.code.shapes) 93 (Unless (IsForHook a g) 95 IsDone))

-- The number of a run: 91 exactly if a handle doesn't hold a program or maps; otherwise by `IsNumberOn`.
abbrev pub IsRunNumber : Option Content → Option Content → List ℕ → Given → ℕ → Type 0
IsRunNumber code maps frame g = UnlessSome (code_of code) 91 (λ a. UnlessSome (maps_of maps) 91 (λ m. IsNumberOn a m frame g))
