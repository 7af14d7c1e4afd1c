-- What programs give, query by query, and the last query.
use Rattle.std.specs.Prelude.{◌≡◌, ℕ, List, length, Option, Some, None}
use Rattle.bpf_helpers.specs.Hooked.{Given}
use Rattle.bpf_machine.specs.Verified.{Verified}
use Rattle.bpf_machine.specs.Runs.{setting_of}
use Rattle.apd_eval.specs.Metered.{Metered}
use Rattle.apd_eval.specs.Visits.{Passes, counted}
use Rattle.ap_model.specs.Asks.{Ask}
use Rattle.program_judge.specs.Programs.{Programs, program_at}
use Rattle.program_judge.specs.Verdicts.{RunOf, VerdictOf}
use Rattle.apd_eval.specs.declared.ruling.Ruling.{Ruling}

-- what programs hold after some queries, and the last of these, if there was one
pub record Heard : Type 0 where
  pub held : Metered
  pub last : Option Ruling

-- A program's run on a query, and the slots at which it makes its steps. Each of these is counted.
pub record IsMetered (g : Given) (v : Verified) (h : Metered) (ask : Ask) (r0 steps : ℕ) (h' : Metered) : Type 0 where
  pub run : RunOf g v h.held ask r0 steps h'.held
  pub slots : List ℕ
  pub passes : Passes (setting_of v.code ask.frame ask.context) run.asked r0 slots
  pub many : length slots ≡ steps
  pub is_counted : h'.counts ≡ counted slots h.counts

-- the verdict of a program with the steps of its run, which are counted; without a program that of the verdict tables
abbrev pub GivesMetered : Given → Option Verified → Metered → Ask → ℕ → ℕ → Metered → Type 0
GivesMetered g None h ask verdict steps h' = VerdictOf g None h.held ask verdict steps h'.held × (h'.counts ≡ h.counts)
GivesMetered g (Some v) h ask verdict steps h' = IsMetered g v h ask verdict steps h'

-- the query, with what programs read besides; and its verdict, that of the programs, with the steps of the run
pub record IsRuling (g : Given) (programs : Programs) (h : Metered) (ask : Ask) (r : Ruling) (h' : Metered) : Type 0 where
  pub hook : r.hook ≡ ask.hook
  pub context : r.context ≡ ask.context
  pub clock : r.clock ≡ g.clock
  pub stations : r.stations ≡ g.stations
  pub given : GivesMetered g (program_at ask.hook programs) h ask r.verdict r.steps h'

-- the verdict of these programs on a query, which is then the last
pub record GivesRuling (g : Given) (programs : Programs) (s : Heard) (ask : Ask) (verdict : ℕ) (s' : Heard) : Type 0 where
  pub ruling : Ruling
  pub last : s'.last ≡ Some ruling
  pub verdict_is : ruling.verdict ≡ verdict
  pub is : IsRuling g programs s.held ask ruling s'.held
