-- The answer of `eval --repeat` for a program and a capture.
use Rattle.std.specs.Prelude.{◌≡◌, ℕ, List, Option, Some, None}
use Rattle.bpf_regions.specs.declared.hooks.Hook.{Hook}
use Rattle.bpf_machine.specs.Verified.{Verified}
use Rattle.bpf_verifier.specs.declared.limit.Limits.{Limits}
use Rattle.capture.specs.Packets.{Seen}
use Rattle.capture.specs.declared.fault.CaptureFault.{CaptureFault}
use Rattle.apd_config.specs.declared.configuration.Configuration.{Configuration}
use Rattle.apd_eval.specs.Repeated.{IsRepeated}
use Rattle.apd_files.specs.Held.{Held, HoldsCode}
use Rattle.apd_words.specs.declared.Report.{Report}
use Rattle.apd_program.specs.Admitting.{IsOfAdmitted}
use Rattle.apd_program.specs.Evaluating.{Replayed, IsShown, HoldsConfiguration, HoldsCapture, HasNoEvaluation, is_json, link_of}
use Rattle.apd_program.specs.declared.answer.Answer.{Answer}

-- the verdicts of a program, and how long a run takes in so many rounds
pub record AreTimed (g : Replayed) (times : ℕ) (v : Verified) (a : Answer) : Type 0 where
  pub text : List ℕ
  pub shown : IsShown g.cut text a
  pub is : IsRepeated v g.draw g.config g.packets (is_json g.report) times text

-- the program in a file is judged on the capture in another, at an access point of the configuration in a third
pub record IsRepeatedWith (files : Held) (limits : Limits) (hook : Hook) (file capture : List ℕ) (report : Report) (times : ℕ) (config : List ℕ) (a : Answer) : Type 0 where
  pub configuration : Configuration
  pub configured : HoldsConfiguration files config configuration
  pub code : List ℕ
  pub held : HoldsCode files file code
  pub packets : List Seen
  pub cut : Option CaptureFault
  pub captured : HoldsCapture files capture cut packets
  pub said : IsOfAdmitted limits hook (AreTimed (record { hook = hook; draw = configuration.draw; config = link_of configuration; packets = packets; cut = cut; report = report }) times) code configuration.maps a

-- the same; there has to be a configuration, and no other program
abbrev pub IsRepeatedFile : Held → Limits → Hook → List ℕ → List ℕ → Option (List ℕ) → Report → ℕ → Option (List ℕ) → Answer → Type 0
IsRepeatedFile files limits hook file capture (Some old) report times config a = ⊥
IsRepeatedFile files limits hook file capture None report times None a = ⊥
IsRepeatedFile files limits hook file capture None report times (Some config) a =
    IsRepeatedWith files limits hook file capture report times config a

-- another program is named, or there is no configuration, or a file is faulty
pub data HasNoRepetition (files : Held) (file capture : List ℕ) (against config : Option (List ℕ)) : Type 0 where
  OfTwo : (old : List ℕ) → against ≡ Some old → HasNoRepetition files file capture against config
  OfOne : HasNoEvaluation files file capture against config → HasNoRepetition files file capture against config
