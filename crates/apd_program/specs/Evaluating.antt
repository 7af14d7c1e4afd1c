-- The answer of `eval` for a program and a capture, or for two programs.
use Rattle.std.specs.Prelude.{◌≡◌, ◌^◌, ℕ, Bool, true, false, List, Option, Some, None, Vec, string_bytes}
use Rattle.std.specs.declared.alloc.Global.{Global}
use Rattle.bpf_regions.specs.declared.hooks.Hook.{Hook}
use Rattle.bpf_regions.specs.declared.maps.Shape.{Shape}
use Rattle.bpf_machine.specs.Verified.{Verified}
use Rattle.bpf_verifier.specs.declared.limit.Limits.{Limits}
use Rattle.capture.specs.Packets.{Seen}
use Rattle.capture.specs.Walks.{packets_in}
use Rattle.capture.specs.declared.fault.CaptureFault.{CaptureFault}
use Rattle.ap_model.specs.Readings.{Config}
use Rattle.apd_config.specs.Text.{IsTextOf}
use Rattle.apd_config.specs.declared.configuration.Configuration.{Configuration}
use Rattle.apd_eval.specs.Compared.{IsComparison}
use Rattle.apd_eval.specs.Evaluated.{IsEvaluation}
use Rattle.apd_eval.specs.Profile.{IsProfile}
use Rattle.apd_eval.specs.declared.profile.ProfileForm.TheVariants as form
use Rattle.apd_words.specs.declared.Report.{Report}
use Rattle.apd_words.specs.declared.Report.TheVariants as report
use Rattle.apd_files.specs.Held.{Held, Holds, HoldsCode, HoldsKept}
use Rattle.apd_program.specs.Faults.{HasBadConfiguration, HasBadCode, HasBadCapture}
use Rattle.apd_program.specs.Admitting.{IsOfAdmitted}
use Rattle.apd_program.specs.Captured.{IsCaptured}
use Rattle.apd_program.specs.declared.answer.Answer.{Answer}
use Rattle.apd_program.specs.declared.answer.Answer.TheVariants.{Verdicts, Differences, CutVerdicts}
use Rattle.apd_program.specs.declared.eval.Exam.{Exam}
use Rattle.apd_program.specs.declared.eval.Material.{Material}
use Rattle.apd_program.specs.declared.eval.Setting.{Setting}

-- what a configuration says to the link
abbrev pub link_of : Configuration → Config
link_of c = record { bssid = c.bssid; ssid = c.ssid.items; rates = c.rates.items }

-- the file is this configuration
pub record HoldsConfiguration (files : Held) (path : List ℕ) (c : Configuration) : Type 0 where
  pub text : List ℕ
  pub there : Holds files path text
  pub is : IsTextOf text c

-- the file is a configuration with this setting
pub record HoldsSetting (files : Held) (path : List ℕ) (s : Setting) : Type 0 where
  pub configuration : Configuration
  pub configured : HoldsConfiguration files path configuration
  pub link : s.link ≡ link_of configuration
  pub maps : s.shapes ≡ configuration.maps
  pub draw : s.draw ≡ configuration.draw

-- what is kept of the code in a file, if one is named
abbrev pub IsKept : Held → Option (List ℕ) → Option (Vec ℕ Global) → Type 0
IsKept files None code = code ≡ None
IsKept files (Some path) None = ⊥
IsKept files (Some path) (Some code) = HoldsKept (2 ^ 17) files path code.items

-- what is read: a setting, what is kept of the code, the capture's bytes, and what is kept of the code in force
pub record IsMaterial (files : Held) (config file capture : List ℕ) (against : Option (List ℕ)) (m : Material) : Type 0 where
  pub setting : HoldsSetting files config m.setting
  pub kept : HoldsKept (2 ^ 17) files file m.code.items
  pub there : Holds files capture m.capture.items
  pub in_force : IsKept files against m.in_force

-- the file is a capture of these packets, or of these before a fault
pub record HoldsCapture (files : Held) (path : List ℕ) (cut : Option CaptureFault) (packets : List Seen) : Type 0 where
  pub bytes : List ℕ
  pub there : Holds files path bytes
  pub captured : IsCaptured bytes cut packets

-- on what programs are judged, and what is printed of that; the capture may be cut after the packets
pub record Replayed : Type 0 where
  pub hook : Hook
  pub draw : ℕ
  pub config : Config
  pub packets : List Seen
  pub cut : Option CaptureFault
  pub report : Report

abbrev pub replayed_by : Exam → Replayed
replayed_by e = record {
  hook = e.terms.hook;
  draw = e.replay.draw;
  config = e.replay.link.now;
  packets = packets_in e.replay.recording.bytes.now;
  cut = e.cut;
  report = e.report;
}

-- verdicts, or how often each instruction was executed
abbrev pub IsReport : Report → Verified → ℕ → Config → List Seen → List ℕ → Type 0
IsReport report.Verdicts v draw config packets text = IsEvaluation v draw config packets false text
IsReport report.VerdictsJson v draw config packets text = IsEvaluation v draw config packets true text
IsReport report.Profile v draw config packets text = IsProfile v draw config packets form.Table text
IsReport report.ProfileJson v draw config packets text = IsProfile v draw config packets form.Json text
IsReport report.ProfileGraph v draw config packets text = IsProfile v draw config packets form.Graph text

-- the answer has this text; it is for a capture that is cut at a fault, or for a whole one
abbrev pub IsShown : Option CaptureFault → List ℕ → Answer → Type 0
IsShown None text (Verdicts t) = string_bytes t ≡ text
IsShown (Some fault) text (CutVerdicts t f) = (f ≡ fault) × (string_bytes t ≡ text)
IsShown cut text _ = ⊥

-- the same of two programs; of a whole capture, it also says whether verdicts differ
abbrev pub IsContrasted : Option CaptureFault → List ℕ → Bool → Answer → Type 0
IsContrasted None text differs (Differences t d) = (string_bytes t ≡ text) × (d ≡ differs)
IsContrasted (Some fault) text differs (CutVerdicts t f) = (f ≡ fault) × (string_bytes t ≡ text)
IsContrasted cut text differs _ = ⊥

-- what is printed of a program
pub record AreVerdicts (g : Replayed) (v : Verified) (a : Answer) : Type 0 where
  pub text : List ℕ
  pub shown : IsShown g.cut text a
  pub is : IsReport g.report v g.draw g.config g.packets text

-- whether lines of JSON are asked for
abbrev pub is_json : Report → Bool
is_json report.Verdicts = false
is_json report.VerdictsJson = true
is_json report.Profile = false
is_json report.ProfileJson = true
is_json report.ProfileGraph = false

-- the verdicts of a program that differ from those of the one in force, which the link follows
pub record AreDifferences (g : Replayed) (in_force v : Verified) (a : Answer) : Type 0 where
  pub text : List ℕ
  pub differs : Bool
  pub shown : IsContrasted g.cut text differs a
  pub is : IsComparison in_force v g.draw g.config g.packets (is_json g.report) text differs

-- the verdicts of the program that code spells; or, with the code in force, those that differ. That is verified first.
abbrev pub AreJudged : Limits → Replayed → Option (List ℕ) → List ℕ → List Shape → Answer → Type 0
AreJudged limits g None code shapes a = IsOfAdmitted limits g.hook (AreVerdicts g) code shapes a
AreJudged limits g (Some in_force) code shapes a =
    IsOfAdmitted limits g.hook (λ v. IsOfAdmitted limits g.hook (AreDifferences g v) code shapes) in_force shapes a

-- the code in the file, if one is named
abbrev pub HoldsIfAny : Held → Option (List ℕ) → Option (List ℕ) → Type 0
HoldsIfAny files None code = code ≡ None
HoldsIfAny files (Some path) None = ⊥
HoldsIfAny files (Some path) (Some code) = HoldsCode files path code

-- the program in a file is judged on the capture in another, at an access point of the configuration in a third,
-- against that in a fourth, if one is named
pub record IsEvaluatedWith (files : Held) (limits : Limits) (hook : Hook) (file capture : List ℕ) (against : Option (List ℕ)) (asked : Report) (config : List ℕ) (a : Answer) : Type 0 where
  pub configuration : Configuration
  pub configured : HoldsConfiguration files config configuration
  pub code : List ℕ
  pub held : HoldsCode files file code
  pub in_force : Option (List ℕ)
  pub held_in_force : HoldsIfAny files against in_force
  pub packets : List Seen
  pub cut : Option CaptureFault
  pub captured : HoldsCapture files capture cut packets
  pub said : AreJudged limits (record { hook = hook; draw = configuration.draw; config = link_of configuration; packets = packets; cut = cut; report = asked }) in_force code configuration.maps a

-- the same; there has to be a configuration
abbrev pub IsEvaluatedFile : Held → Limits → Hook → List ℕ → List ℕ → Option (List ℕ) → Report → Option (List ℕ) → Answer → Type 0
IsEvaluatedFile files limits hook file capture against asked None a = ⊥
IsEvaluatedFile files limits hook file capture against asked (Some config) a =
    IsEvaluatedWith files limits hook file capture against asked config a

-- the code in a named file is faulty
abbrev pub HasBadCodeInForce : Held → Option (List ℕ) → Type 0
HasBadCodeInForce files None = ⊥
HasBadCodeInForce files (Some path) = HasBadCode files path

-- there is no configuration, or a file is faulty
pub data HasNoEvaluation (files : Held) (file capture : List ℕ) (against : Option (List ℕ)) : Option (List ℕ) → Type 0 where
  NoConfig : HasNoEvaluation files file capture against None
  OfConfiguration : (config : List ℕ) → HasBadConfiguration files config → HasNoEvaluation files file capture against (Some config)
  OfCode : (config : Option (List ℕ)) → HasBadCode files file → HasNoEvaluation files file capture against config
  OfCapture : (config : Option (List ℕ)) → HasBadCapture files capture → HasNoEvaluation files file capture against config
  OfCodeInForce : (config : Option (List ℕ)) → HasBadCodeInForce files against → HasNoEvaluation files file capture against config
