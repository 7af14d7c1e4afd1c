-- The answer of `frames` for a capture.
use Rattle.std.specs.Prelude.{◌≡◌, ℕ, Bool, true, false, List, length, take, Option, Some, None, Ok}
use Rattle.hex.specs.Hex.{decode_of}
use Rattle.capture.specs.Packets.{Seen}
use Rattle.capture.specs.Walks.{packets_in}
use Rattle.capture.specs.declared.fault.CaptureFault.{CaptureFault}
use Rattle.apd_files.specs.Held.{Held, Holds, Lacks}
use Rattle.apd_files.specs.declared.inputs.files.FileKind.TheVariants.{Capture}
use Rattle.apd_policies.specs.Chosen.{AreNamed, points_of}
use Rattle.apd_policies.specs.Script.{script_of}
use Rattle.apd_policies.specs.declared.frames.chosen.Named.TheVariants.{NoOne, One, Several}
use Rattle.apd_policies.specs.declared.frames.script.Manner.{Manner}
use Rattle.apd_program.specs.Captured.{IsCaptured, IsNoCapture}
use Rattle.apd_program.specs.Spans.{IsSpan}
use Rattle.apd_program.specs.declared.span.Span.{Span}
use Rattle.apd_program.specs.declared.frames.Plan.{Plan}
use Rattle.apd_program.specs.declared.answer.Answer.{Answer}
use Rattle.apd_program.specs.declared.answer.Answer.TheVariants.{Script, CutScript}
use Rattle.apd_program.specs.declared.frames.Choice.{Choice}
use Rattle.apd_program.specs.declared.frames.Choice.TheVariants as choice

-- the word spells an address, by 12 hex digits
pub record IsAddress (word address : List ℕ) : Type 0 where
  pub spelled : decode_of word ≡ Ok address
  pub long : length address ≡ 6

-- the frames that the words ask for: all, those for the given access point, or those for the only one
pub data IsChoice : Option (List ℕ) → Bool → Choice → Type 0 where
  AllChosen : (given : Option (List ℕ)) → IsChoice given true choice.All
  GivenChosen : (word address : List ℕ) → IsAddress word address → IsChoice (Some word) false (choice.Given address)
  OnlyChosen : IsChoice None false choice.Only

-- The access point for whose frames a script of packets is; if they name none, it is for all frames.
pub data IsFor (packets : List Seen) : Choice → Option (List ℕ) → Type 0 where
  ForAll : IsFor packets choice.All None
  ForGiven : (address : List ℕ) → IsFor packets (choice.Given address) (Some address)
  ForOnly : (address : List ℕ) → AreNamed (points_of packets) (One address) → IsFor packets choice.Only (Some address)
  ForNobody : AreNamed (points_of packets) NoOne → IsFor packets choice.Only None

-- the text is a script of the packets, with the frames that are chosen
pub record IsScriptFor (ticks : Bool) (c : Choice) (packets : List Seen) (text : List ℕ) : Type 0 where
  pub bssid : Option (List ℕ)
  pub is_for : IsFor packets c bssid
  pub is : text ≡ script_of ticks bssid packets

-- the packets name several access points, and none is chosen
pub record IsUnclear (c : Choice) (packets : List Seen) : Type 0 where
  pub only : c ≡ choice.Only
  pub named : AreNamed (points_of packets) Several

-- how much of a file becomes the script that is wanted, and how
pub record IsPlanned (p : Plan) (file : List ℕ) (s : Span) (m : Manner) : Type 0 where
  pub span : IsSpan file s
  pub ticks : m.ticks ≡ p.ticks
  pub is_for : IsFor (packets_in (take s.end file)) p.choice m.bssid

-- the text is the script of the file's packets, or of those before a fault
pub record IsScriptOf (ticks : Bool) (c : Choice) (file : List ℕ) (cut : Option CaptureFault) (text : List ℕ) : Type 0 where
  pub packets : List Seen
  pub captured : IsCaptured file cut packets
  pub is : IsScriptFor ticks c packets text

-- the script, with the frames that are chosen
abbrev pub IsChosenScript : Bool → Choice → List ℕ → Answer → Type 0
IsChosenScript ticks c file (Script text) = IsScriptOf ticks c file None text
IsChosenScript ticks c file (CutScript text fault) = IsScriptOf ticks c file (Some fault) text
IsChosenScript ticks c file _ = ⊥

-- `frames`: the script
pub record IsScript (ticks : Bool) (given : Option (List ℕ)) (all : Bool) (file : List ℕ) (a : Answer) : Type 0 where
  pub choice : Choice
  pub chosen : IsChoice given all choice
  pub script : IsChosenScript ticks choice file a

-- the packets of the file, or those before a fault, name several access points, and none is chosen
pub record IsUnclearIn (c : Choice) (file : List ℕ) : Type 0 where
  pub cut : Option CaptureFault
  pub packets : List Seen
  pub captured : IsCaptured file cut packets
  pub unclear : IsUnclear c packets

-- the bytes aren't a capture, or its access point isn't clear
pub data IsUnscripted (c : Choice) (file : List ℕ) : Type 0 where
  NoCapture : IsNoCapture file → IsUnscripted c file
  Unclear : IsUnclearIn c file → IsUnscripted c file

-- the word spells no address, or the file can't be read, or this is so of its bytes
pub data HasNoScript (files : Held) (path : List ℕ) (given : Option (List ℕ)) (all : Bool) : Type 0 where
  NoAddress : (word : List ℕ) → given ≡ Some word → ((address : List ℕ) → IsAddress word address → ⊥) → HasNoScript files path given all
  NoFile : Lacks Capture files path → HasNoScript files path given all
  NoScript : (c : Choice) (file : List ℕ) → IsChoice given all c → Holds files path file → IsUnscripted c file → HasNoScript files path given all
