-- What is faulty if there is no answer.
use Rattle.std.specs.Prelude.{◌≡◌, ◌≢◌, ◌<◌, ◌⊎◌, Bool, true, false, List, ℕ, length, Option, None, Some, Ok, Err}
use Rattle.hex.specs.Hex.{decode_of}
use Rattle.hex.specs.declared.error.FromHexError.{FromHexError}
use Rattle.apd_config.specs.Text.{TellsOfText}
use Rattle.apd_config.specs.declared.fault.ConfigFault.{ConfigFault}
use Rattle.apd_config.specs.declared.fault.ConfigFault.TheVariants as config
use Rattle.capture.specs.Captures.{Refuses}
use Rattle.capture.specs.declared.fault.CaptureFault.{CaptureFault}
use Rattle.capture.specs.declared.fault.CaptureFault.TheVariants as capture
use Rattle.apd_words.specs.declared.Source.{Source}
use Rattle.apd_words.specs.Asked.{config_of}
use Rattle.apd_program.specs.declared.fault.ProgramFault.{ProgramFault}
use Rattle.apd_program.specs.declared.fault.ProgramFault.TheVariants as fault
use Rattle.apd_program.specs.declared.inputs.Setup.{Setup}
use Rattle.apd_files.specs.declared.inputs.files.FileKind.{FileKind}
use Rattle.apd_files.specs.declared.inputs.files.FileKind.TheVariants.{Configuration, Code, Certificate, Capture}
use Rattle.apd_files.specs.Held.{Held, Holds, Lacks, HoldsCode, code_of}
use Rattle.apd_program.specs.Setups.{Configures}

-- the fault is lack of memory, or this holds
abbrev pub IsMemoryOr : Type 0 → ProgramFault → Type 0
IsMemoryOr other e = (e ≡ fault.NoMemory) ⊎ other

-- a file of the kind can't be read, or isn't pairs of hex digits
pub data HasBadDigits (kind : FileKind) (files : Held) (path : List ℕ) : Type 0 where
  NoFile : Lacks kind files path → HasBadDigits kind files path
  NoCode : (text : List ℕ) (e : FromHexError) → Holds files path text → code_of text ≡ Err e →
      HasBadDigits kind files path

-- the same of code
abbrev pub HasBadCode : Held → List ℕ → Type 0
HasBadCode = HasBadDigits Code

-- the file can't be read, or isn't a configuration
pub data HasBadConfiguration (files : Held) (path : List ℕ) : Type 0 where
  NoFile : Lacks Configuration files path → HasBadConfiguration files path
  NoConfiguration : (text : List ℕ) (e : ConfigFault) → Holds files path text → e ≢ config.NoMemory → TellsOfText text e → HasBadConfiguration files path

-- the file can't be read, or isn't a capture
pub data HasBadCapture (files : Held) (path : List ℕ) : Type 0 where
  NoFile : Lacks Capture files path → HasBadCapture files path
  NoCapture : (text : List ℕ) (e : CaptureFault) → Holds files path text → e ≢ capture.NoMemory → Refuses text e → HasBadCapture files path

-- the named configuration can't be read or isn't one
abbrev pub IsBadConfig : Held → Option (List ℕ) → Type 0
IsBadConfig files None = ⊥
IsBadConfig files (Some path) = HasBadConfiguration files path

-- the configuration is faulty, or it isn't and the code is
pub data IsAtFault (files : Held) (file : List ℕ) : Option (List ℕ) → Type 0 where
  OfConfiguration : (path : Option (List ℕ)) → IsBadConfig files path → IsAtFault files file path
  OfCode : (path : Option (List ℕ)) (setup : Setup) → Configures files path setup → HasBadCode files file → IsAtFault files file path

-- the same for a source
abbrev pub IsBadSource : Held → Source → Type 0
IsBadSource files source = IsAtFault files source.file.now (config_of source)

-- the word isn't pairs of hex digits, or spells more than 2400 bytes
pub data IsNoFrame (word : List ℕ) : Type 0 where
  NoDigits : (e : FromHexError) → decode_of word ≡ Err e → IsNoFrame word
  TooLong : (bytes : List ℕ) → decode_of word ≡ Ok bytes → 2400 < length bytes → IsNoFrame word

-- a file is faulty, or none is and the word spells no frame
pub data HasNoFrame (files : Held) (file word : List ℕ) (config : Option (List ℕ)) : Type 0 where
  OfFiles : IsAtFault files file config → HasNoFrame files file word config
  OfWord : (setup : Setup) (code : List ℕ) → Configures files config setup → HoldsCode files file code → IsNoFrame word → HasNoFrame files file word config

-- words, or fields of the frame, are given for the context
abbrev pub IsGiven : Option (List ℕ) → Bool → Type 0
IsGiven None false = ⊥
IsGiven None true = Unit {0}
IsGiven (Some words) from_frame = Unit {0}

-- a file or the frame is faulty, or something is given for the context
pub data HasNoTrial (files : Held) (file word : List ℕ) (config words : Option (List ℕ)) (from_frame : Bool) : Type 0 where
  OfFrame : HasNoFrame files file word config → HasNoTrial files file word config words from_frame
  OfContext : IsGiven words from_frame → HasNoTrial files file word config words from_frame

-- the configuration or the code is faulty, or else the certificate's file can't be read or isn't pairs of hex digits
pub data HasNoCertificate (files : Held) (file certificate : List ℕ) (config : Option (List ℕ)) : Type 0 where
  OfOthers : IsAtFault files file config → HasNoCertificate files file certificate config
  OfCertificate : (setup : Setup) (code : List ℕ) → Configures files config setup → HoldsCode files file code → HasBadDigits Certificate files certificate → HasNoCertificate files file certificate config
