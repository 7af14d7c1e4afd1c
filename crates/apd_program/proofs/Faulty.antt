-- Faults of files.
use Rattle.std.proofs.Math.Nat.{lt_of_not-le}
use Rattle.std.proofs.Common.{◌≡◌, ◌≢◌, ◌⊎◌, ◌<◌, ◌≤◌, Bool, true, false, length, List, ℕ, Err, Option, None, Some, inl, inr, refl, subst}
use Rattle.std.specs.Prelude.{IfSome, slice_index}
use Rattle.std.specs.Borrow.{Bor}
use Rattle.bpf_regions.specs.declared.hooks.Hook.{Hook}
use Rattle.bpf_regions.specs.Hooks.{number_of}
use Rattle.apd_text.specs.Trace.{context_of}
use Rattle.hex.specs.Hex.{decode_of}
use Rattle.hex.specs.declared.error.FromHexError.{FromHexError}
use Rattle.hex.specs.declared.error.FromHexError.TheVariants.{OutOfMemory}
use Rattle.apd_config.specs.Text.{TellsOfText}
use Rattle.apd_config.specs.declared.fault.ConfigFault.{ConfigFault}
use Rattle.apd_config.specs.declared.fault.ConfigFault.TheVariants as config
use Rattle.capture.specs.declared.fault.CaptureFault.{CaptureFault}
use Rattle.capture.specs.declared.fault.CaptureFault.TheVariants as capture
use Rattle.apd_program.specs.declared.fault.ProgramFault.{ProgramFault}
use Rattle.apd_program.specs.declared.fault.ProgramFault.TheVariants.{NoMemory}
use Rattle.apd_words.specs.declared.Source.{Source}
use Rattle.apd_words.specs.Asked.{config_of, text_of}
use Rattle.apd_program.specs.declared.inputs.Loaded.{Loaded}
use Rattle.apd_program.specs.declared.inputs.Setup.{Setup}
use Rattle.apd_files.specs.declared.inputs.files.FileKind.{FileKind}
use Rattle.apd_files.specs.declared.inputs.files.FileKind.TheVariants.{Certificate}
use Rattle.apd_files.specs.declared.inputs.files.FileFault.{FileFault}
use Rattle.apd_files.specs.declared.inputs.files.FileFault.TheVariants as unread_fault
use Rattle.apd_files.specs.declared.inputs.code.CodeFault.{CodeFault}
use Rattle.apd_files.specs.declared.inputs.code.CodeFault.TheVariants as read
use Rattle.apd_files.specs.Faults.{IsFaultOf}
use Rattle.apd_files.specs.Held.{Held, Holds, IsNoInput, IsUnread}
use Rattle.apd_program.specs.Setups.{Configures, IsContext, IsLoaded}
use Rattle.apd_program.specs.Faults.{IsMemoryOr, IsBadSource, HasBadCode, HasBadDigits, NoFile, NoCode, HasBadConfiguration, NoConfiguration, IsBadConfig, IsAtFault, OfConfiguration, OfCode, IsNoFrame, NoDigits, OfFiles, OfWord, IsGiven, HasNoTrial, OfFrame, OfContext, HasNoCertificate, OfOthers, OfCertificate}

pub code_at_fault : (kind : FileKind) (files : Held) (path : List ℕ) (e : CodeFault) (f : ProgramFault) → IsFaultOf kind files path e → (e ≡ read.NoMemory → f ≡ NoMemory) → (f ≡ NoMemory) ⊎ HasBadDigits kind files path
code_at_fault kind files path read.NoMemory f h m = inl (m refl)
code_at_fault kind files path (read.Unreadable why) f h m = inr (NoFile h)
code_at_fault kind files path (read.Digits fault) f h m = inr (NoCode h.text h.why h.there h.refused)

unread : (kind : FileKind) (file : Option (List ℕ)) (e : FileFault) (f : ProgramFault) → IsUnread kind e file → (e ≡ unread_fault.NoMemory → f ≡ NoMemory) → (f ≡ NoMemory) ⊎ IsNoInput kind file
unread kind file unread_fault.NoMemory f h m = inl (m refl)
unread kind file (unread_fault.TooLong most) f h m = inr (inr h.1)
unread kind file unread_fault.Missing f h m = inr (inl h)
unread kind file unread_fault.Directory f h m = inr (inl h)
unread kind file unread_fault.NotAllowed f h m = inr (inl h)
unread kind file unread_fault.Failed f h m = inr (inl h)
unread kind file unread_fault.Taken f h m = inr (inl h)

pub file_at_fault : (kind : FileKind) (file : Option (Option (List ℕ))) (e : FileFault) (f : ProgramFault) → IfSome file (IsUnread kind e) → (e ≡ unread_fault.NoMemory → f ≡ NoMemory) → (f ≡ NoMemory) ⊎ IfSome file (IsNoInput kind)
file_at_fault kind None e f h m = inr tt
file_at_fault kind (Some file) e f h m = unread kind file e f h m

known : (e : ConfigFault) → (e ≡ config.NoMemory) ⊎ (e ≢ config.NoMemory)
known config.NoMemory = inl refl
known config.Encoding = inr (λ h. cc)
known (config.Syntax text) = inr (λ h. cc)
known (config.UnknownKey key) = inr (λ h. cc)
known (config.Missing key) = inr (λ h. cc)
known (config.Value key) = inr (λ h. cc)
known (config.UnknownMapKey map key) = inr (λ h. cc)
known (config.MissingInMap map key) = inr (λ h. cc)
known (config.ValueInMap map key) = inr (λ h. cc)

configuration_by : (files : Held) (path text slice : List ℕ) (e : ConfigFault) (f : ProgramFault) → Holds files path text → slice ≡ text → TellsOfText slice e → (e ≡ config.NoMemory → f ≡ NoMemory) → (e ≡ config.NoMemory) ⊎ (e ≢ config.NoMemory)
    → (f ≡ NoMemory) ⊎ HasBadConfiguration files path
configuration_by files path text slice e f there same tells m (inl memory) = inl (m memory)
configuration_by files path text slice e f there same tells m (inr other) =
    inr (NoConfiguration text e there other (let P : List ℕ → Type 0 = λ t. TellsOfText t e in subst P same tells))

pub known_capture : (e : CaptureFault) → (e ≡ capture.NoMemory) ⊎ (e ≢ capture.NoMemory)
known_capture capture.NoMemory = inl refl
known_capture capture.NoCapture = inr (λ h. cc)
known_capture capture.CutHeader = inr (λ h. cc)
known_capture (capture.Version major minor) = inr (λ h. cc)
known_capture (capture.LinkType number) = inr (λ h. cc)
known_capture (capture.CutRecord count) = inr (λ h. cc)
known_capture (capture.Resolution resolution) = inr (λ h. cc)
known_capture (capture.CutBlock place) = inr (λ h. cc)
known_capture (capture.BadBlock place) = inr (λ h. cc)

pub configuration_at_fault : (files : Held) (path text slice : List ℕ) (e : ConfigFault) (f : ProgramFault) → Holds files path text → slice ≡ text → TellsOfText slice e → (e ≡ config.NoMemory → f ≡ NoMemory)
    → (f ≡ NoMemory) ⊎ HasBadConfiguration files path
configuration_at_fault files path text slice e f there same tells m = configuration_by files path text slice e f there same tells m (known e)

pub IsAtFault-configuration : (files : Held) (file : List ℕ) (config : Option (List ℕ)) (e : ProgramFault) → (e ≡ NoMemory) ⊎ IsBadConfig files config → (e ≡ NoMemory) ⊎ IsAtFault files file config
IsAtFault-configuration files file config e (inl memory) = inl memory
IsAtFault-configuration files file config e (inr bad) = inr (OfConfiguration config bad)

pub IsAtFault-code : (files later : Held) (file : List ℕ) (config : Option (List ℕ)) (setup : Setup) (e : ProgramFault) → later ≡ files → Configures files config setup → (e ≡ NoMemory) ⊎ HasBadCode later file
    → (e ≡ NoMemory) ⊎ IsAtFault files file config
IsAtFault-code files later file config setup e same fine (inl memory) = inl memory
IsAtFault-code files later file config setup e same fine (inr bad) =
    inr (OfCode config setup fine (let P : Held → Type 0 = λ f. HasBadCode f file in subst P same bad))

module _ (files : Held) (source : Source) where
  pub HasNoTrial-files : (word : List ℕ) (words : Option (List ℕ)) (from_frame : Bool) (e : ProgramFault) → IsMemoryOr (IsBadSource files source) e → IsMemoryOr (HasNoTrial files source.file.now word (config_of source) words from_frame) e
  HasNoTrial-files word words from_frame e (inl memory) = inl memory
  HasNoTrial-files word words from_frame e (inr fault) = inr (OfFrame (OfFiles fault))

  pub HasNoTrial-word : (word : List ℕ) (words : Option (List ℕ)) (from_frame : Bool) (loaded : Loaded) (e : ProgramFault) → IsLoaded files source loaded → IsMemoryOr (IsNoFrame word) e
      → IsMemoryOr (HasNoTrial files source.file.now word (config_of source) words from_frame) e
  HasNoTrial-word word words from_frame loaded e h (inl memory) = inl memory
  HasNoTrial-word word words from_frame loaded e h (inr bad) = inr (OfFrame (OfWord loaded.setup h.kept.code h.configured h.kept.held bad))

  pub HasNoTrial-given : (word : List ℕ) (words : Option (List ℕ)) (from_frame : Bool) (e : ProgramFault) → IsMemoryOr (IsGiven words from_frame) e
      → IsMemoryOr (HasNoTrial files source.file.now word (config_of source) words from_frame) e
  HasNoTrial-given word words from_frame e (inl memory) = inl memory
  HasNoTrial-given word words from_frame e (inr given) = inr (OfContext given)

  pub HasNoCertificate-others : (certificate : List ℕ) (e : ProgramFault) → IsMemoryOr (IsBadSource files source) e → IsMemoryOr (HasNoCertificate files source.file.now certificate (config_of source)) e
  HasNoCertificate-others certificate e (inl memory) = inl memory
  HasNoCertificate-others certificate e (inr fault) = inr (OfOthers fault)

  pub HasNoCertificate-file : (later : Held) (certificate : List ℕ) (loaded : Loaded) (e : ProgramFault) → later ≡ files → IsLoaded files source loaded → IsMemoryOr (HasBadDigits Certificate later certificate) e
      → IsMemoryOr (HasNoCertificate files source.file.now certificate (config_of source)) e
  HasNoCertificate-file later certificate loaded e same h (inl memory) = inl memory
  HasNoCertificate-file later certificate loaded e same h (inr bad) =
      inr (OfCertificate loaded.setup h.kept.code h.configured h.kept.held (let P : Held → Type 0 = λ f. HasBadDigits Certificate f certificate in subst P same bad))

pub frame_at_fault : (word : List ℕ) (e : FromHexError) (f : ProgramFault) → (e ≡ OutOfMemory) ⊎ (decode_of word ≡ Err e) → (e ≡ OutOfMemory → f ≡ NoMemory) → (f ≡ NoMemory) ⊎ IsNoFrame word
frame_at_fault word e f (inl memory) m = inl (m memory)
frame_at_fault word e f (inr fault) m = inr (NoDigits e fault)

pub too_long : (slice bytes : List ℕ) → slice ≡ bytes → (length slice ≤ 2400 → false ≡ true) → 2400 < length bytes
too_long slice bytes same short = lt_of_not-le (λ h. let no : false ≡ true = short (rw same h) in cc)

-- ---- what is given for a context

pub IsGiven-of : (words : Option (Bor (List ℕ))) (from_frame : Bool) (f : ProgramFault) → (words ≡ None → from_frame ≡ false → ⊥) → (f ≡ NoMemory) ⊎ IsGiven (text_of words) from_frame
IsGiven-of None false f h = absurd (h refl refl)
IsGiven-of None true f h = inr tt
IsGiven-of (Some word) from_frame f h = inr tt

pub IsContext-of : (hook : Hook) (words : Option (Bor (List ℕ))) (from_frame : Bool) (context : List ℕ) → (words ≡ None → from_frame ≡ false → context ≡ context_of hook) → slice_index context 6 ≡ number_of hook → IsContext hook (text_of words) from_frame context
IsContext-of hook None false context zeros number = zeros refl refl
IsContext-of hook None true context zeros number = number
IsContext-of hook (Some word) from_frame context zeros number = number
