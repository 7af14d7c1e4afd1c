-- The program's answers to questions.
use Rattle.std.specs.Prelude.{◌^◌, Bool, List, ℕ, Option}
use Rattle.bpf_regions.specs.declared.hooks.Hook.{Hook}
use Rattle.bpf_decode.specs.Program.{Code}
use Rattle.bpf_verifier.specs.declared.limit.Limits.{Limits}
use Rattle.apd_words.specs.Asked.{Asked, Verify, Assemble, Disassemble, ListRaw, Graph, Trace, Evaluate, Repeat, Explain, Frames, Test, Help, Certify, Check}
use Rattle.apd_program.specs.declared.answer.Answer.{Answer}
use Rattle.apd_program.specs.declared.inputs.Setup.{Setup}
use Rattle.apd_files.specs.declared.inputs.files.FileKind.TheVariants as kind
use Rattle.apd_files.specs.Held.{Held, Holds, Lacks, HoldsCode, HoldsKept}
use Rattle.apd_program.specs.Setups.{IsFrame, IsContext, Configures}
use Rattle.apd_program.specs.Faults.{IsAtFault, HasNoTrial, HasNoCertificate}
use Rattle.apd_program.specs.Pages.{IsPageFor, HasNoPage, IsHelpText, HasNoHelp, help_words}
use Rattle.apd_program.specs.Scripts.{IsScript, HasNoScript}
use Rattle.apd_program.specs.Programs.{IsOfProgram}
use Rattle.apd_program.specs.Verifying.{IsVerdict, IsBudget, IsRun, within}
use Rattle.apd_program.specs.Texts.{IsAssembly, IsListingWith, IsRawListing}
use Rattle.apd_program.specs.Drawings.{IsDrawingWith}
use Rattle.apd_program.specs.Evaluating.{IsEvaluatedFile, HasNoEvaluation}
use Rattle.apd_program.specs.Repeating.{IsRepeatedFile, HasNoRepetition}
use Rattle.apd_program.specs.Testing.{AreTested, HaveNoTest}
use Rattle.apd_program.specs.Certifying.{IsCertificate, IsChecked}

-- what is said of the program in the file, with the configuration
pub record IsOfCode (says : Setup → Code → Answer → Type 0) (files : Held) (file : List ℕ) (config : Option (List ℕ)) (a : Answer) : Type 0 where
  pub setup : Setup
  pub configured : Configures files config setup
  pub code : List ℕ
  pub held : HoldsCode files file code
  pub said : IsOfProgram (says setup) code setup.shapes a

-- what is said of the text in the file
pub record IsOfText (says : List ℕ → Answer → Type 0) (files : Held) (file : List ℕ) (a : Answer) : Type 0 where
  pub text : List ℕ
  pub there : Holds files file text
  pub said : says text a

-- what is said of what is kept of the file's code; the configuration is read, too
pub record IsOfSlots (says : List ℕ → Answer → Type 0) (files : Held) (file : List ℕ) (config : Option (List ℕ)) (a : Answer) : Type 0 where
  pub setup : Setup
  pub configured : Configures files config setup
  pub kept : List ℕ
  pub held : HoldsKept (2 ^ 17) files file kept
  pub said : says kept a

-- the run of the program in the file on the frame that the word spells, with its context
pub record IsTraced (files : Held) (limits : Limits) (hook : Hook) (file word : List ℕ) (config words : Option (List ℕ)) (from_frame : Bool) (a : Answer) : Type 0 where
  pub frame : List ℕ
  pub spelled : IsFrame word frame
  pub context : List ℕ
  pub told : IsContext hook words from_frame context
  pub said : IsOfCode (λ setup. IsVerdict limits (IsRun hook frame context setup.draw)) files file config a

-- what the certificate in one file shows of the program in the other, within a limit of work
pub record IsCheckedFile (files : Held) (hook : Hook) (file certificate : List ℕ) (config : Option (List ℕ)) (work : Option ℕ) (a : Answer) : Type 0 where
  pub bytes : List ℕ
  pub held : HoldsCode files certificate bytes
  pub said : IsOfCode (λ setup. IsChecked hook bytes work) files file config a

-- the answer to each question, by what the files hold
abbrev pub IsAnswer : Held → Asked → Answer → Type 0
IsAnswer files (Verify hook file config states work) a = IsOfCode (λ setup. IsVerdict (within states work) IsBudget) files file config a
IsAnswer files (Assemble file) a = IsOfText IsAssembly files file a
IsAnswer files (Disassemble file config slots) a = IsOfCode (λ setup. IsListingWith slots) files file config a
IsAnswer files (ListRaw file config slots) a = IsOfSlots (IsRawListing slots) files file config a
IsAnswer files (Graph file config explain) a = IsOfCode (λ setup. IsDrawingWith explain) files file config a
IsAnswer files (Trace hook file word config states work words from_frame) a =
    IsTraced files (within states work) hook file word config words from_frame a
IsAnswer files (Evaluate hook file capture config against states work report) a =
    IsEvaluatedFile files (within states work) hook file capture against report config a
IsAnswer files (Repeat hook file capture config against states work report times) a =
    IsRepeatedFile files (within states work) hook file capture against report times config a
IsAnswer files (Explain number) a = IsPageFor number a
IsAnswer files (Frames capture ticks bssid all) a = IsOfText (IsScript ticks bssid all) files capture a
IsAnswer files (Test paths) a = AreTested files paths a
IsAnswer files (Help command) a = IsHelpText (help_words command) a
IsAnswer files (Certify hook file config states work) a = IsOfCode (λ setup. IsCertificate (within states work) hook) files file config a
IsAnswer files (Check hook file certificate config work) a = IsCheckedFile files hook file certificate config work a

-- there is no answer: a file or a word is faulty
abbrev pub HasNoAnswer : Held → Asked → Type 0
HasNoAnswer files (Verify hook file config states work) = IsAtFault files file config
HasNoAnswer files (Assemble file) = Lacks kind.Text files file
HasNoAnswer files (Disassemble file config slots) = IsAtFault files file config
HasNoAnswer files (ListRaw file config slots) = IsAtFault files file config
HasNoAnswer files (Graph file config explain) = IsAtFault files file config
HasNoAnswer files (Trace hook file word config states work words from_frame) =
    HasNoTrial files file word config words from_frame
HasNoAnswer files (Evaluate hook file capture config against states work report) =
    HasNoEvaluation files file capture against config
HasNoAnswer files (Repeat hook file capture config against states work report times) =
    HasNoRepetition files file capture against config
HasNoAnswer files (Explain number) = HasNoPage number
HasNoAnswer files (Frames capture ticks bssid all) = HasNoScript files capture bssid all
HasNoAnswer files (Test paths) = HaveNoTest files paths
HasNoAnswer files (Help command) = HasNoHelp (help_words command)
HasNoAnswer files (Certify hook file config states work) = IsAtFault files file config
HasNoAnswer files (Check hook file certificate config work) = HasNoCertificate files file certificate config
