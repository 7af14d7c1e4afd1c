-- Why a file doesn't spell code.
use Rattle.std.specs.Prelude.{◌≡◌, ◌≢◌, ◌⊎◌, ◌%◌, List, ℕ, Err, length, slice_index}
use Rattle.std.specs.List.{AllPass}
use Rattle.hex.specs.Hex.{is_hex_digit}
use Rattle.hex.specs.declared.error.FromHexError.{FromHexError}
use Rattle.apd_files.specs.Held.{Held, Holds, Lacks, code_of, digits_of}
use Rattle.apd_files.specs.Reading.{IsFirstForeign}
use Rattle.apd_files.specs.declared.inputs.files.FileKind.{FileKind}
use Rattle.apd_files.specs.declared.inputs.files.FileFault.{FileFault}
use Rattle.apd_files.specs.declared.inputs.files.FileFault.TheVariants as file_fault
use Rattle.apd_files.specs.declared.inputs.digits.BlockFault.{BlockFault}
use Rattle.apd_files.specs.declared.inputs.digits.BlockFault.TheVariants as block_fault
use Rattle.apd_files.specs.declared.inputs.code.CodeFault.{CodeFault}
use Rattle.apd_files.specs.declared.inputs.code.CodeFault.TheVariants.{Unreadable, Digits, NoMemory}
use Rattle.apd_files.specs.declared.inputs.code.DigitFault.{DigitFault}
use Rattle.apd_files.specs.declared.inputs.code.DigitFault.TheVariants.{Foreign, Odd}

-- why the text isn't pairs of hex digits; the line isn't specified
abbrev pub Spoils : DigitFault → List ℕ → Type 0
Spoils (Foreign line byte) text = IsFirstForeign byte text
Spoils Odd text = AllPass is_hex_digit (digits_of text) × (length (digits_of text) % 2 ≡ 1)

-- the file doesn't hold pairs of hex digits, for this fault
pub record HoldsNoCode (files : Held) (path : List ℕ) (fault : DigitFault) : Type 0 where
  pub text : List ℕ
  pub there : Holds files path text
  pub spoils : Spoils fault text
  pub why : FromHexError
  pub refused : code_of text ≡ Err why

-- the fault is one that the file of this kind has; lack of memory says nothing
abbrev pub IsFaultOf : FileKind → Held → List ℕ → CodeFault → Type 0
IsFaultOf kind files path (Unreadable why) = Lacks kind files path
IsFaultOf kind files path (Digits fault) = HoldsNoCode files path fault
IsFaultOf kind files path NoMemory = Unit {0}

-- the fault of reading a file is kept as it is, or becomes lack of memory
abbrev pub IsTold : FileFault → CodeFault → Type 0
IsTold why told =
    (told ≡ NoMemory) ⊎ ((why ≢ file_fault.NoMemory) × (told ≡ Unreadable why))

-- the fault of a file is that of its block: the byte, or lack of memory
abbrev pub Tells : List ℕ → BlockFault → CodeFault → Type 0
Tells block block_fault.NoMemory fault = fault ≡ NoMemory
Tells block (block_fault.Foreign at) fault =
    (line : ℕ) × (fault ≡ Digits (Foreign line (slice_index block at)))
