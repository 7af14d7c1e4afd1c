-- Files, and the code that they spell.
use Rattle.std.specs.Prelude.{◌≡◌, ◌<◌, ◌%◌, ◌⊎◌, ℕ, List, [], ◌∷◌, ◌++◌, length, Option, Some, None, Result, Ok, IfSome, not, filter, codes, if◌then◌else◌}
use Rattle.std.specs.Char.{is_ascii_whitespace}
use Rattle.std.specs.Str.{bytes_eq}
use Rattle.hex.specs.Hex.{decode_of}
use Rattle.hex.specs.declared.error.FromHexError.{FromHexError}
use Rattle.apd_files.specs.Kinds.{most_of}
use Rattle.apd_files.specs.declared.inputs.files.FileFault.{FileFault}
use Rattle.apd_files.specs.declared.inputs.files.FileFault.TheVariants as fault
use Rattle.apd_files.specs.declared.inputs.files.FileKind.{FileKind}

-- What is known of files, by path: nothing, the file's bytes, or that it can't be read.
abbrev pub Held : Type 0
Held = List ℕ → Option (Option (List ℕ))

-- the path of the file that a word of a script names: `-` is an ordinary file name there
abbrev pub path_of : List ℕ → List ℕ
path_of word = if bytes_eq word (codes "-") then codes "./-" else word

-- the file's bytes, as far as is known
abbrev pub Holds : Held → List ℕ → List ℕ → Type 0
Holds files path bytes = IfSome (files path) (λ file. file ≡ Some bytes)

-- the file has more than `most` bytes
abbrev pub IsLonger : ℕ → Option (List ℕ) → Type 0
IsLonger most file = (bytes : List ℕ) × (file ≡ Some bytes) × (most < length bytes)

-- there is no file, or it has more bytes than one of its kind may have
abbrev pub IsNoInput : FileKind → Option (List ℕ) → Type 0
IsNoInput kind file = (file ≡ None) ⊎ IsLonger (most_of kind) file

-- why a file isn't opened: it can't be read; lack of memory says nothing
abbrev pub IsUnopened : FileFault → Option (List ℕ) → Type 0
IsUnopened fault.NoMemory file = Unit {0}
IsUnopened (fault.TooLong most) file = ⊥
IsUnopened fault.Missing file = file ≡ None
IsUnopened fault.Directory file = file ≡ None
IsUnopened fault.NotAllowed file = file ≡ None
IsUnopened fault.Failed file = file ≡ None
IsUnopened fault.Taken file = file ≡ None

-- why a file of the kind isn't read: it is too long, or can't be read; lack of memory says nothing
abbrev pub IsUnread : FileKind → FileFault → Option (List ℕ) → Type 0
IsUnread kind fault.NoMemory file = Unit {0}
IsUnread kind (fault.TooLong most) file = (most ≡ most_of kind) × IsLonger (most_of kind) file
IsUnread kind fault.Missing file = file ≡ None
IsUnread kind fault.Directory file = file ≡ None
IsUnread kind fault.NotAllowed file = file ≡ None
IsUnread kind fault.Failed file = file ≡ None
IsUnread kind fault.Taken file = file ≡ None

-- no file of the kind can be read at the path, as far as is known
abbrev pub Lacks : FileKind → Held → List ℕ → Type 0
Lacks kind files path = IfSome (files path) (IsNoInput kind)

-- the hex digits of a text: everything but its white space
abbrev pub digits_of : List ℕ → List ℕ
digits_of text = filter (λ byte. not (is_ascii_whitespace byte)) text

-- the code that hex digits of either case spell, with white space between any two
abbrev pub code_of : List ℕ → Result (List ℕ) FromHexError
code_of text = decode_of (digits_of text)

-- the file spells the code
pub record HoldsCode (files : Held) (path code : List ℕ) : Type 0 where
  pub text : List ℕ
  pub there : Holds files path text
  pub spelled : code_of text ≡ Ok code

-- what is kept of a list: all of it, or, if it is longer than `most`, a list that also is, with the same length mod
-- `unit`
pub data Keeps (most unit : ℕ) (whole kept : List ℕ) : Type 0 where
  Whole : kept ≡ whole → Keeps most unit whole kept
  Part : most < length whole → most < length kept → length kept % unit ≡ length whole % unit →
      Keeps most unit whole kept

-- the file spells code of which this is kept: all of it, or, if it has more than `most` bytes, a list of more than
-- `most` bytes with the same length mod 8
pub record HoldsKept (most : ℕ) (files : Held) (path kept : List ℕ) : Type 0 where
  pub code : List ℕ
  pub held : HoldsCode files path code
  pub keeps : Keeps most 8 code kept

-- the files that were written, by path, as far as is known
abbrev pub Saved : Type 0
Saved = Option (List (List ℕ × List ℕ))

-- one more file was written
abbrev pub Saves : List ℕ → List ℕ → Saved → Saved → Type 0
Saves path bytes None new = Unit {0}
Saves path bytes (Some old) new = new ≡ Some (old ++ (path, bytes) ∷ [])
