-- Reading files block by block.
use Rattle.std.specs.Prelude.{◌≡◌, ◌⊎◌, ◌<◌, ◌≤◌, ℕ, List, [], ◌∷◌, ◌++◌, length, slice_index, Option, Some, None, IfSome, Ok, false}
use Rattle.std.specs.List.{AllPass}
use Rattle.std.specs.Char.{is_ascii_whitespace}
use Rattle.hex.specs.Hex.{is_hex_digit}
use Rattle.apd_files.specs.Kinds.{most_of}
use Rattle.apd_files.specs.Held.{Held, Holds, Keeps, digits_of, code_of}
use Rattle.apd_files.specs.declared.inputs.files.FileKind.{FileKind}
use Rattle.apd_files.specs.declared.inputs.digits.BlockFault.{BlockFault}
use Rattle.apd_files.specs.declared.inputs.digits.BlockFault.TheVariants.{Foreign, NoMemory}

-- all bytes of a known file are unread when it opens; a file known to be unreadable doesn't open
abbrev pub Opens : Option (Option (List ℕ)) → Option (List ℕ) → Type 0
Opens None left = Unit {0}
Opens (Some None) left = ⊥
Opens (Some (Some bytes)) left = left ≡ Some bytes

-- the block is a prefix of the unread bytes, and the rest is still unread; it is empty only at the end
pub record Splits (block bytes : List ℕ) (left : Option (List ℕ)) : Type 0 where
  pub rest : List ℕ
  pub split : bytes ≡ block ++ rest
  pub still : left ≡ Some rest
  pub last : block ≡ [] → rest ≡ []

-- the same, if the unread bytes are known
abbrev pub Gives : List ℕ → Option (List ℕ) → Option (List ℕ) → Type 0
Gives block None left = Unit {0}
Gives block (Some bytes) left = Splits block bytes left

-- these bytes of the file were read, and the rest is unread
pub record IsRead
    (front : List ℕ) (file : Option (Option (List ℕ))) (left : Option (List ℕ)) : Type 0 where
  pub rest : List ℕ
  pub whole : IfSome file (λ f. f ≡ Some (front ++ rest))
  pub still : (file ≡ None) ⊎ (left ≡ Some rest)

-- these digits are kept of a text that otherwise has only white space
pub record Collects (most : ℕ) (text digits : List ℕ) : Type 0 where
  pub all : AllPass is_hex_digit (digits_of text)
  pub kept_all : AllPass is_hex_digit digits
  pub keeps : Keeps most 16 (digits_of text) digits

-- if the old digits are those of any text, the new ones are those of the text followed by these bytes
pub record Adds (most : ℕ) (bytes old new : List ℕ) : Type 0 where
  pub adds : (front : List ℕ) → Collects most front old → Collects most (front ++ bytes) new

-- a byte that is neither a hex digit nor white space
pub record IsForeign (byte : ℕ) : Type 0 where
  pub not_white : is_ascii_whitespace byte ≡ false
  pub not_digit : is_hex_digit byte ≡ false

-- the first byte of the text that is neither a hex digit nor white space
pub record IsFirstForeign (byte : ℕ) (text : List ℕ) : Type 0 where
  pub before : List ℕ
  pub after : List ℕ
  pub split : text ≡ before ++ byte ∷ after
  pub fine : AllPass is_hex_digit (digits_of before)
  pub foreign : IsForeign byte

-- the same for a block after a text whose digits were collected, by the byte's index in the block
pub record Stops (most : ℕ) (digits block : List ℕ) (at : ℕ) : Type 0 where
  pub within : at < length block
  pub first : (front : List ℕ) → Collects most front digits →
      IsFirstForeign (slice_index block at) (front ++ block)

-- the fault of a block after a text whose digits were collected
abbrev pub StopsAt : ℕ → List ℕ → List ℕ → BlockFault → Type 0
StopsAt most digits block NoMemory = Unit {0}
StopsAt most digits block (Foreign at) = Stops most digits block at

-- an index in the fault is one of the block
abbrev pub IsWithin : List ℕ → BlockFault → Type 0
IsWithin block NoMemory = Unit {0}
IsWithin block (Foreign at) = at < length block

-- the digits kept of the text of a file of this kind
pub record HasCollected
    (kind : FileKind) (most : ℕ) (files : Held) (path digits : List ℕ) : Type 0 where
  pub text : List ℕ
  pub there : Holds files path text
  pub short : length text ≤ most_of kind
  pub collects : Collects most text digits

-- the bytes kept of the code that the text of a file of this kind spells
pub record HasDecoded
    (kind : FileKind) (most : ℕ) (files : Held) (path kept : List ℕ) : Type 0 where
  pub text : List ℕ
  pub there : Holds files path text
  pub short : length text ≤ most_of kind
  pub code : List ℕ
  pub spelled : code_of text ≡ Ok code
  pub keeps : Keeps most 8 code kept

-- the file has a text, no longer than its kind may be
pub record IsShort (kind : FileKind) (files : Held) (path : List ℕ) : Type 0 where
  pub text : List ℕ
  pub there : Holds files path text
  pub short : length text ≤ most_of kind
