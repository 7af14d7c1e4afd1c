-- Elements (IEEE 802.11-2016, 9.4.2.1), and their one spelling.
use Rattle.std.specs.Prelude.{◌≡◌, ◌≤◌, ℕ, zero, suc, ◌==◌, if◌then◌else◌, Bool, true, false, List, [], ◌∷◌, ◌++◌, length, take, drop, Option, Some, None, ◌↔◌}

-- an identifier, and what follows its length
pub record Element : Type 0 where
  pub id : ℕ
  pub bytes : List ℕ

-- an id, a length, and that many bytes
abbrev pub elements_text : List Element → List ℕ
elements_text [] = []
elements_text (e ∷ es) = e.id ∷ length e.bytes ∷ (e.bytes ++ elements_text es)

-- bytes that elements spell
pub record AreElements (bytes : List ℕ) : Type 0 where
  pub elements : List Element
  pub text : bytes ≡ elements_text elements

-- whether bytes end within an element, if the next `skipped` bytes belong to an element
abbrev pub cut_after : ℕ → List ℕ → Bool
cut_after zero [] = false
cut_after (suc skipped) [] = true
cut_after (suc skipped) (byte ∷ rest) = cut_after skipped rest
cut_after zero (id ∷ []) = true
cut_after zero (id ∷ len ∷ rest) = cut_after len rest

-- the last element has fewer bytes than its length says, or no length
unfoldable pub is_cut : List ℕ → Bool
is_cut bytes = cut_after 0 bytes

-- the first elements of bytes, at most `most`
abbrev pub elements_within : ℕ → List ℕ → List Element
elements_within zero bytes = []
elements_within (suc most) [] = []
elements_within (suc most) (id ∷ []) = []
elements_within (suc most) (id ∷ len ∷ rest) =
    record { id = id; bytes = take len rest } ∷ elements_within most (drop len rest)

-- the elements that bytes spell
unfoldable pub elements_in : List ℕ → List Element
elements_in bytes = elements_within (length bytes) bytes

-- the bytes of the first element with this id
abbrev pub first_with : ℕ → List Element → Option (List ℕ)
first_with id [] = None
first_with id (e ∷ es) = if e.id == id then Some e.bytes else first_with id es

-- the elements that are not empty
abbrev pub nonempty : List Element → List Element
nonempty [] = []
nonempty (e ∷ es) = if length e.bytes == 0 then nonempty es else e ∷ nonempty es

-- elements short enough for each frame that has elements
pub record IsSendable (bytes : List ℕ) : Type 0 where
  pub spelled : AreElements bytes
  pub short : length bytes ≤ 2366

-- a Supported Rates element
abbrev pub rates_text : List ℕ → List ℕ
rates_text rates = elements_text (record { id = 1; bytes = rates } ∷ [])

-- bytes are spelled by elements if and only if no element in them is cut
abbrev pub CutsNone : Type 0
CutsNone = (bytes : List ℕ) → (is_cut bytes ≡ false) ↔ AreElements bytes

-- reading what elements spell gives these elements
abbrev pub ReadsElements : Type 0
ReadsElements = (es : List Element) → elements_in (elements_text es) ≡ es
