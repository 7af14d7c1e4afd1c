-- Soundness of the operations on abstract numbers.
use Rattle.std.specs.Prelude.{ℕ, ◌≡◌, ◌%◌, ◌^◌, ◌<◌, ◌≤◌, Bool, true, Some, bit_and}
use Rattle.bpf_insn.specs.declared.insn.AluOp.{AluOp}
use Rattle.bpf_insn.specs.declared.insn.ByteOrder.{ByteOrder}
use Rattle.bpf_insn.specs.declared.insn.Compare.{Compare}
use Rattle.bpf_insn.specs.declared.insn.Extension.{Extension}
use Rattle.bpf_insn.specs.declared.insn.OrderWidth.{OrderWidth}
use Rattle.bpf_model.specs.Alu.{computed, negation, extended, ordered}
use Rattle.bpf_words.specs.Word.{sign_extended}
use Rattle.bpf_interval.specs.Interval.{Bounds, InBounds}
use Rattle.bpf_absnum.specs.Number.{Num, InNum, num_again, num_cut, num_full, num_single, num_included}
use Rattle.bpf_absnum.specs.Transfer.{num_alu, num_negated, num_extended, num_ordered, num_within, num_loaded, num_loaded_signed}
use Rattle.bpf_absnum.specs.Branch.{num_branch, compares}

-- well-formed abstract numbers
pub record IsNum (a : Num) : Type 0 where
  pub range_fits : a.range.high < 2 ^ 64
  pub signed_fits : a.signed.high < 2 ^ 64
  pub value_fits : a.bits.value < 2 ^ 64
  pub mask_fits : a.bits.mask < 2 ^ 64
  pub apart : bit_and a.bits.value a.bits.mask ≡ 0

-- tightening loses no member: if there is one, the result is Some
abbrev pub TightenKeeps : Type 0
TightenKeeps = (a : Num) (x : ℕ) → InNum a x → (r : Num) × (num_again a ≡ Some r) × InNum r x

-- each member of an included number is a member
abbrev pub IncludedKeeps : Type 0
IncludedKeeps = (a b : Num) (x : ℕ) → IsNum b → num_included a b ≡ true → InNum a x → InNum b x

-- num_full contains all words
abbrev pub FullContains : Type 0
FullContains = (x : ℕ) → x < 2 ^ 64 → InNum num_full x

-- num_single contains its word
abbrev pub SingleContains : Type 0
SingleContains = (x : ℕ) → x < 2 ^ 64 → InNum (num_single x) x

-- num_cut contains the low 32 bits of each word of a
abbrev pub CutContains : Type 0
CutContains = (a : Num) (x : ℕ) → InNum a x → InNum (num_cut a) (x % 2 ^ 32)

-- ---- each result of the machine is in the abstract result

-- the abstract result of an operation contains the machine's
abbrev pub AluContains : Type 0
AluContains =
    (wide : Bool) (op : AluOp) (a b : Num) (x y : ℕ) → InNum a x → InNum b y →
    InNum (num_alu wide op a b) (computed wide op x y)

-- so does that of a negation
abbrev pub NegatedContains : Type 0
NegatedContains =
    (wide : Bool) (a : Num) (x : ℕ) → InNum a x → InNum (num_negated wide a) (negation wide x)

-- so does that of a sign extension
abbrev pub ExtendedContains : Type 0
ExtendedContains =
    (from : Extension) (wide : Bool) (a : Num) (x : ℕ) → InNum a x →
    InNum (num_extended from wide a) (extended from wide x)

-- so does that of a byte order conversion
abbrev pub OrderedContains : Type 0
OrderedContains =
    (order : ByteOrder) (width : OrderWidth) (a : Num) (x : ℕ) → InNum a x →
    InNum (num_ordered order width a) (ordered order width x)

-- a word of an interval is in num_within of it
abbrev pub WithinContains : Type 0
WithinContains = (r : Bounds) (x : ℕ) → InBounds r x → InNum (num_within r) x

-- a word of n bits is in the result of a load of n bits
abbrev pub LoadedContains : Type 0
LoadedContains = (n x : ℕ) → n ≤ 64 → x < 2 ^ n → InNum (num_loaded n) x

-- so is a sign extension of n bits, for a sign-extending load
abbrev pub LoadedSignedContains : Type 0
LoadedSignedContains =
    (n x : ℕ) → 1 ≤ n → n ≤ 64 → InNum (num_loaded_signed n) (sign_extended 64 n x)

-- ---- a branch keeps each pair that takes it, and so is None only if none takes it
abbrev pub BranchKeeps : Type 0
BranchKeeps =
    (wide : Bool) (compare : Compare) (taken : Bool) (a b : Num) (x y : ℕ) → InNum a x → InNum b y →
    compares wide compare x y ≡ taken
    → (r : Num × Num) × (num_branch wide compare taken a b ≡ Some r) × InNum r.0 x × InNum r.1 y
