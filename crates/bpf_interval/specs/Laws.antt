-- Soundness: an operation contains all results, and a refinement keeps all that takes its branch.
use Rattle.std.specs.Prelude.{ℕ, ℤ, ◌≡◌, ◌%◌, ◌^◌, ◌<◌, ◌≤◌, true, Option, Some, ◌↔◌, ◌<ℤ◌, ◌≤ℤ◌, FitsSigned}
use Rattle.std.specs.Int.{cast_signed, w64}
use Rattle.bpf_words.specs.Word.{shifted_right_signed, signed_quotient, signed_remainder, sign_extended}
use Rattle.bpf_interval.specs.Interval.{Bounds, InBounds, bounds_meet, bounds_cut, bounds_of_bits, bounds_included, without_end}
use Rattle.bpf_interval.specs.Signed.{InSigned, place, narrowed, signed_bounds, signed_sar, signed_div, signed_rem, signed_of_bits}

-- f over-approximates g on words
abbrev pub ContainsResults : (Bounds → Bounds → Bounds) → (ℕ → ℕ → ℕ) → Type 0
ContainsResults f g =
    (a b : Bounds) (x y : ℕ) → x < 2 ^ 64 → y < 2 ^ 64 → InBounds a x →
    InBounds b y → InBounds (f a b) (g x y)

-- the same for signed intervals
abbrev pub ContainsSigned : (Bounds → Bounds → Bounds) → (ℕ → ℕ → ℕ) → Type 0
ContainsSigned f g =
    (a b : Bounds) (x y : ℕ) → x < 2 ^ 64 → y < 2 ^ 64 → InSigned a x →
    InSigned b y → InSigned (f a b) (g x y)

-- the low 32 bits of each word of a are in bounds_cut a
abbrev pub CutContains : Type 0
CutContains = (a : Bounds) (x : ℕ) → InBounds a x → InBounds (bounds_cut a) (x % 2 ^ 32)

-- a word of n bits is in the interval of such words
abbrev pub WidthContains : Type 0
WidthContains = (n x : ℕ) → n ≤ 64 → x < 2 ^ n → InBounds (bounds_of_bits n) x

-- a word of both is in their intersection
abbrev pub MeetKeeps : Type 0
MeetKeeps =
    (a b : Bounds) (x : ℕ) → InBounds a x → InBounds b x →
    (r : Bounds) × (bounds_meet a b ≡ Some r) × InBounds r x

-- a refinement by a relation keeps the pairs in that relation
abbrev pub KeepsPairs : (Bounds → Bounds → Option (Bounds × Bounds)) → (ℕ → ℕ → Type 0) → Type 0
KeepsPairs f R =
    (a b : Bounds) (x y : ℕ) → InBounds a x → InBounds b y → R x y →
    (r : Bounds × Bounds) × (f a b ≡ Some r) × InBounds r.0 x × InBounds r.1 y

-- removing c keeps every other word
abbrev pub WithoutKeeps : Type 0
WithoutKeeps =
    (a : Bounds) (c x : ℕ) → InBounds a x → (x ≡ c → ⊥) →
    (r : Bounds) × (without_end a c ≡ Some r) × InBounds r x

-- a word of an interval is in one that includes it
abbrev pub IncludedKeeps : Type 0
IncludedKeeps =
    (a b : Bounds) (x : ℕ) → b.high < 2 ^ 64 → bounds_included a b ≡ true →
    InBounds a x → InBounds b x

-- ---- signed

-- places are in the order of the signed numbers
abbrev pub PlacesOrder : Type 0
PlacesOrder =
    (x y : ℕ) → x < 2 ^ 64 → y < 2 ^ 64 →
    (cast_signed w64 x <ℤ cast_signed w64 y) ↔ (place x < place y)

-- the words of a signed interval are those that read as numbers between its ends
abbrev pub SignedReads : Type 0
SignedReads = (l h : ℤ) (x : ℕ) → FitsSigned w64 l → FitsSigned w64 h → x < 2 ^ 64
    → InSigned (signed_bounds l h) x ↔ ((l ≤ℤ cast_signed w64 x) × (cast_signed w64 x ≤ℤ h))

-- `place` is its own inverse
abbrev pub PlaceTwice : Type 0
PlaceTwice = (x : ℕ) → x < 2 ^ 64 → place (place x) ≡ x

-- a word of both stays if the unsigned interval narrows the signed one
abbrev pub SignedNarrowKeeps : Type 0
SignedNarrowKeeps =
    (a b : Bounds) (x : ℕ) → InBounds a x → InSigned b x →
    (r : Bounds) × (narrowed a b ≡ Some r) × InSigned r x

-- a word of both stays if the signed interval narrows the unsigned one
abbrev pub UnsignedNarrowKeeps : Type 0
UnsignedNarrowKeeps =
    (a b : Bounds) (x : ℕ) → x < 2 ^ 64 → InSigned a x → InBounds b x →
    (r : Bounds) × (narrowed a b ≡ Some r) × InBounds r x

-- arithmetic shifts by one count
abbrev pub SarContains : Type 0
SarContains =
    (a : Bounds) (c x : ℕ) → x < 2 ^ 64 → InSigned a x →
    InSigned (signed_sar a c) (shifted_right_signed 64 x c)

-- signed quotients by one divisor above 0
abbrev pub DivContains : Type 0
DivContains =
    (a : Bounds) (c x : ℕ) → 1 ≤ c → c < 2 ^ 63 → x < 2 ^ 64 → InSigned a x →
    InSigned (signed_div a c) (signed_quotient 64 x c)

-- signed remainders by one divisor above 0
abbrev pub RemContains : Type 0
RemContains =
    (a : Bounds) (c x : ℕ) → 1 ≤ c → c < 2 ^ 63 → x < 2 ^ 64 → InSigned a x →
    InSigned (signed_rem a c) (signed_remainder 64 x c)

-- the sign extension of n bits is one of the signed numbers of n bits
abbrev pub ExtensionContains : Type 0
ExtensionContains = (n x : ℕ) → 1 ≤ n → n ≤ 64 → InSigned (signed_of_bits n) (sign_extended 64 n x)

-- a word that is a signed number of n bits is its own sign extension
abbrev pub ExtensionKeeps : Type 0
ExtensionKeeps =
    (n x : ℕ) → 1 ≤ n → n ≤ 64 → x < 2 ^ 64 →
    InSigned (signed_of_bits n) x → sign_extended 64 n x ≡ x
