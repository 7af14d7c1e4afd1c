-- Soundness: applied to members, the machine's operation gives a member of the result.
use Rattle.std.specs.Prelude.{ℕ, ◌≡◌, ◌^◌, ◌<◌, bit_and, true, Some}
use Rattle.bpf_tnum.specs.Tnum.{Bits, InTnum, tnum_full, tnum_single, tnum_meet, tnum_included}

-- f over-approximates g on two operands
abbrev pub ContainsResults : (Bits → Bits → Bits) → (ℕ → ℕ → ℕ) → Type 0
ContainsResults f g = (a b : Bits) (x y : ℕ) → InTnum a x → InTnum b y → InTnum (f a b) (g x y)

-- f over-approximates g on one operand
abbrev pub ContainsImages : (Bits → Bits) → (ℕ → ℕ) → Type 0
ContainsImages f g = (a : Bits) (x : ℕ) → InTnum a x → InTnum (f a) (g x)

-- all words are in tnum_full
abbrev pub FullContains : Type 0
FullContains = (x : ℕ) → x < 2 ^ 64 → InTnum tnum_full x

-- a word is in its tnum_single
abbrev pub SingleContains : Type 0
SingleContains = (x : ℕ) → x < 2 ^ 64 → InTnum (tnum_single x) x

-- a number of both is in their intersection
abbrev pub MeetKeeps : Type 0
MeetKeeps =
    (a b : Bits) (x : ℕ) → InTnum a x → InTnum b x →
    (r : Bits) × (tnum_meet a b ≡ Some r) × InTnum r x

-- if a is included in b, which is well-formed, each number of a is one of b
abbrev pub IncludedKeeps : Type 0
IncludedKeeps =
    (a b : Bits) (x : ℕ) → b.value < 2 ^ 64 → b.mask < 2 ^ 64 → bit_and b.value b.mask ≡ 0 →
    tnum_included a b ≡ true → InTnum a x → InTnum b x
