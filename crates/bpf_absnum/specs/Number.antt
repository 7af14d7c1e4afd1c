-- Abstract numbers: an interval, an interval of the signed readings, and a tristate number.
use Rattle.std.specs.Prelude.{ℕ, ◌-◌, ◌^◌, ◌==◌, min, max, bit_and, bit_or, bit_xor, Bool, ◌&&◌, nat_le, nat_lt, if◌then◌else◌, Option, Some, None, unwrap_or}
use Rattle.std.specs.Int.{leading_zeros, w64}
use Rattle.bpf_words.specs.Word.{word_not}
use Rattle.bpf_tnum.specs.Tnum.{Bits, InTnum, tnum_of, tnum_meet, tnum_full, tnum_single, tnum_cut, tnum_included}
use Rattle.bpf_interval.specs.Interval.{Bounds, InBounds, bounds, bounds_full, bounds_included}
use Rattle.bpf_interval.specs.Signed.{InSigned, place, narrowed}

-- the words that are in all three parts
pub record Num : Type 0 where
  pub range : Bounds
  pub signed : Bounds
  pub bits : Bits

-- x is one of the words that a stands for
pub record InNum (a : Num) (x : ℕ) : Type 0 where
  pub within : InBounds a.range x
  pub reads : InSigned a.signed x
  pub known : InTnum a.bits x

-- the abstract number of three parts
abbrev pub num_of : Bounds → Bounds → Bits → Num
num_of r s t = record { range = r; signed = s; bits = t }

-- all words
abbrev pub num_full : Num
num_full = num_of bounds_full bounds_full tnum_full

-- one word
abbrev pub num_single : ℕ → Num
num_single n = num_of (bounds n n) (bounds (place n) (place n)) (tnum_single n)

-- whether the interval of a has one word
abbrev pub is_single : Num → Bool
is_single a = a.range.low == a.range.high

-- each part of a is included in that of b
unfoldable pub num_included : Num → Num → Bool
num_included a b =
    bounds_included a.range b.range && bounds_included a.signed b.signed
    && tnum_included a.bits b.bits

-- ---- tightening: what each part tells of the others

-- f of a value, if there is one
abbrev pub and_then : {X Y : Type 0} → Option X → (X → Option Y) → Option Y
and_then None f = None
and_then (Some x) f = f x

-- all ones up to the highest 1 of n
abbrev pub ones_up_to : ℕ → ℕ
ones_up_to n = 2 ^ (64 - leading_zeros w64 n) - 1

-- what all words between two ends share: the bits above the highest at which the ends differ
abbrev pub shared_bits : ℕ → ℕ → Bits
shared_bits l h = let p = ones_up_to (bit_xor l h) in tnum_of (bit_and l (word_not p)) p

-- the interval between two ends, and t intersected with what its words share; None if no word remains
unfoldable pub tightened_between : ℕ → ℕ → Bits → Option (Bounds × Bits)
tightened_between l h t =
    (if nat_le l h
    then and_then (tnum_meet t (shared_bits l h)) (λ u. Some (bounds l h, u)) else None)

-- an interval and a tristate number, refined once each way: the ends move to the least and the greatest word of t, and
-- then t is intersected with what the words between the ends share
abbrev pub tightened : Bounds → Bits → Option (Bounds × Bits)
tightened a t = tightened_between (max a.low t.value) (min a.high (bit_or t.value t.mask)) t

-- the unsigned interval refines the signed one, and then the other way round
abbrev pub sign_step : {X : Type 0} → Bounds → Bounds → (Bounds → Bounds → Option X) → Option X
sign_step r s k = and_then (narrowed r s) (λ s1. and_then (narrowed s1 r) (λ r1. k r1 s1))

-- the intervals refine each other, then the interval and the tristate number, then the intervals again; None if no word
-- remains
unfoldable pub num_tighten : Bounds → Bounds → Bits → Option Num
num_tighten r s t =
    sign_step r s
    (λ r1 s1. and_then (tightened r1 t) (λ p. sign_step p.0 s1 (λ r2 s2. Some (num_of r2 s2 p.1))))

-- a tightened
abbrev pub num_again : Num → Option Num
num_again a = num_tighten a.range a.signed a.bits

-- all words if None
abbrev pub or_full : Option Num → Num
or_full o = unwrap_or o num_full

-- the low 32 bits: a itself, tightened, if all its words are below 2 ^ 32
unfoldable pub num_cut : Num → Num
num_cut a =
    (if nat_lt a.range.high (2 ^ 32) then or_full (num_again a)
    else or_full (num_tighten (bounds 0 (2 ^ 32 - 1)) bounds_full (tnum_cut 32 a.bits)))
