-- What a branch of a conditional jump tells of the numbers that it compares (RFC 9669 section 4.3): what remains of
-- both, or None if no pair takes that branch.
use Rattle.std.specs.Prelude.{ℕ, ◌%◌, ◌^◌, bit_and, bit_or, nat_eq, nat_lt, Bool, true, false, not, ◌&&◌, if◌then◌else◌, Option, Some, None}
use Rattle.std.specs.Int.{is_power_of_two}
use Rattle.bpf_insn.specs.declared.insn.Compare.{Compare}
use Rattle.bpf_insn.specs.declared.insn.Compare.TheVariants.{Eq, Gt, Ge, Set, Ne, Sgt, Sge, Lt, Le, Slt, Sle}
use Rattle.bpf_model.specs.Alu.{holds}
use Rattle.bpf_words.specs.Word.{word_not}
use Rattle.bpf_tnum.specs.Tnum.{Bits, tnum_of, tnum_meet}
use Rattle.bpf_interval.specs.Interval.{Bounds, after_greater, after_at_most, bounds_meet, without_end}
use Rattle.bpf_interval.specs.Signed.{place}
use Rattle.bpf_absnum.specs.Number.{Num, num_of, num_again, is_single, and_then}

-- what remains of both numbers; None if no pair takes the branch
abbrev pub NumPair : Type 0
NumPair = Option (Num × Num)

-- both, each tightened
unfoldable pub pair_of : Num → Num → NumPair
pair_of a b = and_then (num_again a) (λ u. and_then (num_again b) (λ v. Some (u, v)))

-- the pair swapped
abbrev pub turned : NumPair → NumPair
turned o = and_then o (λ p. Some (p.1, p.0))

-- a with this interval
abbrev pub with_range : Num → Bounds → Num
with_range a r = num_of r a.signed a.bits

-- a with this interval of its signed readings
abbrev pub with_signed : Num → Bounds → Num
with_signed a s = num_of a.range s a.bits

-- a > b
unfoldable pub num_greater : Num → Num → NumPair
num_greater a b =
    and_then (after_greater a.range b.range) (λ p. pair_of (with_range a p.0) (with_range b p.1))

-- a <= b
unfoldable pub num_at_most : Num → Num → NumPair
num_at_most a b =
    and_then (after_at_most a.range b.range) (λ p. pair_of (with_range a p.0) (with_range b p.1))

-- the same for the signed readings; in JMP32 no low half is negative, so that both readings agree
unfoldable pub num_signed_greater : Bool → Num → Num → NumPair
num_signed_greater wide a b =
    (if wide
    then and_then (after_greater a.signed b.signed)
    (λ p. pair_of (with_signed a p.0) (with_signed b p.1))
    else num_greater a b)

-- a <= b, of the signed readings
unfoldable pub num_signed_at_most : Bool → Num → Num → NumPair
num_signed_at_most wide a b =
    (if wide
    then and_then (after_at_most a.signed b.signed)
    (λ p. pair_of (with_signed a p.0) (with_signed b p.1))
    else num_at_most a b)

-- a = b: both become their intersection; in JMP32 each keeps its signed interval
unfoldable pub num_equal : Bool → Num → Num → NumPair
num_equal wide a b =
    and_then (bounds_meet a.range b.range) (λ r.
    and_then (tnum_meet a.bits b.bits) (λ t.
    (if wide
    then and_then (bounds_meet a.signed b.signed) (λ s. pair_of (num_of r s t) (num_of r s t))
    else pair_of (num_of r a.signed t) (num_of r b.signed t))))

-- a is not c: an end of either interval that equals c moves by one; in JMP32 the signed interval stays
unfoldable pub num_without : Bool → Num → ℕ → Option Num
num_without wide a c =
    and_then (without_end a.range c) (λ r.
    and_then (if wide then without_end a.signed (place c) else Some a.signed) (λ s.
    Some (num_of r s a.bits)))

-- the words of a that are also in t
unfoldable pub num_met : Num → Bits → Option Num
num_met a t = and_then (tnum_meet a.bits t) (λ u. Some (num_of a.range a.signed u))

-- a bit of c is set in a: None if none can be, refined only if c is one bit
unfoldable pub num_some_set : Num → ℕ → Option Num
num_some_set a c =
    (if nat_eq (bit_and (bit_or a.bits.value a.bits.mask) c) 0 then None
    else (if is_power_of_two c then num_met a (tnum_of c (word_not c)) else Some a))

-- no bit of c is set in a
unfoldable pub num_none_set : Num → ℕ → Option Num
num_none_set a c = num_met a (tnum_of 0 (word_not c))

-- a refinement of one side by the other, if that is single: of a by b, or else of b by a
unfoldable pub by_single : (Num → ℕ → Option Num) → Num → Num → NumPair
by_single f a b =
    (if is_single b then and_then (f a b.range.low) (λ u. pair_of u b)
    else (if is_single a then and_then (f b a.range.low) (λ v. pair_of a v) else Some (a, b)))

-- the branch on which a comparison holds
unfoldable pub num_holds : Bool → Compare → Num → Num → NumPair
num_holds wide Eq a b = num_equal wide a b
num_holds wide Ne a b = by_single (num_without wide) a b
num_holds wide Gt a b = num_greater a b
num_holds wide Ge a b = turned (num_at_most b a)
num_holds wide Lt a b = turned (num_greater b a)
num_holds wide Le a b = num_at_most a b
num_holds wide Set a b = by_single num_some_set a b
num_holds wide Sgt a b = num_signed_greater wide a b
num_holds wide Sge a b = turned (num_signed_at_most wide b a)
num_holds wide Slt a b = turned (num_signed_greater wide b a)
num_holds wide Sle a b = num_signed_at_most wide a b

-- the branch on which it doesn't hold: its opposite does
unfoldable pub num_fails : Bool → Compare → Num → Num → NumPair
num_fails wide Eq a b = num_holds wide Ne a b
num_fails wide Ne a b = num_holds wide Eq a b
num_fails wide Gt a b = num_holds wide Le a b
num_fails wide Ge a b = num_holds wide Lt a b
num_fails wide Lt a b = num_holds wide Ge a b
num_fails wide Le a b = num_holds wide Gt a b
num_fails wide Set a b = by_single num_none_set a b
num_fails wide Sgt a b = num_holds wide Sle a b
num_fails wide Sge a b = num_holds wide Slt a b
num_fails wide Slt a b = num_holds wide Sge a b
num_fails wide Sle a b = num_holds wide Sgt a b

-- the comparison is signed
abbrev pub is_signed : Compare → Bool
is_signed Sgt = true
is_signed Sge = true
is_signed Slt = true
is_signed Sle = true
is_signed compare = false

-- JMP32 refines only numbers below 2 ^ 32, or below 2 ^ 31 if the comparison is signed
abbrev pub tells : Bool → Compare → Num → Num → Bool
tells wide compare a b =
    (if wide then true
    else (let limit = (if is_signed compare then 2 ^ 31 else 2 ^ 32) in nat_lt a.range.high limit && nat_lt b.range.high limit))

-- whether the comparison holds of two words
abbrev pub compares : Bool → Compare → ℕ → ℕ → Bool
compares wide compare x y =
    (if wide then holds 64 compare x y else holds 32 compare (x % 2 ^ 32) (y % 2 ^ 32))

-- whether a jump takes this branch, given whether its comparison holds
abbrev pub goes : Bool → Bool → Bool
goes taken holding = (if taken then holding else not holding)

-- The branch on which a comparison is `taken` or isn't: decided if both are single.
unfoldable pub num_branch : Bool → Compare → Bool → Num → Num → NumPair
num_branch wide compare taken a b =
    (if is_single a && is_single b
    then (if goes taken (compares wide compare a.range.low b.range.low) then Some (a, b) else None)
    else (if tells wide compare a b
    then (if taken then num_holds wide compare a b else num_fails wide compare a b)
    else Some (a, b)))
