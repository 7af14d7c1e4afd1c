-- Abstract results of instructions (RFC 9669 sections 4.1, 4.2 and 5): one row for each operation.
--
-- If all operands are single, the result is the machine's. Otherwise a row has an interval, a signed interval and a
-- tristate number, which are tightened; the result is full if no word remains. ALU takes the row of the low halves,
-- without the signed interval, and cuts its result.
use Rattle.std.specs.Prelude.{ℕ, ◌-◌, ◌^◌, Bool, true, false, bit_and, ◌&&◌, ◌||◌, nat_lt, nat_le, if◌then◌else◌, Option, Some, None}
use Rattle.bpf_insn.specs.declared.insn.AluOp.{AluOp}
use Rattle.bpf_insn.specs.declared.insn.AluOp.TheVariants.{Add, Sub, Mul, Div, Or, And, Lsh, Rsh, Mod, Xor, Mov, Arsh, Sdiv, Smod}
use Rattle.bpf_insn.specs.declared.insn.ByteOrder.{ByteOrder}
use Rattle.bpf_insn.specs.declared.insn.ByteOrder.TheVariants.{Little}
use Rattle.bpf_insn.specs.declared.insn.Extension.{Extension}
use Rattle.bpf_insn.specs.declared.insn.OrderWidth.{OrderWidth}
use Rattle.bpf_insn.specs.declared.insn.OrderWidth.TheVariants as width
use Rattle.bpf_insn.specs.Widths.{extension_bits, order_bits}
use Rattle.bpf_model.specs.Alu.{computed, extended, ordered}
use Rattle.bpf_tnum.specs.Tnum.{Bits, tnum_full, tnum_add, tnum_sub, tnum_and, tnum_or, tnum_xor, tnum_mul, tnum_shl, tnum_shr, tnum_cut}
use Rattle.bpf_interval.specs.Interval.{Bounds, bounds_full, bounds_of_bits, bounds_add, bounds_sub, bounds_and, bounds_or, bounds_mul, bounds_div, bounds_rem, bounds_shl, bounds_shr, bounds_included}
use Rattle.bpf_interval.specs.Signed.{signed_add, signed_sub, signed_sar, signed_div, signed_rem, signed_of_bits}
use Rattle.bpf_absnum.specs.Number.{Num, num_tighten, num_again, num_full, num_single, num_cut, is_single, or_full}

-- the number of a row
abbrev pub num_tight : Bounds → Bounds → Bits → Num
num_tight r s t = or_full (num_tighten r s t)

-- the signed interval of a row: only ALU64 has one
abbrev pub in_wide : Bool → Bounds → Bounds
in_wide wide s = (if wide then s else bounds_full)

-- a row that keeps its operand
abbrev pub kept : Num → Num
kept a = or_full (num_again a)

-- ADD
unfoldable pub row_add : Bool → Num → Num → Num
row_add wide a b =
    num_tight (bounds_add a.range b.range)
    (in_wide wide (signed_add a.signed b.signed)) (tnum_add a.bits b.bits)

-- SUB
unfoldable pub row_sub : Bool → Num → Num → Num
row_sub wide a b =
    num_tight (bounds_sub a.range b.range)
    (in_wide wide (signed_sub a.signed b.signed)) (tnum_sub a.bits b.bits)

-- MUL
unfoldable pub row_mul : Num → Num → Num
row_mul a b = num_tight (bounds_mul a.range b.range) bounds_full (tnum_mul a.bits b.bits)

-- DIV: only the interval is known
unfoldable pub row_div : Num → Num → Num
row_div a b = num_tight (bounds_div a.range b.range) bounds_full tnum_full

-- MOD, likewise
unfoldable pub row_mod : Num → Num → Num
row_mod a b = num_tight (bounds_rem a.range b.range) bounds_full tnum_full

-- AND
unfoldable pub row_and : Num → Num → Num
row_and a b = num_tight (bounds_and a.range b.range) bounds_full (tnum_and a.bits b.bits)

-- OR
unfoldable pub row_or : Num → Num → Num
row_or a b = num_tight (bounds_or a.range b.range) bounds_full (tnum_or a.bits b.bits)

-- XOR: only the tristate number is known
unfoldable pub row_xor : Num → Num → Num
row_xor a b = num_tight bounds_full bounds_full (tnum_xor a.bits b.bits)

-- a shift count is masked first: with 63, or with 31 in ALU
unfoldable pub masked : Bool → Num → Num
masked wide b =
    let mask = (if wide then 63 else 31) in
    (if is_single b then num_single (bit_and b.range.low mask) else row_and b (num_single mask))

-- the count of a shift, if it is single
unfoldable pub count_of : Bool → Num → Option ℕ
count_of wide b = (if is_single (masked wide b) then Some (masked wide b).range.low else None)

-- f of a number, if there is one, else full
abbrev pub num_by : Option ℕ → (ℕ → Num) → Num
num_by None f = num_full
num_by (Some c) f = f c

-- LSH by one count
unfoldable pub row_lsh : Num → ℕ → Num
row_lsh a c = num_tight (bounds_shl a.range c) bounds_full (tnum_shl a.bits c)

-- RSH by one count
unfoldable pub row_rsh : Num → ℕ → Num
row_rsh a c = num_tight (bounds_shr a.range c) bounds_full (tnum_shr a.bits c)

-- ARSH: as RSH if no word is negative
unfoldable pub row_arsh : Bool → Num → ℕ → Num
row_arsh wide a c =
    (if nat_lt a.range.high (if wide then 2 ^ 63 else 2 ^ 31)
    then num_tight (bounds_shr a.range c) (in_wide wide (signed_sar a.signed c)) (tnum_shr a.bits c)
    else num_tight bounds_full (in_wide wide (signed_sar a.signed c)) tnum_full)

-- the divisor of SDIV and SMOD, if it is single and, read as signed, at least 1; ALU has no row for them
unfoldable pub divisor_of : Bool → Num → Option ℕ
divisor_of wide b =
    (if wide && is_single b && nat_le 1 b.range.low && nat_lt b.range.low (2 ^ 63)
    then Some b.range.low else None)

-- SDIV by one divisor: only the signed interval is known
unfoldable pub row_sdiv : Num → ℕ → Num
row_sdiv a c = num_tight bounds_full (signed_div a.signed c) tnum_full

-- SMOD, likewise
unfoldable pub row_smod : Num → ℕ → Num
row_smod a c = num_tight bounds_full (signed_rem a.signed c) tnum_full

-- the row of each operation (RFC 9669 section 4.1)
unfoldable pub num_row : Bool → AluOp → Num → Num → Num
num_row wide Add a b = row_add wide a b
num_row wide Sub a b = row_sub wide a b
num_row wide Mul a b = row_mul a b
num_row wide Div a b = row_div a b
num_row wide Or a b = row_or a b
num_row wide And a b = row_and a b
num_row wide Lsh a b = num_by (count_of wide b) (row_lsh a)
num_row wide Rsh a b = num_by (count_of wide b) (row_rsh a)
num_row wide Mod a b = row_mod a b
num_row wide Xor a b = row_xor a b
num_row wide Mov a b = kept b
num_row wide Arsh a b = num_by (count_of wide b) (row_arsh wide a)
num_row wide Sdiv a b = num_by (divisor_of wide b) (row_sdiv a)
num_row wide Smod a b = num_by (divisor_of wide b) (row_smod a)

-- MOV, which doesn't read its destination
abbrev pub is_move : AluOp → Bool
is_move Mov = true
is_move op = false

-- the operands are single; MOV has only its second one
abbrev pub all_single : AluOp → Num → Num → Bool
all_single op a b = is_single b && (is_move op || is_single a)

-- MOV in ALU64 copies
unfoldable pub num_alu : Bool → AluOp → Num → Num → Num
num_alu wide op a b =
    (if wide && is_move op then b
    else (if all_single op a b then num_single (computed wide op a.range.low b.range.low)
    else (if wide then num_row true op a b
    else num_cut (num_row false op (num_cut a) (num_cut b)))))

-- NEG
unfoldable pub num_negated : Bool → Num → Num
num_negated wide a = num_alu wide Sub (num_single 0) a

-- MOVSX in ALU64 keeps a if its words are signed numbers of n bits, or below 2 ^ (n - 1)
unfoldable pub row_extended : ℕ → Num → Num
row_extended n a =
    (if bounds_included a.signed (signed_of_bits n) then kept a
    else (if nat_lt a.range.high (2 ^ (n - 1)) then num_tight a.range (signed_of_bits n) a.bits
    else num_tight bounds_full (signed_of_bits n) tnum_full))

-- and in ALU if its words are below 2 ^ (n - 1)
unfoldable pub row_extended_32 : ℕ → Num → Num
row_extended_32 n a = (if nat_lt a.range.high (2 ^ (n - 1)) then kept a else num_full)

-- MOVSX
unfoldable pub num_extended : Extension → Bool → Num → Num
num_extended from wide a =
    (if is_single a then num_single (extended from wide a.range.low)
    else (if wide then row_extended (extension_bits from) a
    else num_cut (row_extended_32 (extension_bits from) (num_cut a))))

-- END: little endian keeps the low bits
unfoldable pub row_ordered : ByteOrder → OrderWidth → Num → Num
row_ordered Little width.Double a = num_tight a.range bounds_full a.bits
row_ordered Little w a =
    num_tight (bounds_of_bits (order_bits w)) bounds_full (tnum_cut (order_bits w) a.bits)
row_ordered order w a = num_tight (bounds_of_bits (order_bits w)) bounds_full tnum_full

-- END: the machine's result if the operand is single
unfoldable pub num_ordered : ByteOrder → OrderWidth → Num → Num
num_ordered order w a =
    (if is_single a then num_single (ordered order w a.range.low) else row_ordered order w a)

-- the words of an interval, as a helper may return them
unfoldable pub num_within : Bounds → Num
num_within r = num_tight r bounds_full tnum_full

-- a load of n bits, and the old value of an atomic operation of n bits
unfoldable pub num_loaded : ℕ → Num
num_loaded n = num_within (bounds_of_bits n)

-- a sign-extending load of n bits
unfoldable pub num_loaded_signed : ℕ → Num
num_loaded_signed n = num_tight bounds_full (signed_of_bits n) tnum_full
