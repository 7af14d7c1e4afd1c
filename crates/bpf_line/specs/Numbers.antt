-- The numbers of a line: digits after an optional sign or `0x`.
use Rattle.std.specs.Prelude.{ℕ, ◌^◌, length, ◌-◌, List, [], ◌∷◌, nat_lt, nat_le, nat_eq, Bool, false, ◌&&◌, if◌then◌else◌, Result, Ok, Err, ℤ, pos, neg_ℤ, drop, take, bytes_eq, codes}
use Rattle.std.specs.List.{list_all}
use Rattle.std.specs.Int.{w32, cast_signed}
use Rattle.std.specs.Char.{digit_value}
use Rattle.std.specs.Str.Parse.{digits_value}
use Rattle.bpf_line.specs.declared.fault.LineFault.{LineFault}
use Rattle.bpf_line.specs.declared.fault.LineFault.TheVariants.{Grammar, Range}

-- one or more digits, and nothing else
abbrev pub is_numeral : ℕ → List ℕ → Bool
is_numeral radix t = nat_lt 0 (length t) && list_all (λ c. nat_lt (digit_value c) radix) t

-- continues with a part that was read, or returns its fault
abbrev pub on : {A B : Type 0} → Result A LineFault → (A → Result B LineFault) → Result B LineFault
on (Ok a) f = f a
on (Err fault) f = Err fault

-- the number that digits spell; from 2^64 it is out of range in every place
abbrev pub numeral : ℕ → List ℕ → Result ℕ LineFault
numeral radix t =
    (if is_numeral radix t
    then (if nat_lt (digits_value radix t) (2 ^ 64) then Ok (digits_value radix t) else Err Range)
    else Err Grammar)

-- decimal, or `0x` and hexadecimal digits of either case
abbrev pub unsigned : List ℕ → Result ℕ LineFault
unsigned t = (if bytes_eq (take 2 t) (codes "0x") then numeral 16 (drop 2 t) else numeral 10 t)

-- a 32-bit word, as a signed number
abbrev pub word : ℕ → Result ℤ LineFault
word n = (if nat_lt n (2 ^ 32) then Ok (cast_signed w32 n) else Err Range)

-- -n, if n is at most `most`
abbrev pub below_zero : ℕ → ℕ → Result ℤ LineFault
below_zero most n = (if nat_le n most then Ok (neg_ℤ (pos n)) else Err Range)

-- n, if it is at most `most`
abbrev pub above_zero : ℕ → ℕ → Result ℤ LineFault
above_zero most n = (if nat_le n most then Ok (pos n) else Err Range)

-- the text begins with this character
abbrev pub starts : ℕ → List ℕ → Bool
starts c [] = false
starts c (d ∷ ds) = nat_eq d c

-- an immediate: from -2147483648 to 4294967295, taken mod 2^32
abbrev pub imm : List ℕ → Result ℤ LineFault
imm t =
    (if starts 45 t then on (numeral 10 (drop 1 t)) (below_zero (2 ^ 31)) else on (unsigned t) word)

-- a target or offset begins with its sign
abbrev pub signed : (ℕ → Result ℤ LineFault) → ℕ → List ℕ → Result ℤ LineFault
signed plus least t =
    (if starts 43 t then on (numeral 10 (drop 1 t)) plus
    else (if starts 45 t then on (numeral 10 (drop 1 t)) (below_zero least) else Err Grammar))

-- the offset of a jump or of an access: from -32768 to 32767
abbrev pub offset : List ℕ → Result ℤ LineFault
offset t = signed (above_zero (2 ^ 15 - 1)) (2 ^ 15) t

-- the target of a long jump or local call, with the range of an immediate
abbrev pub long_offset : List ℕ → Result ℤ LineFault
long_offset t = signed word (2 ^ 31) t

-- with a minus sign only 0 is in range
abbrev only_zero : ℕ → Result ℕ LineFault
only_zero n = (if nat_eq n 0 then Ok 0 else Err Range)

-- the number of a wide load: from 0 to 2^64 - 1
abbrev pub wide_number : List ℕ → Result ℕ LineFault
wide_number t = (if starts 45 t then on (numeral 10 (drop 1 t)) only_zero else unsigned t)
