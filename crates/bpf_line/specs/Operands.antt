-- The operands of a line: registers, immediates and memory.
use Rattle.std.specs.Prelude.{ℕ, ◌-◌, List, length, take, drop, nat_eq, nat_le, ◌&&◌, if◌then◌else◌, Result, Ok, Err, ℤ, bytes_eq, codes, slice_index}
use Rattle.bpf_line.specs.declared.fault.LineFault.{LineFault}
use Rattle.bpf_line.specs.declared.fault.LineFault.TheVariants.{Grammar, Range}
use Rattle.bpf_insn.specs.declared.insn.Source.{Source}
use Rattle.bpf_insn.specs.declared.insn.Source.TheVariants as source
use Rattle.bpf_line.specs.Numbers.{starts, imm, offset}

-- two parts of a line; a part that isn't in the grammar takes precedence over a number out of range
abbrev pub both :
    {A B : Type 0} → Result A LineFault → Result B LineFault → Result (A × B) LineFault
both (Ok a) (Ok b) = Ok (a, b)
both (Ok a) (Err fault) = Err fault
both (Err Grammar) b = Err Grammar
both (Err Range) (Ok b) = Err Range
both (Err Range) (Err fault) = Err fault

-- r0 to r10
abbrev pub register : List ℕ → Result ℕ LineFault
register t =
    (if bytes_eq t (codes "r0") then Ok 0
    else (if bytes_eq t (codes "r1") then Ok 1
    else (if bytes_eq t (codes "r2") then Ok 2
    else (if bytes_eq t (codes "r3") then Ok 3
    else (if bytes_eq t (codes "r4") then Ok 4
    else (if bytes_eq t (codes "r5") then Ok 5
    else (if bytes_eq t (codes "r6") then Ok 6
    else (if bytes_eq t (codes "r7") then Ok 7
    else (if bytes_eq t (codes "r8") then Ok 8
    else (if bytes_eq t (codes "r9") then Ok 9
    else (if bytes_eq t (codes "r10") then Ok 10
    else Err Grammar)))))))))))

-- a register as an operand
abbrev as_register : Result ℕ LineFault → Result Source LineFault
as_register (Ok r) = Ok (source.Reg r)
as_register (Err fault) = Err fault

-- a number as an operand
abbrev as_imm : Result ℤ LineFault → Result Source LineFault
as_imm (Ok n) = Ok (source.Imm n)
as_imm (Err fault) = Err fault

-- a register or an immediate
abbrev pub source_of : List ℕ → Result Source LineFault
source_of t = (if starts 114 t then as_register (register t) else as_imm (imm t))

-- the text in brackets: a register, and an offset with its sign
abbrev pub place : List ℕ → Result (ℕ × ℤ) LineFault
place t =
    (if bytes_eq (take 3 t) (codes "r10") then both (Ok 10) (offset (drop 3 t))
    else both (register (take 2 t)) (offset (drop 2 t)))

-- memory: `[r1+24]`
abbrev pub memory : List ℕ → Result (ℕ × ℤ) LineFault
memory t =
    (if nat_le 2 (length t)
    && (nat_eq (slice_index t 0) 91 && nat_eq (slice_index t (length t - 1)) 93)
    then place (take (length t - 1 - 1) (drop 1 t))
    else Err Grammar)
