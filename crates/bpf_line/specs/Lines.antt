-- The instructions that words spell. A comma is a word of its own.
use Rattle.std.specs.Prelude.{ℕ, ◌-◌, List, [], ◌∷◌, length, take, drop, Bool, true, false, not, ◌&&◌, if◌then◌else◌, Option, Some, None, Result, Ok, Err, bytes_eq, codes}
use Rattle.std.specs.Int.{w32, cast_unsigned}
use Rattle.bpf_line.specs.declared.fault.LineFault.{LineFault}
use Rattle.bpf_line.specs.declared.fault.LineFault.TheVariants.{Grammar}
use Rattle.bpf_insn.specs.declared.insn.AluOp.{AluOp}
use Rattle.bpf_insn.specs.declared.insn.Compare.{Compare}
use Rattle.bpf_insn.specs.declared.insn.AtomicOp.{AtomicOp}
use Rattle.bpf_insn.specs.declared.insn.Extension.{Extension}
use Rattle.bpf_insn.specs.declared.insn.Size.{Size}
use Rattle.bpf_insn.specs.declared.insn.OrderWidth.{OrderWidth}
use Rattle.bpf_insn.specs.declared.insn.ByteOrder.{ByteOrder}
use Rattle.bpf_insn.specs.declared.insn.Source.TheVariants as source
use Rattle.bpf_insn.specs.declared.insn.Wide.TheVariants as wide
use Rattle.bpf_insn.specs.declared.insn.Insn.{Insn}
use Rattle.bpf_insn.specs.declared.insn.Insn.TheVariants as insn
use Rattle.bpf_line.specs.Words.{words}
use Rattle.bpf_line.specs.Numbers.{on, imm, offset, long_offset, wide_number}
use Rattle.bpf_line.specs.Names.{alu_named, compare_named, atomic_named, extension_named, order_named, load_named, store_named, store_register_named}
use Rattle.bpf_line.specs.Operands.{both, register, source_of, memory}

-- the instruction that words spell, or their fault
abbrev pub Said : Type 0
Said = Result Insn LineFault

-- the name has the suffix 32, for 32 bits
abbrev pub is_narrow : List ℕ → Bool
is_narrow t = bytes_eq (drop (length t - 2) t) (codes "32")

-- a name without the suffix 32
abbrev pub base_of : List ℕ → List ℕ
base_of t = (if is_narrow t then take (length t - 2) t else t)

-- `add r0, r1`, `mov32 r0, 5`
abbrev pub alu_said : AluOp → Bool → List ℕ → List ℕ → Said
alu_said op wide a b = on (both (register a) (source_of b)) (λ x. Ok (insn.Alu op wide x.0 x.1))

-- `movsx8 r0, r1`
abbrev pub extension_said : Extension × Bool → List ℕ → List ℕ → Said
extension_said e a b = on (both (register a) (register b)) (λ x. Ok (insn.MovSx e.0 e.1 x.0 x.1))

-- `ldxb r0, [r1+24]`
abbrev pub load_said : Size × Bool → List ℕ → List ℕ → Said
load_said l a b = on (both (register a) (memory b)) (λ x. Ok (insn.Load l.0 l.1 x.0 x.1.0 x.1.1))

-- `stb [r1-8], 5`
abbrev pub store_said : Size → List ℕ → List ℕ → Said
store_said size a b =
    on (both (memory a) (imm b)) (λ x. Ok (insn.Store size x.0.0 x.0.1 (source.Imm x.1)))

-- `stxb [r1-8], r2`
abbrev pub store_register_said : Size → List ℕ → List ℕ → Said
store_register_said size a b =
    on (both (memory a) (register b)) (λ x. Ok (insn.Store size x.0.0 x.0.1 (source.Reg x.1)))

-- `atomic_add [r1+0], r2`
abbrev pub atomic_said : AtomicOp → Bool → List ℕ → List ℕ → Said
atomic_said op wide a b =
    on (both (memory a) (register b)) (λ x. Ok (insn.Atomic op wide x.0.0 x.1 x.0.1))

-- `lddw r0, 7`
abbrev pub wide_said : List ℕ → List ℕ → Said
wide_said a b =
    on (both (register a) (wide_number b)) (λ x. Ok (insn.LoadWide x.0 (wide.Number x.1)))

-- arithmetic and atomics, with or without the suffix 32
abbrev pub suffixed : Option AluOp → Option AtomicOp → Bool → List ℕ → List ℕ → Said
suffixed (Some op) atomic wide a b = alu_said op wide a b
suffixed None (Some op) wide a b = atomic_said op wide a b
suffixed None None wide a b = Err Grammar

-- stores of an immediate or a register, or else arithmetic and atomics
abbrev pub stored : Option Size → Option Size → List ℕ → List ℕ → List ℕ → Said
stored (Some size) register name a b = store_said size a b
stored None (Some size) name a b = store_register_said size a b
stored None None name a b =
    suffixed (alu_named (base_of name)) (atomic_named (base_of name)) (not (is_narrow name)) a b

-- moves with sign extension, loads, or else the other operations on two operands
abbrev pub loaded :
    Option (Extension × Bool) → Option (Size × Bool) → List ℕ → List ℕ → List ℕ → Said
loaded (Some e) load name a b = extension_said e a b
loaded None (Some l) name a b = load_said l a b
loaded None None name a b = stored (store_named name) (store_register_named name) name a b

-- a name and two operands
abbrev pub two_said : List ℕ → List ℕ → List ℕ → Said
two_said name a b =
    (if bytes_eq name (codes "lddw") then wide_said a b
    else loaded (extension_named name) (load_named name) name a b)

-- `jeq r0, r1, +2`, `jeq32 r0, 5, -1`
abbrev pub branch_said : Option Compare → Bool → List ℕ → List ℕ → List ℕ → Said
branch_said None wide a b c = Err Grammar
branch_said (Some compare) wide a b c =
    on (both (both (register a) (source_of b)) (offset c))
    (λ x. Ok (insn.Branch compare wide x.0.0 x.0.1 x.1))

-- `le16 r0`, `neg r0`
abbrev pub order_said : Option (ByteOrder × OrderWidth) → List ℕ → Said
order_said None a = Err Grammar
order_said (Some o) a = on (register a) (λ r. Ok (insn.End o.0 o.1 r))

-- `neg r0`, `neg32 r0`
abbrev pub neg_said : Bool → List ℕ → Said
neg_said wide a = on (register a) (λ r. Ok (insn.Neg wide r))

-- a name and one operand: `ja +2`, `ja32 +2`, `call 1`
abbrev pub one_said : List ℕ → List ℕ → Said
one_said name a =
    (if bytes_eq name (codes "ja") then on (offset a) (λ x. Ok (insn.Jump x))
    else (if bytes_eq name (codes "ja32") then on (long_offset a) (λ x. Ok (insn.JumpLong x))
    else (if bytes_eq name (codes "call") then on (imm a) (λ x. Ok (insn.Call x))
    else (if bytes_eq name (codes "neg") then neg_said true a
    else (if bytes_eq name (codes "neg32") then neg_said false a
    else order_said (order_named name) a)))))

-- `call local +2`
abbrev pub local_said : List ℕ → Said
local_said a = on (long_offset a) (λ x. Ok (insn.CallLocal x))

-- `lddw r1, map 0`
abbrev pub map_said : List ℕ → List ℕ → Said
map_said a m =
    on (both (register a) (imm m)) (λ x. Ok (insn.LoadWide x.0 (wide.Map (cast_unsigned w32 x.1))))

-- `lddw r1, value 0 8`
abbrev pub value_said : List ℕ → List ℕ → List ℕ → Said
value_said a m o =
    on (both (both (register a) (imm m)) (imm o))
    (λ x. Ok
    (insn.LoadWide x.0.0 (wide.MapValue (cast_unsigned w32 x.0.1) (cast_unsigned w32 x.1))))

-- the word is a comma
abbrev pub is_comma : List ℕ → Bool
is_comma t = bytes_eq t (codes ",")

-- `lddw r1, map ..` or `lddw r1, value ..`
abbrev pub is_load_of : List ℕ → List ℕ → List ℕ → List ℕ → Bool
is_load_of name kind comma what =
    bytes_eq name (codes "lddw") && (is_comma comma && bytes_eq what kind)

-- the instruction that the words of a line spell
abbrev pub said : List (List ℕ) → Said
said [] = Err Grammar
said (a ∷ []) = (if bytes_eq a (codes "exit") then Ok insn.Exit else Err Grammar)
said (a ∷ b ∷ []) = one_said a b
said (a ∷ b ∷ c ∷ []) =
    (if bytes_eq a (codes "call") && bytes_eq b (codes "local") then local_said c else Err Grammar)
said (a ∷ b ∷ c ∷ d ∷ []) = (if is_comma c then two_said a b d else Err Grammar)
said (a ∷ b ∷ c ∷ d ∷ e ∷ []) =
    (if is_load_of a (codes "map") c d then map_said b e else Err Grammar)
said (a ∷ b ∷ c ∷ d ∷ e ∷ f ∷ []) =
    (if is_load_of a (codes "value") c d then value_said b e f else
    (if is_comma c && is_comma e
    then branch_said (compare_named (base_of a)) (not (is_narrow a)) b d f else Err Grammar))
said (a ∷ b ∷ c ∷ d ∷ e ∷ f ∷ g ∷ more) = Err Grammar

-- an instruction, or the same fault
abbrev as_some : Said → Result (Option Insn) LineFault
as_some (Ok insn) = Ok (Some insn)
as_some (Err fault) = Err fault

-- nothing if there are no words, else what they spell
abbrev pub said_or_blank : List (List ℕ) → Result (Option Insn) LineFault
said_or_blank [] = Ok None
said_or_blank (w ∷ ws) = as_some (said (w ∷ ws))

-- what a line says: nothing if it has no words
abbrev pub line_said : List ℕ → Result (Option Insn) LineFault
line_said line = said_or_blank (words line)
