-- What each operation allows in a slot's fields.
use Rattle.std.specs.Prelude.{◌≡◌, ℤ, pos, ◌≤ℤ◌, ◌⊎◌, Bool, true, false}
use Rattle.bpf_insn.specs.declared.insn.AluOp.{AluOp}
use Rattle.bpf_insn.specs.declared.insn.AluOp.TheVariants as alu
use Rattle.bpf_insn.specs.declared.kind.Kind.{Kind}
use Rattle.bpf_insn.specs.declared.kind.Kind.TheVariants as kind
use Rattle.bpf_insn.specs.declared.kind.Use.{Use}
use Rattle.bpf_insn.specs.declared.kind.Use.TheVariants.{Free, Unused, Register, Sign, NarrowMove, WideMove, Width, Callee, Loaded, Update}
use Rattle.bpf_insn.specs.declared.kind.Uses.{Uses}
use Rattle.bpf_insn.specs.declared.fault.FieldFault.{FieldFault}
use Rattle.bpf_insn.specs.declared.fault.FieldFault.TheVariants.{HighRegister, UnusedSet, Undefined}

-- the values that a use allows
abbrev pub Meets : Use → ℤ → Type 0
Meets Free v = Unit {0}
Meets Unused v = v ≡ pos 0
Meets Register v = v ≤ℤ pos 10
Meets Sign v = (v ≡ pos 0) ⊎ (v ≡ pos 1)
Meets NarrowMove v = (v ≡ pos 0) ⊎ ((v ≡ pos 8) ⊎ (v ≡ pos 16))
Meets WideMove v = (v ≡ pos 0) ⊎ ((v ≡ pos 8) ⊎ ((v ≡ pos 16) ⊎ (v ≡ pos 32)))
Meets Width v = (v ≡ pos 16) ⊎ ((v ≡ pos 32) ⊎ (v ≡ pos 64))
Meets Callee v = (v ≡ pos 0) ⊎ (v ≡ pos 1)
Meets Loaded v = (v ≡ pos 0) ⊎ ((v ≡ pos 5) ⊎ (v ≡ pos 6))
Meets Update v =
    (v ≡ pos 0x00) ⊎ ((v ≡ pos 0x40) ⊎ ((v ≡ pos 0x50) ⊎ ((v ≡ pos 0xa0) ⊎ ((v ≡ pos 0x01) ⊎
    ((v ≡ pos 0x41) ⊎ ((v ≡ pos 0x51) ⊎ ((v ≡ pos 0xa1) ⊎ ((v ≡ pos 0xe1) ⊎ (v ≡ pos 0xf1)))))))))

-- the fault of a value that the use doesn't allow
abbrev pub fault_of : Use → FieldFault
fault_of Unused = UnusedSet
fault_of Register = HighRegister
fault_of _ = Undefined

-- the uses of destination, source, offset and immediate
abbrev uses : Use → Use → Use → Use → Uses
uses d s o i = record { dst = d; src = s; offset = o; imm = i }

-- the offset of an operation with an immediate: the sign of a division, else unused
abbrev pub sign_use : AluOp → Use
sign_use alu.Div = Sign
sign_use alu.Mod = Sign
sign_use _ = Unused

-- the offset of an operation on two registers
abbrev pub register_use : AluOp → Bool → Use
register_use alu.Mov true = WideMove
register_use alu.Mov false = NarrowMove
register_use alu.Div w = Sign
register_use alu.Mod w = Sign
register_use _ w = Unused

-- what each kind uses its fields for
abbrev pub uses_of : Kind → Uses
uses_of (kind.Alu op w false) = uses Register Unused (sign_use op) Free
uses_of (kind.Alu op w true) = uses Register Register (register_use op w) Unused
uses_of (kind.Neg w) = uses Register Unused Unused Unused
uses_of (kind.End o) = uses Register Unused Unused Width
uses_of (kind.Branch c w false) = uses Register Unused Free Free
uses_of (kind.Branch c w true) = uses Register Register Free Unused
uses_of kind.Jump = uses Unused Unused Free Unused
uses_of kind.JumpLong = uses Unused Unused Unused Free
uses_of kind.Call = uses Unused Callee Unused Free
uses_of kind.Exit = uses Unused Unused Unused Unused
uses_of (kind.Load z s) = uses Register Register Free Unused
uses_of (kind.Store z false) = uses Register Unused Free Free
uses_of (kind.Store z true) = uses Register Register Free Unused
uses_of (kind.Atomic w) = uses Register Register Free Update
uses_of kind.LoadWide = uses Register Loaded Unused Free
