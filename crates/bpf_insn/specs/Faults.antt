-- The faults of a slot, as a set.
use Rattle.std.specs.Prelude.{◌≡◌, ◌≢◌, ℕ, ◌≤◌, ◌⊎◌, ℤ, pos, Option, Some, None}
use Rattle.bpf_insn.specs.declared.fields.Fields.{Fields}
use Rattle.bpf_insn.specs.declared.kind.Kind.{Kind}
use Rattle.bpf_insn.specs.declared.kind.Kind.TheVariants as kind
use Rattle.bpf_insn.specs.declared.kind.Use.{Use}
use Rattle.bpf_insn.specs.declared.kind.Uses.{Uses}
use Rattle.bpf_insn.specs.declared.fault.FieldFault.{FieldFault}
use Rattle.bpf_insn.specs.declared.fault.FieldFault.TheVariants.{UnknownOpcode, HighRegister, UnusedSet, Undefined, CutWide}
use Rattle.bpf_insn.specs.Opcodes.{opcode_of, IsKind}
use Rattle.bpf_insn.specs.Uses.{Meets, fault_of, uses_of}

-- the number of a fault
abbrev pub number_of : FieldFault → ℕ
number_of UnknownOpcode = 10
number_of HighRegister = 11
number_of UnusedSet = 12
number_of Undefined = 13
number_of CutWide = 14

-- the field's use doesn't allow its value
abbrev pub Broken : Use → ℤ → FieldFault → Type 0
Broken u v e = (Meets u v → ⊥) × (e ≡ fault_of u)

-- the faults of the four fields other than the opcode, by their uses
abbrev pub InFields : Uses → Fields → FieldFault → Type 0
InFields u f e =
    Broken u.dst (pos f.dst) e
    ⊎ (Broken u.src (pos f.src) e ⊎ (Broken u.offset f.offset e ⊎ Broken u.imm f.imm e))

-- the first four bytes of a second half are zero
pub record IsHalf (f : Fields) : Type 0 where
  pub opcode : f.opcode ≡ 0
  pub dst : f.dst ≡ 0
  pub src : f.src ≡ 0
  pub offset : f.offset ≡ pos 0

-- the faults of the second half of a wide load whose source field is s
abbrev pub InHalf : ℕ → Option Fields → FieldFault → Type 0
InHalf s None e = e ≡ CutWide
InHalf s (Some f) e =
    ((s ≡ 5) × (f.imm ≢ pos 0) × (e ≡ UnusedSet)) ⊎ ((IsHalf f → ⊥) × (e ≡ CutWide))

-- the faults of the second half; only a wide load has one
abbrev pub InSecond : Kind → Fields → Option Fields → FieldFault → Type 0
InSecond kind.LoadWide f second e = InHalf f.src second e
InSecond _ f second e = ⊥

-- e is a fault of the slot with fields f, with the next slot's fields second: no kind of instruction has the opcode, or
-- the kind that has it doesn't allow a field's value or the second half
pub data HasFault (f : Fields) (second : Option Fields) (e : FieldFault) : Type 0 where
  NoKind : ((k : Kind) → IsKind k → opcode_of k ≢ f.opcode) →
      e ≡ UnknownOpcode → HasFault f second e
  WrongField : (k : Kind) → IsKind k → opcode_of k ≡ f.opcode →
      InFields (uses_of k) f e → HasFault f second e
  WrongSecond : (k : Kind) → IsKind k → opcode_of k ≡ f.opcode →
      InSecond k f second e → HasFault f second e

-- e is the fault in P with the lowest number
pub record IsLeast (P : FieldFault → Type 0) (e : FieldFault) : Type 0 where
  pub is_fault : P e
  pub least : (g : FieldFault) → P g → number_of e ≤ number_of g
