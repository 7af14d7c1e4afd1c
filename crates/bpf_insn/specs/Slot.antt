-- A slot: eight bytes that hold an opcode, two registers, an offset and an immediate, lowest byte first (RFC 9669
-- section 3.1, on a little-endian host).
use Rattle.std.specs.Prelude.{ℕ, ◌+◌, ◌*◌, ◌/◌, ◌%◌, ◌<◌, List, ◌∷◌, ◌++◌, slice_index, FitsSigned, Option, Some, None}
use Rattle.std.specs.Int.{w16, w32, cast_signed, cast_unsigned}
use Rattle.byteorder.specs.Endian.{little_from, little_bytes}
use Rattle.bpf_insn.specs.declared.fields.Fields.{Fields}

-- the bytes of a slot: the second byte holds the destination register in its low four bits, the source register in the
-- high four
unfoldable pub slot_of : Fields → List ℕ
slot_of f =
    f.opcode ∷ (f.dst + 16 * f.src)
    ∷ (little_bytes 2 (cast_unsigned w16 f.offset) ++ little_bytes 4 (cast_unsigned w32 f.imm))

-- the fields fit their widths
pub record FitsSlot (f : Fields) : Type 0 where
  pub opcode : f.opcode < 256
  pub dst : f.dst < 16
  pub src : f.src < 16
  pub offset : FitsSigned w16 f.offset
  pub imm : FitsSigned w32 f.imm

-- the fields of a slot's bytes
unfoldable pub fields_at : List ℕ → Fields
fields_at s =
    record {
      opcode = slice_index s 0;
      dst = slice_index s 1 % 16;
      src = slice_index s 1 / 16;
      offset = cast_signed w16 (little_from 2 2 s);
      imm = cast_signed w32 (little_from 4 4 s);
    }

-- the fields of the next slot, if there is one
abbrev pub half_at : Option (List ℕ) → Option Fields
half_at None = None
half_at (Some s) = Some (fields_at s)
