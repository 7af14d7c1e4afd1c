-- Blocks of a pcapng file (draft-ietf-opsawg-pcapng, 3.1): type 4, total length 4, body, and the total length again,
-- 4. Numbers have their section's byte order.
use Rattle.std.specs.Prelude.{ℕ, ◌-◌, ◌%◌, ◌==◌, ◌||◌, nat_lt, Bool, List, [], ◌∷◌, length, take, drop, Option, Some, None, Result, Ok, Err, if◌then◌else◌}
use Rattle.std.specs.Str.{bytes_eq}
use Rattle.capture.specs.declared.fault.CaptureFault.{CaptureFault}
use Rattle.capture.specs.declared.fault.CaptureFault.TheVariants.{CutBlock, BadBlock}
use Rattle.capture.specs.declared.fields.Endian.{Endian}
use Rattle.capture.specs.declared.fields.Endian.TheVariants.{Little, Big}
use Rattle.capture.specs.declared.block.Block.{Block}
use Rattle.capture.specs.Fields.{number_at}

-- a block: its byte order, type and body, and what follows it
pub record Framed : Type 0 where
  pub endian : Endian
  pub kind : ℕ
  pub body : List ℕ
  pub after : List ℕ

-- a block as contracts see it
abbrev pub framed_of : Block → Framed
framed_of b =
    record { endian = b.endian; kind = b.kind; body = b.body.now; after = b.after.now }

-- the same for a result
abbrev pub framed_in : Result Block CaptureFault → Result Framed CaptureFault
framed_in (Ok block) = Ok (framed_of block)
framed_in (Err fault) = Err fault

-- the type of a section header, the same in either byte order
abbrev pub section : ℕ
section = 0x0a0d0d0a

-- the byte order of a section: the number 0x1a2b3c4d follows the total length in its header
abbrev pub endian_shown : List ℕ → Option Endian
endian_shown block =
    (if bytes_eq (take 4 (drop 8 block)) (0x1a ∷ 0x2b ∷ 0x3c ∷ 0x4d ∷ []) then Some Big else
    (if bytes_eq (take 4 (drop 8 block)) (0x4d ∷ 0x3c ∷ 0x2b ∷ 0x1a ∷ []) then Some Little
    else None))

-- the byte order of a block; a section header shows its own
abbrev pub endian_of : Endian → List ℕ → Option Endian
endian_of endian block =
    (if number_at endian 4 0 block == section then endian_shown block else Some endian)

-- the total length
abbrev pub total : Endian → List ℕ → ℕ
total endian block = number_at endian 4 4 block

-- whether a total length is less than the type and both lengths take, or isn't a multiple of 4
abbrev pub is_odd : ℕ → Bool
is_odd count = nat_lt count 12 || nat_lt 0 (count % 4)

-- the first of the bytes' blocks, once its lengths are known to fit
abbrev pub framed : Endian → List ℕ → Framed
framed endian bytes = record {
  endian = endian;
  kind = number_at endian 4 0 bytes;
  body = take (total endian bytes - 12) (drop 8 bytes);
  after = drop (total endian bytes) bytes;
}

-- the same, if the total length is repeated at its end
abbrev pub closed : ℕ → Endian → List ℕ → Result Framed CaptureFault
closed place endian bytes =
    (if number_at endian 4 (total endian bytes - 4) bytes == total endian bytes
    then Ok (framed endian bytes) else Err (BadBlock place))

-- the same, if it is whole
abbrev pub whole : ℕ → Endian → List ℕ → Result Framed CaptureFault
whole place endian bytes =
    (if is_odd (total endian bytes) then Err (BadBlock place) else
    (if nat_lt (length bytes) (total endian bytes) then Err (CutBlock place)
    else closed place endian bytes))

-- the same, if its byte order is known
abbrev pub ordered : ℕ → List ℕ → Option Endian → Result Framed CaptureFault
ordered place bytes None = Err (BadBlock place)
ordered place bytes (Some endian) = whole place endian bytes

-- the first of the bytes' blocks or its fault; the bytes are at this position in the file
abbrev pub block_at : ℕ → Endian → List ℕ → Result Framed CaptureFault
block_at place endian bytes =
    (if nat_lt (length bytes) 12 then Err (CutBlock place)
    else ordered place bytes (endian_of endian bytes))
