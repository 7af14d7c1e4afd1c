-- What a section says of an interface (draft-ietf-opsawg-pcapng, 4.2): link type 2, unused 2, most bytes captured of a
-- packet 4; then options (3.5), each of a code 2, a length 2, and a value, padded to a multiple of 4 bytes.
use Rattle.std.specs.Prelude.{ℕ, zero, suc, ◌+◌, ◌-◌, ◌*◌, ◌/◌, ◌^◌, ◌==◌, ◌||◌, nat_lt, List, length, drop, slice_index, Option, Some, None, Result, Ok, Err, if◌then◌else◌}
use Rattle.std.specs.Int.NonZero.{non_zero_u64_get}
use Rattle.capture.specs.declared.fault.CaptureFault.{CaptureFault}
use Rattle.capture.specs.declared.fault.CaptureFault.TheVariants.{Resolution, BadBlock}
use Rattle.capture.specs.declared.fields.Endian.{Endian}
use Rattle.capture.specs.declared.form.Link.{Link}
use Rattle.capture.specs.declared.interface.Interface.{Interface}
use Rattle.capture.specs.Fields.{number_at}
use Rattle.capture.specs.Form.{any_link}
use Rattle.capture.specs.Blocks.{Framed}

-- an interface: its link type, how many units of time a second has, and the most bytes captured of a packet, 0 for all
pub record Described : Type 0 where
  pub link : Link
  pub units : ℕ
  pub most : ℕ

-- an interface as contracts see it
abbrev pub described_of : Interface → Described
described_of i = record { link = i.link; units = non_zero_u64_get i.units; most = i.most }

-- the same for a result
abbrev pub described_in : Result Interface CaptureFault → Result Described CaptureFault
described_in (Ok interface) = Ok (described_of interface)
described_in (Err fault) = Err fault

-- the length of a value with its padding
abbrev pub padded : ℕ → ℕ
padded count = (count + 3) / 4 * 4

-- the time resolution that at most n options give: code 9 with one byte, or 6 without it. The options end with code 0,
-- or with the block. None if a value is cut, or the resolution isn't one byte.
unfoldable pub resolution_in : ℕ → Endian → List ℕ → Option ℕ
resolution_in zero endian options = Some 6
resolution_in (suc n) endian options =
    (if nat_lt (length options) 4 || number_at endian 2 0 options == 0 then Some 6 else
    (if nat_lt (length (drop 4 options)) (padded (number_at endian 2 2 options)) then None else
    (if number_at endian 2 0 options == 9 then
    (if number_at endian 2 2 options == 1 then Some (slice_index options 4) else None) else
    resolution_in n endian (drop (padded (number_at endian 2 2 options)) (drop 4 options)))))

-- how many units of time a second has: a power of 10, or of 2 if the highest bit is set
abbrev pub units_of : ℕ → ℕ
units_of resolution =
    (if nat_lt resolution 128 then 10 ^ resolution else 2 ^ (resolution - 128))

-- the same, if 64 bits can count them
abbrev pub counted_units : ℕ → Option ℕ
counted_units resolution =
    (if nat_lt (units_of resolution) (2 ^ 64) then Some (units_of resolution) else None)

-- an interface with this resolution
abbrev pub with_units : ℕ → Link → ℕ → Option ℕ → Result Described CaptureFault
with_units most link resolution None = Err (Resolution resolution)
with_units most link resolution (Some units) =
    Ok (record { link = link; units = units; most = most })

-- an interface with this link type, by its options
abbrev pub with_options : ℕ → Framed → Link → Option ℕ → Result Described CaptureFault
with_options place b link None = Err (BadBlock place)
with_options place b link (Some resolution) =
    with_units (number_at b.endian 4 4 b.body) link resolution (counted_units resolution)

-- the interface that a block at this position in the file describes
abbrev pub interface_of : ℕ → Framed → Result Described CaptureFault
interface_of place b =
    (if nat_lt (length b.body) 8 then Err (BadBlock place)
    else with_options place b (any_link (number_at b.endian 2 0 b.body))
    (resolution_in (length (drop 8 b.body)) b.endian (drop 8 b.body)))
