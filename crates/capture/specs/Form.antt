-- The header of a classic capture file, 24 bytes: magic number 4, major and minor version 2 each,
-- time zone 4, accuracy of times 4, longest packet 4, link type 4.
use Rattle.std.specs.Prelude.{ℕ, ◌==◌, ◌&&◌, Bool, nat_lt, List, [], ◌∷◌, length, take, Option, Some, None, Result, Ok, Err, if◌then◌else◌}
use Rattle.std.specs.Str.{bytes_eq}
use Rattle.capture.specs.declared.fault.CaptureFault.{CaptureFault}
use Rattle.capture.specs.declared.fault.CaptureFault.TheVariants.{NoCapture, CutHeader, Version, LinkType}
use Rattle.capture.specs.declared.fields.Endian.{Endian}
use Rattle.capture.specs.declared.fields.Endian.TheVariants.{Little, Big}
use Rattle.capture.specs.declared.form.TimeUnit.{TimeUnit}
use Rattle.capture.specs.declared.form.TimeUnit.TheVariants.{Microsecond, Nanosecond}
use Rattle.capture.specs.declared.form.Link.{Link}
use Rattle.capture.specs.declared.form.Link.TheVariants.{Plain, Radiotap, Other}
use Rattle.capture.specs.declared.form.Form.{Form}
use Rattle.capture.specs.Fields.{number_at}

-- whether a file begins with these four bytes
abbrev pub begins : List ℕ → List ℕ → Bool
begins bytes file = bytes_eq (take 4 file) bytes

-- the magic number: 0xa1b2c3d4 for microseconds, 0xa1b23c4d for nanoseconds, in either byte order
abbrev pub magic_of : List ℕ → Option (Endian × TimeUnit)
magic_of file =
    (if begins (0xd4 ∷ 0xc3 ∷ 0xb2 ∷ 0xa1 ∷ []) file then Some (Little, Microsecond) else
    (if begins (0xa1 ∷ 0xb2 ∷ 0xc3 ∷ 0xd4 ∷ []) file then Some (Big, Microsecond) else
    (if begins (0x4d ∷ 0x3c ∷ 0xb2 ∷ 0xa1 ∷ []) file then Some (Little, Nanosecond) else
    (if begins (0xa1 ∷ 0xb2 ∷ 0x3c ∷ 0x4d ∷ []) file then Some (Big, Nanosecond) else None))))

-- 105 is IEEE 802.11, 127 the same after a radiotap header
abbrev pub link_of : ℕ → Result Link CaptureFault
link_of number =
    (if number == 105 then Ok Plain else
    (if number == 127 then Ok Radiotap else Err (LinkType number)))

-- the same of an interface, which may have another link type
abbrev pub any_link : ℕ → Link
any_link number = (if number == 105 then Plain else (if number == 127 then Radiotap else Other number))

-- a fault of the header
abbrev pub IsOfHeader : CaptureFault → Type 0
IsOfHeader NoCapture = Unit {0}
IsOfHeader CutHeader = Unit {0}
IsOfHeader (Version major minor) = Unit {0}
IsOfHeader (LinkType number) = Unit {0}
IsOfHeader _ = ⊥

-- the header's form, unless its link type is unknown
abbrev pub with_link : Endian → TimeUnit → Result Link CaptureFault → Result Form CaptureFault
with_link endian unit (Ok link) = Ok (record { endian = endian; unit = unit; link = link })
with_link endian unit (Err fault) = Err fault

-- version 2.4
abbrev pub is_known : ℕ → ℕ → Bool
is_known major minor = major == 2 && minor == 4

-- the form, by the version and the link type
abbrev pub versioned : List ℕ → Endian → TimeUnit → Result Form CaptureFault
versioned file endian unit =
    (if is_known (number_at endian 2 4 file) (number_at endian 2 6 file)
    then with_link endian unit (link_of (number_at endian 4 20 file))
    else Err (Version (number_at endian 2 4 file) (number_at endian 2 6 file)))

-- the form, by the magic number; a file without a known one isn't a capture
abbrev pub with_magic : List ℕ → Option (Endian × TimeUnit) → Result Form CaptureFault
with_magic file None = Err NoCapture
with_magic file (Some magic) =
    (if nat_lt (length file) 24 then Err CutHeader else versioned file magic.0 magic.1)

-- what the header of a file says, or its first fault
abbrev pub form_of : List ℕ → Result Form CaptureFault
form_of file = with_magic file (magic_of file)
