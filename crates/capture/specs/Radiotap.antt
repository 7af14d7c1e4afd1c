-- A radiotap header (radiotap.org): version 1 byte, 0; 1 byte unused; length 2; words of present fields 4 each, of
-- which bit 31 says whether another follows; then the fields. All numbers are little-endian.
use Rattle.std.specs.Prelude.{ℕ, ◌+◌, ◌-◌, ◌*◌, ◌/◌, ◌%◌, ◌==◌, ◌||◌, not, nat_lt, Bool, List, ◌∷◌, length, take, drop, slice_get, slice_index, Option, Some, None, option_map, option_and_then, Result, Ok, Err, if◌then◌else◌}
use Rattle.std.specs.Borrow.{Bor}
use Rattle.capture.specs.declared.fault.LeftOut.{LeftOut}
use Rattle.capture.specs.declared.fault.LeftOut.TheVariants as out
use Rattle.capture.specs.declared.fields.Endian.TheVariants.{Little}
use Rattle.capture.specs.Fields.{number_at}

-- a frame by its bytes
abbrev pub bytes_in : Result (Bor (List ℕ)) LeftOut → Result (List ℕ) LeftOut
bytes_in (Ok frame) = Ok frame.now
bytes_in (Err reason) = Err reason

-- how many bytes the words of present fields have; None if the last one is cut
abbrev pub words_len : List ℕ → Option ℕ
words_len (a ∷ b ∷ c ∷ d ∷ rest) =
    (if nat_lt d 128 then Some 4 else option_map (λ more. 4 + more) (words_len rest))
words_len _ = None

-- the index of the flags: after the present words, or after the time of 8 bytes at a multiple of 8
abbrev pub flags_place : Bool → ℕ → ℕ
flags_place has_time start = (if has_time then (start + 7) / 8 * 8 + 8 else start)

-- bit 0 of the present fields means the time, bit 1 the flags
abbrev pub flags_after : List ℕ → ℕ → Option ℕ
flags_after header words =
    (if slice_index header 4 / 2 % 2 == 0 then Some 0
    else slice_get header (flags_place (slice_index header 4 % 2 == 1) (4 + words)))

-- the flags of a header, 0 if it has none; None if they are cut
abbrev pub flags_of : List ℕ → Option ℕ
flags_of header = option_and_then (flags_after header) (words_len (drop 4 header))

-- a frame without its frame check sequence of 4 bytes, which it has if bit 4 of the flags is set; bit 6 says that the
-- sequence is wrong
abbrev pub without_check : ℕ → List ℕ → Result (List ℕ) LeftOut
without_check flags frame =
    (if flags / 64 % 2 == 1 then Err out.WrongCheckSequence else
    (if flags / 16 % 2 == 0 then Ok frame else
    (if nat_lt (length frame) 4 then Err out.CheckSequence else Ok (take (length frame - 4) frame))))

-- the frame after a header with these flags; a header whose flags are cut is damaged
abbrev pub with_flags : Option ℕ → List ℕ → Result (List ℕ) LeftOut
with_flags None frame = Err out.Radiotap
with_flags (Some flags) frame = without_check flags frame

-- a header of `count` bytes, and the frame after it
abbrev pub behind : ℕ → List ℕ → Result (List ℕ) LeftOut
behind count packet =
    (if nat_lt count 8 || nat_lt (length packet) count then Err out.Radiotap
    else with_flags (flags_of (take count packet)) (drop count packet))

-- the frame after a radiotap header
abbrev pub radiotap_frame : List ℕ → Result (List ℕ) LeftOut
radiotap_frame packet =
    (if nat_lt (length packet) 8 || not (slice_index packet 0 == 0) then Err out.Radiotap
    else behind (number_at Little 2 2 packet) packet)
