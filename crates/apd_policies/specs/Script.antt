-- A capture as a script: `frame HEX` for each frame, `tick N` for the time that passes before it in units of 1024
-- microseconds, and a comment for each packet that is left out; `wait` after each 1000th packet, so that a run
-- prints its reports and keeps no more. If an access point is named, frames that aren't for it are left out, and counted
-- in a comment at the end.
use Rattle.std.specs.Prelude.{ℕ, ◌+◌, ◌-◌, ◌/◌, ◌%◌, ◌==◌, ◌&&◌, Bool, true, false, nat_lt, min, max, List, [], ◌∷◌, ◌++◌, length, codes, decimal, Option, Some, None, Result, Ok, Err, if◌then◌else◌}
use Rattle.hex.specs.Hex.{encode_lower}
use Rattle.capture.specs.declared.fault.LeftOut.{LeftOut}
use Rattle.capture.specs.declared.fault.LeftOut.TheVariants.{Cut, Radiotap, CheckSequence, WrongCheckSequence, LinkType}
use Rattle.capture.specs.Packets.{Seen}
use Rattle.apd_policies.specs.Chosen.{is_kept, others}

-- why a packet has no frame, in words
abbrev pub reason_of : LeftOut → List ℕ
reason_of Cut = codes "it was cut when it was captured"
reason_of Radiotap = codes "its radiotap header is damaged"
reason_of CheckSequence = codes "its frame check sequence is cut"
reason_of WrongCheckSequence = codes "its frame check sequence is wrong"
reason_of (LinkType number) = codes "its link type is neither 105 (802.11) nor 127 (802.11 with radiotap)"

-- packets are counted from 1; a line ends with a line feed (10)
abbrev pub left_out_line : ℕ → List ℕ → List ℕ
left_out_line number reason =
    codes "# packet " ++ (decimal number ++ (codes " is left out: " ++ (reason ++ 10 ∷ [])))

-- `frame HEX`
abbrev pub frame_line : List ℕ → List ℕ
frame_line frame = codes "frame " ++ (encode_lower frame ++ 10 ∷ [])

-- frames in a script have 1 to 2400 bytes
abbrev pub frame_lines : ℕ → List ℕ → List ℕ
frame_lines number frame =
    (if length frame == 0 then left_out_line number (codes "it has no bytes") else
    (if nat_lt 2400 (length frame)
    then left_out_line number (codes "it has more than 2400 bytes") else frame_line frame))

-- the frame of a packet, or why it is left out
abbrev pub packet_lines : ℕ → Result (List ℕ) LeftOut → List ℕ
packet_lines number (Ok frame) = frame_lines number frame
packet_lines number (Err left_out) = left_out_line number (reason_of left_out)

-- `tick N`
abbrev pub tick_line : ℕ → List ℕ
tick_line units = codes "tick " ++ (decimal units ++ 10 ∷ [])

-- the time from a unit to a later one, at most 2^32 - 1 units, the most that a line can say
abbrev pub time_lines : Bool → ℕ → ℕ → List ℕ
time_lines ticks clock now =
    (if ticks && nat_lt clock now then tick_line (min (now - clock) 4294967295) else [])

-- `wait`, after each 1000th packet
abbrev pub wait_lines : ℕ → List ℕ
wait_lines number = (if number % 1000 == 0 then codes "wait" ++ 10 ∷ [] else [])

-- the unit after the start in which a time in nanoseconds lies; 0 if it is earlier or unknown, so that no time
-- passes before the packet
abbrev pub unit_of : ℕ → Option ℕ → ℕ
unit_of start None = 0
unit_of start (Some time) = (time - start) / 1024000

-- a packet that comes at a unit after another, if it is kept
abbrev pub kept_lines : Bool → Bool → ℕ → ℕ → ℕ → Result (List ℕ) LeftOut → List ℕ
kept_lines true ticks number clock now frame = time_lines ticks clock now ++ packet_lines number frame
kept_lines false ticks number clock now frame = []

-- the latest unit after that
abbrev pub clock_after : Bool → ℕ → ℕ → ℕ
clock_after kept clock now = (if kept then max clock now else clock)

-- the packets from this number on; `clock` is the latest unit so far
abbrev pub lines_from : Bool → Option (List ℕ) → ℕ → ℕ → ℕ → List Seen → List ℕ
lines_from ticks bssid start number clock [] = []
lines_from ticks bssid start number clock (packet ∷ packets) =
    kept_lines (is_kept bssid packet.frame) ticks number clock (unit_of start packet.time) packet.frame ++ (wait_lines number
    ++ lines_from ticks bssid start (number + 1) (clock_after (is_kept bssid packet.frame) clock (unit_of start packet.time)) packets)

-- how many packets aren't kept, if there are any
abbrev pub others_line : ℕ → List ℕ
others_line count =
    (if count == 0 then [] else codes "# "
    ++ (decimal count ++ (codes " frames that aren't for the access point are left out" ++ 10 ∷ [])))

-- a packet's time, or the first one after it
abbrev pub time_or : Option ℕ → ℕ → ℕ
time_or None later = later
time_or (Some time) later = time

-- the first known time; 0 if there is none
abbrev pub start_of : List Seen → ℕ
start_of [] = 0
start_of (packet ∷ packets) = time_or packet.time (start_of packets)

-- the whole capture, with times or without, for an access point or with all frames; the first known time is the start
abbrev pub script_of : Bool → Option (List ℕ) → List Seen → List ℕ
script_of ticks bssid packets =
    lines_from ticks bssid (start_of packets) 1 0 packets ++ others_line (others bssid packets)

-- what is left of a script: its bytes, and how many packets they are of
pub record Rest : Type 0 where
  pub bytes : List ℕ
  pub packets : ℕ

-- the lines of the packets from this number on, and the last comment, which counts those that aren't kept
abbrev pub rest_from : Bool → Option (List ℕ) → ℕ → ℕ → ℕ → List Seen → ℕ → Rest
rest_from ticks bssid start number clock packets others = record {
  bytes = lines_from ticks bssid start number clock packets ++ others_line others;
  packets = length packets;
}
