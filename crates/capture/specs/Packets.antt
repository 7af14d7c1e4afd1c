-- The packets of a classic capture file. A record has a header of 16 bytes (seconds, parts of a second,
-- captured bytes, bytes of the packet, 4 each) and the captured bytes.
use Rattle.std.specs.Prelude.{◌≡◌, ℕ, ◌+◌, ◌*◌, ◌<◌, ◌||◌, nat_lt, List, [], ◌∷◌, length, take, drop, Option, Some, None, Result, Ok, Err, if◌then◌else◌}
use Rattle.std.specs.Borrow.{Bor}
use Rattle.capture.specs.declared.fault.LeftOut.{LeftOut}
use Rattle.capture.specs.declared.fault.LeftOut.TheVariants as out
use Rattle.capture.specs.declared.fault.CaptureFault.{CaptureFault}
use Rattle.capture.specs.declared.fault.CaptureFault.TheVariants as fault
use Rattle.capture.specs.declared.form.TimeUnit.{TimeUnit}
use Rattle.capture.specs.declared.form.TimeUnit.TheVariants.{Microsecond, Nanosecond}
use Rattle.capture.specs.declared.form.Link.{Link}
use Rattle.capture.specs.declared.form.Link.TheVariants.{Plain, Radiotap, Other}
use Rattle.capture.specs.declared.form.Form.{Form}
use Rattle.capture.specs.declared.packet.Packet.{Packet}
use Rattle.capture.specs.Fields.{number_at}
use Rattle.capture.specs.Form.{form_of}
use Rattle.capture.specs.Radiotap.{bytes_in, radiotap_frame}

-- a packet: its time in nanoseconds since the start of 1970, if it has one, and its frame, or why it has none
pub record Seen : Type 0 where
  pub time : Option ℕ
  pub frame : Result (List ℕ) LeftOut

-- a packet as contracts see it
abbrev pub seen_of : Packet → Seen
seen_of p = record { time = p.time; frame = bytes_in p.frame }

-- a time in nanoseconds
abbrev pub time_of : TimeUnit → ℕ → ℕ → ℕ
time_of Microsecond seconds part = 1000000000 * seconds + 1000 * part
time_of Nanosecond seconds part = 1000000000 * seconds + part

-- the frame in a record's bytes, by the link type
abbrev pub linked_frame : Link → List ℕ → Result (List ℕ) LeftOut
linked_frame Plain bytes = Ok bytes
linked_frame Radiotap bytes = radiotap_frame bytes
linked_frame (Other number) bytes = Err (out.LinkType number)

-- the frame in captured bytes of a packet of `original` bytes
abbrev pub frame_of : Link → ℕ → List ℕ → Result (List ℕ) LeftOut
frame_of link original bytes =
    (if nat_lt (length bytes) original then Err out.Cut else linked_frame link bytes)

-- how many bytes of the first record's packet were captured
abbrev pub captured : Form → List ℕ → ℕ
captured form bytes = number_at form.endian 4 8 bytes

-- the packet of the first record
abbrev pub packet_of : Form → List ℕ → Seen
packet_of form bytes = record {
  time = Some (time_of form.unit (number_at form.endian 4 0 bytes)
      (number_at form.endian 4 4 bytes));
  frame = frame_of form.link (number_at form.endian 4 12 bytes)
      (take (captured form bytes) (drop 16 bytes));
}

-- the same; None if the record is cut
abbrev pub packet_at : Form → List ℕ → Option Seen
packet_at form bytes =
    (if nat_lt (length bytes) 16 || nat_lt (length (drop 16 bytes)) (captured form bytes) then None
    else Some (packet_of form bytes))

-- what follows the first record
abbrev pub after : Form → List ℕ → List ℕ
after form bytes = drop (captured form bytes) (drop 16 bytes)

-- the first record's packet and what follows it, or that it is cut
abbrev pub First : Form → List ℕ → Option (Packet × Bor (List ℕ)) → Type 0
First form bytes None = packet_at form bytes ≡ None
First form bytes (Some (packet, rest)) =
    (packet_at form bytes ≡ Some (seen_of packet)) × (rest.now ≡ after form bytes)

-- the bytes begin with the records of these packets, and `rest` follows
abbrev pub BeginWith : Form → List ℕ → List Seen → List ℕ → Type 0
BeginWith form bytes [] rest = rest ≡ bytes
BeginWith form bytes (packet ∷ packets) rest =
    (packet_at form bytes ≡ Some packet) × BeginWith form (after form bytes) packets rest

-- after its header a file has the records of these packets, and `rest` follows
pub record HoldsThen (file : List ℕ) (packets : List Seen) (rest : List ℕ) : Type 0 where
  pub form : Form
  pub header : form_of file ≡ Ok form
  pub records : BeginWith form (drop 24 file) packets rest
  pub cut : 0 < length rest → packet_at form rest ≡ None

-- the packets of a file of records
abbrev pub HoldsRecords : List ℕ → List Seen → Type 0
HoldsRecords file packets = HoldsThen file packets []

-- a file whose record after `count` packets is cut
pub record IsCutAfter (file : List ℕ) (count : ℕ) : Type 0 where
  pub packets : List Seen
  pub rest : List ℕ
  pub many : length packets ≡ count
  pub some : 0 < length rest
  pub records : HoldsThen file packets rest

-- what a fault says of a file of records
abbrev pub RefusesRecord : List ℕ → CaptureFault → Type 0
RefusesRecord file (fault.CutRecord count) = IsCutAfter file count
RefusesRecord file f = form_of file ≡ Err f
