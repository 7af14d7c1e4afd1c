-- The queries of rows, judged by another program.
use Rattle.std.specs.Prelude.{◌≡◌, ℕ, ◌-◌, List, [], ◌∷◌, Option, Some, None, Result, Ok, Err, slice_get, if◌then◌else◌}
use Rattle.bpf_helpers.specs.Hooked.{Given}
use Rattle.apd_eval.specs.Metered.{Metered}
use Rattle.capture.specs.Packets.{Seen}
use Rattle.capture.specs.declared.fault.LeftOut.{LeftOut}
use Rattle.ap_model.specs.Asks.{Ask}
use Rattle.apd_eval.specs.Follows.{is_received}
use Rattle.apd_eval.specs.Rulings.{IsRuling}
use Rattle.apd_eval.specs.declared.ruling.Ruling.{Ruling}
use Rattle.apd_eval.specs.declared.row.Row.{Row}
use Rattle.apd_eval.specs.declared.tried.Policy.{Policy}
use Rattle.apd_eval.specs.declared.again.Contrast.{Contrast}

-- the bytes of a frame that is received; none of another
abbrev pub received : Result (List ℕ) LeftOut → List ℕ
received (Ok bytes) = (if is_received bytes then bytes else [])
received (Err left_out) = []

-- the same of a packet, if there is one
abbrev pub frame_in : Option Seen → List ℕ
frame_in None = []
frame_in (Some packet) = received packet.frame

-- the frame of the packet with this number, counted from 1
abbrev pub frame_at : List Seen → ℕ → List ℕ
frame_at packets number = frame_in (slice_get packets (number - 1))

-- a query about this frame, with the hook and the context of a row
abbrev pub ask_of : Row → List ℕ → Ask
ask_of row frame = record { hook = row.ruling.hook; frame = frame; context = row.ruling.context }

-- the query of a row: its hook and context, and the packet's frame
abbrev pub query_of : List Seen → Row → Ask
query_of packets row = ask_of row (frame_at packets row.packet)

-- the rulings on such a query
abbrev pub contrast_of : Row → Ruling → Contrast
contrast_of row ruling = record { packet = row.packet; in_force = row.ruling; tried = ruling }

-- what other programs read then: their own maps, and the clock and the stations of the row
abbrev pub read_at : Policy → Row → Given
read_at p row = record { maps = p.maps.now; worker = 0; clock = row.ruling.clock; stations = row.ruling.stations }

-- the rulings of these programs on the queries of rows, one after another, each beside the row's own
abbrev pub JudgesAgain : Policy → List Seen → Metered → List Row → List Contrast → Metered → Type 0
JudgesAgain p packets h [] contrasts h' = (contrasts ≡ []) × (h' ≡ h)
JudgesAgain p packets h (row ∷ rows) contrasts h' =
    (ruling : Ruling) × (held : Metered) × (more : List Contrast)
    × IsRuling (read_at p row) p.programs.now h (query_of packets row) ruling held
    × (contrasts ≡ record { packet = row.packet; in_force = row.ruling; tried = ruling } ∷ more)
    × JudgesAgain p packets held rows more h'

-- these contrasts, from what is held at first to what is held then
pub record AreContrasts (p : Policy) (packets : List Seen) (h : Metered) (rows : List Row) (contrasts : List Contrast) (h' : Metered) : Type 0 where
  pub again : JudgesAgain p packets h rows contrasts h'
