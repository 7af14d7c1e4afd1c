-- The capture of a run: a packet for each frame that is received, each that is sent, and all that is passed up.
use Rattle.std.specs.Prelude.{◌≡◌, ◌⊎◌, ℕ, ◌+◌, ◌*◌, ◌-◌, ◌^◌, Bool, true, false, nat_le, min, List, [], ◌∷◌, ◌++◌, take, drop, codes, decimal, Option, Some, None}
use Rattle.std.specs.List.{flat_map, list_any, prefix_len}
use Rattle.std.specs.Io.KnownBytes.{Appends}
use Rattle.capture.specs.declared.new_packet.Side.TheVariants as side
use Rattle.capture.specs.Writing.{Written, blocks_of, heading}
use Rattle.ap_model.specs.declared.event.Out.{Out}
use Rattle.ap_model.specs.declared.event.Out.TheVariants as out
use Rattle.apd_script.specs.Digits.{bytes_of}
use Rattle.apd_script.specs.declared.command.Command.{Command}
use Rattle.apd_script.specs.declared.command.Command.TheVariants as command
use Rattle.apd_script.specs.declared.command.Numbered.{Numbered}
use Rattle.apd_driver.specs.Ethernet.{ethernet_of}
use Rattle.apd_driver.specs.declared.reports.report.Report.{Report}
use Rattle.apd_driver.specs.declared.reports.report.Told.{Told}
use Rattle.apd_driver.specs.declared.reports.report.Told.TheVariants as told

-- the time after a command, in nanoseconds since the start, as far as 64 bits count it: a tick's units have 1024
-- microseconds
abbrev pub time_after : ℕ → Command → ℕ
time_after time (command.Tick units) = min (time + units * 1024000) (2 ^ 64 - 1)
time_after time _ = time

-- the time after commands
abbrev pub time_after_all : ℕ → List Numbered → ℕ
time_after_all time [] = time
time_after_all time (n ∷ commands) = time_after_all (time_after time n.command) commands

-- the comment on a packet: `line N`
abbrev pub line_comment : ℕ → List ℕ
line_comment line = codes "line " ++ decimal line

-- the comment on a frame that is received: `line N`, and `drop` if a verdict dropped its data
abbrev pub received_comment : ℕ → Bool → List ℕ
received_comment line false = line_comment line
received_comment line true = line_comment line ++ codes " drop"

-- the comment on what is passed up: `line N mark M`
abbrev pub up_comment : ℕ → ℕ → List ℕ
up_comment line mark = line_comment line ++ (codes " mark " ++ decimal mark)

-- the packet of a command: a frame that is received
abbrev pub received : ℕ → ℕ → Bool → Command → List Written
received time line dropped (command.Frame text) = record {
  side = side.In;
  time = time;
  bytes = bytes_of text.digits.now;
  comment = received_comment line dropped;
} ∷ []
received time line dropped _ = []

-- the packet of an output: a frame that is sent, or what is passed up
abbrev pub out_packets : ℕ → ℕ → Out → List Written
out_packets time line (out.Send frame) =
    record { side = side.Out; time = time; bytes = frame; comment = line_comment line } ∷ []
out_packets time line (out.Up up) = record {
  side = side.Up;
  time = time;
  bytes = ethernet_of up;
  comment = up_comment line up.mark;
} ∷ []
out_packets time line (out.Note number) = []

-- the packets of a report
abbrev pub told_packets : ℕ → ℕ → Told → List Written
told_packets time line (told.Handled outs dropped) = flat_map (out_packets time line) outs.items
told_packets time line _ = []

-- the same by its line
abbrev pub report_packets : ℕ → Report → List Written
report_packets time r = told_packets time r.line r.told

-- a verdict dropped data
abbrev pub is_dropped : Told → Bool
is_dropped (told.Handled outs (Some dropped)) = true
is_dropped _ = false

-- one of the reports says so
abbrev pub any_dropped : List Report → Bool
any_dropped reports = list_any (λ r. is_dropped r.told) reports

-- the packets of a command and of the reports on its line
abbrev pub line_packets : ℕ → Numbered → List Report → List Written
line_packets time n reports =
    received time n.line (any_dropped reports) n.command ++ flat_map (report_packets time) reports

-- how many of the first reports are on lines up to this one
abbrev pub up_to : ℕ → List Report → ℕ
up_to line reports = prefix_len (λ r. nat_le r.line line) reports

-- the packets of an interval: for each command in order, with the reports up to its line
abbrev pub interval_packets : ℕ → List Numbered → List Report → List Written
interval_packets time [] reports = []
interval_packets time (n ∷ commands) reports =
    line_packets (time_after time n.command) n (take (up_to n.line reports) reports)
    ++ interval_packets (time_after time n.command) commands (drop (up_to n.line reports) reports)

-- what is known of a capture: nothing, or its bytes, as far as they are known, and the time
abbrev pub Recorded : Type 0
Recorded = Option (Option (List ℕ) × ℕ)

-- the same of a capture that is kept or not
abbrev pub recorded_if_any : {C : Type 0} → (C → Recorded) → Option C → Recorded
recorded_if_any recorded None = None
recorded_if_any recorded (Some capture) = recorded capture

-- its bytes are known, if there is one
abbrev pub IsKnown : Recorded → Type 0
IsKnown None = Unit {0}
IsKnown (Some (None, time)) = ⊥
IsKnown (Some (Some bytes, time)) = Unit {0}

-- the same of all captures of a kind
abbrev pub AreKnown : {C : Type 0} → (C → Recorded) → Type 0
AreKnown {C} recorded = (capture : C) → IsKnown (recorded capture)

-- the bytes are what a capture begins with
abbrev pub IsHeading : Option (List ℕ) → Type 0
IsHeading None = ⊥
IsHeading (Some bytes) = bytes ≡ heading

-- a capture begins: its heading is appended to what was there, or is alone in a new file; no time passes
abbrev pub Begins : Recorded → Recorded → Type 0
Begins None new = Unit {0}
Begins (Some old) None = ⊥
Begins (Some old) (Some new) =
    (Appends old.0 new.0 heading ⊎ IsHeading new.0) × (new.1 ≡ old.1)

-- the packets of an interval are appended to the capture, and its time passes
abbrev pub Records : Recorded → Recorded → List Numbered → List Report → Type 0
Records None new commands reports = Unit {0}
Records (Some old) None commands reports = ⊥
Records (Some old) (Some new) commands reports =
    Appends old.0 new.0 (blocks_of (interval_packets old.1 commands reports))
    × (new.1 ≡ time_after_all old.1 commands)
