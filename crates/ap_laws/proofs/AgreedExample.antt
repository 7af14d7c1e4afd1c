-- An associated station requests an agreement, which is granted, and sends data under it, which is passed up.
use Rattle.std.proofs.Common.{◌≡◌, ℕ, zero, suc, ◌+◌, ◌<◌, true, false, ◌&&◌, cond, None, Some, IsSome, List, [], ◌∷◌, refl, sym, ap, subst, arith}
use Rattle.std.specs.Prelude.{◌==◌}
use Rattle.std.specs.Int.{bit_at}
use Rattle.std.proofs.lemmas.Nat.Bits.{bit_at-zero}
use Rattle.mac_types.specs.declared.fields.AckPolicy.TheVariants as policies
use Rattle.mac_types.specs.declared.fields.BlockAckParameters.{BlockAckParameters}
use Rattle.mac_types.specs.Fields.{immediate_parameters}
use Rattle.mac_frame.specs.declared.content.Management.TheVariants as management
use Rattle.mac_frame.specs.declared.content.DataKind.TheVariants as kinds
use Rattle.mac_frame.specs.declared.content.Content.TheVariants as content
use Rattle.mac_frame.specs.Frames.{no_flags}
use Rattle.mac_frame.specs.Spelling.{Frame, IsFrame, spelling}
use Rattle.assoc.specs.declared.standing.Known.TheVariants.{Authenticated, Associated}
use Rattle.assoc.specs.Standings.{same_address}
use Rattle.blockack.specs.Window.{Items, opening as opening_window, with_item, IsNextFree}
use Rattle.blockack.specs.Ring.{gathered}
use Rattle.blockack.specs.Scoreboard.{blank, ReadsScoreboard}
use Rattle.blockack.specs.Reading.{Reading, Reads, held_at, IsWanted, DataMovesWindow, DataMarksScoreboard}
use Rattle.blockack.proofs.MoveLaws.{with_other}
use Rattle.blockack.proofs.ReadingLaws.{does_take}
use Rattle.blockack.proofs.ScoreboardLaws.{data_marks, mark_bit}
use Rattle.ap_model.specs.declared.event.Event.TheVariants as event
use Rattle.ap_model.specs.Readings.{Readings, Using, Held}
use Rattle.ap_model.specs.Agreements.{Packet, data_ask, taken, ups, Setup, setup_ask, setup_answer, granted, none_held}
use Rattle.ap_model.specs.Steps.{ours, IsOurs}
use Rattle.ap_model.specs.Runs.{Entry, Handles, rests, goes_on, opening}
use Rattle.ap_laws.specs.InOrder.{SomeIsPassedInOrder}
use Rattle.ap_laws.proofs.Example.{bssid, station, c, known_at, first_entry, second_entry, first_step, second_step}

-- ---- the agreement: of size 8 for TID 0, from number 0 on, without a timeout

abbrev parameters : BlockAckParameters
parameters = immediate_parameters 0 8

abbrev asking_frame : Frame
asking_frame = record { flags = no_flags; duration = 0; receiver = bssid; sender = station; content = content.Management bssid 0 (management.AddbaRequest 7 parameters 0 0); tail = [] }

asking_grammar : IsFrame asking_frame
asking_grammar =
    record { duration = omega arith; receiver = refl; sender = refl; content = (refl, omega arith, ((omega arith, omega arith), omega arith, omega arith, refl)); short = omega arith }

asking_for_us : IsOurs c asking_frame
asking_for_us = record { receiver = refl; bssid = refl; single = refl }

abbrev setup : Setup
setup = record { frame = asking_frame; token = 7; parameters = parameters; timeout = 0; start = 0 }

-- the windows before the data and after it
abbrev empty_window : Reading Held
empty_window = record { start = 0; size = 8; held = []; scoreboard_start = 0; scoreboard_bits = 0 }

abbrev moved_window : Reading Held
moved_window = record { start = 1; size = 8; held = []; scoreboard_start = 0; scoreboard_bits = 1 }

abbrev with_window : Reading Held → Using
with_window v = record { window = v; timeout = 0; last_use = 0 }

abbrev before : Readings
before = known_at (Some (Associated 2))

abbrev agreed : Readings
agreed = record { standing = before.standing; agreement = λ q t. cond (same_address station q && (0 == t)) (Some (with_window empty_window)) None; clock = 0 }

abbrev asking_entry : Entry
asking_entry = record { event = event.Frame (spelling asking_frame); asked = (setup_ask before station setup, 8) ∷ []; outs = setup_answer c station setup 0 8 ∷ [] }

opens_empty : Reads (opening_window 0) empty_window
unfolding held_at
opens_empty = record { residue = refl; held = λ i. refl }

blank_reads : ReadsScoreboard (blank 0 8) 8 0 0
blank_reads = record { begins = omega arith; residue = refl; numbers = λ i. sym (ap (λ b. b == 1) (bit_at-zero i)) }

asking_step : Handles c before asking_entry agreed
asking_step =
    ours asking_frame asking_grammar refl asking_for_us
    (granted 8 refl (record {
      size = 8;
      grants = refl;
      asks = refl;
      first = [];
      passes = none_held;
      is = refl;
      window = empty_window;
      sized = refl;
      opens = opens_empty;
      blanks = blank_reads;
      agrees = record { standing = λ q. refl; agreement = λ q t. refl; clock = refl };
    }))

-- ---- data with number 0, which is passed up at once

abbrev data_frame : Frame
data_frame =
    record {
      flags = no_flags;
      duration = 0;
      receiver = bssid;
      sender = station;
      content = content.Data bssid 0 (kinds.QosData (record { tid = 0; end_of_service_period = false; ack_policy = policies.Normal; upper = 0 }));
      tail = 1 ∷ 2 ∷ 3 ∷ [];
    }

data_grammar : IsFrame data_frame
data_grammar = record { duration = omega arith; receiver = refl; sender = refl; content = (refl, omega arith, (omega arith, omega arith)); short = omega arith }

data_for_us : IsOurs c data_frame
data_for_us = record { receiver = refl; bssid = refl; single = refl }

abbrev packet : Packet
packet = record { frame = data_frame; destination = bssid; tid = Some 0; number = 0 }

abbrev held : Held
held = Some (bssid, 0, 1 ∷ 2 ∷ 3 ∷ [])

abbrev passed : List (ℕ × Held)
passed = (0, held) ∷ []

abbrev data_entry : Entry
data_entry = record { event = event.Frame (spelling data_frame); asked = (data_ask agreed station packet, 0) ∷ []; outs = ups station 0 passed }

abbrev after : Readings
after = record { standing = before.standing; agreement = λ q t. cond (same_address station q && (0 == t)) (Some (with_window moved_window)) (agreed.agreement q t); clock = 0 }

wanted : IsWanted empty_window 0
unfolding held_at
wanted = record { near = omega arith; free = refl }

abbrev nothing : Items Held
nothing = λ i. None

next_is_free : IsNextFree (with_item nothing 0 (Some held)) 0 1
next_is_free = record { above = omega arith; free = refl; full = λ k from below. first_full k below }
  where
    first_full : (k : ℕ) → k < 1 → IsSome (with_item nothing 0 (Some held) k)
    first_full zero below = refl
    first_full (suc k) below = absurd (omega (arith, below))

window_moves : DataMovesWindow true 0 (Some held) empty_window moved_window passed
unfolding held_at gathered
window_moves =
    does_take nothing empty_window moved_window 0 1 (Some held) passed (λ i. refl) (omega arith) (omega arith) wanted next_is_free
    (λ i. sym (with_other nothing 0 (Some held) (1 + i) (λ e. omega (arith, e)))) refl refl

scoreboard_marks : DataMarksScoreboard 0 empty_window moved_window
scoreboard_marks = data_marks 0 0 8 0 0 1 (omega arith) (omega arith) (omega arith) refl marked
  where
    marked : (i : ℕ) → bit_at 1 i ≡ cond (i == 0) 1 (bit_at 0 (0 + i))
    marked i = let e : i ≡ 0 + i = omega arith in subst (λ x. bit_at 1 i ≡ cond (i == 0) 1 (bit_at 0 x)) e (mark_bit 0 0 i (omega arith))

data_step : Handles c agreed data_entry after
data_step =
    ours data_frame data_grammar refl data_for_us
    (taken 0 (with_window empty_window) refl refl (record {
      wanted = wanted;
      verdict = 0;
      asks = refl;
      window = moved_window;
      size = refl;
      passed = passed;
      moves = window_moves;
      marks = scoreboard_marks;
      is = refl;
      agrees = record { standing = λ q. refl; agreement = λ q t. refl; clock = refl };
    }))

pub some_is_passed_in_order : SomeIsPassedInOrder
some_is_passed_in_order =
    record {
      rules = c;
      entries = first_entry ∷ second_entry ∷ asking_entry ∷ [];
      at = agreed;
      last = after;
      passing = data_entry;
      station = station;
      tid = 0;
      run = goes_on opening (known_at (Some Authenticated)) agreed first_entry (second_entry ∷ asking_entry ∷ []) first_step
          (goes_on (known_at (Some Authenticated)) before agreed second_entry (asking_entry ∷ []) second_step
          (goes_on before agreed agreed asking_entry [] asking_step (rests agreed)));
      step = data_step;
      agreed = refl;
      some = λ e. cc;
    }
