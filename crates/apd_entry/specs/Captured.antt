-- The lines of a run that keeps a capture, and a capture in their place.
use Rattle.std.specs.Prelude.{◌≡◌, ℕ, List, Option, Some, None, IsSome, Bool, true, false, codes, if◌then◌else◌}
use Rattle.std.specs.Str.{bytes_eq}
use Rattle.apd_files.specs.Held.{Held}
use Rattle.apd_driver.specs.Capturing.{Recorded}
use Rattle.apd_driver.specs.declared.manner.Manner.{Manner}
use Rattle.apd_driver.specs.declared.reports.report.Form.{Form}
use Rattle.apd_words.specs.Asked.{Wanted, Run, Live, Answer}
use Rattle.apd_run.specs.Captured.{KeepsCapture, KeepsScript}
use Rattle.apd_entry.specs.Forms.{form_named, in_lines}

-- the path `-` asks for a capture on standard output, in the place of the lines
abbrev pub is_in_place : Option (List ℕ) → Bool
is_in_place None = false
is_in_place (Some path) = bytes_eq path (codes "-")

-- what is known of standard output as lines: nothing if a capture is in their place
abbrev pub lines_known : Option (List ℕ) → Option (List ℕ) → Option (List ℕ)
lines_known capture known = (if is_in_place capture then None else known)

-- standard output, known as it is, gets the capture of a whole run of the script in the file at this path, in the place of
-- its lines
abbrev pub KeepsInPlace : Type 0 → Held → List ℕ → Manner → Option (List ℕ) → Option (List ℕ) → Type 0
KeepsInPlace known files script manner old new =
    (time : ℕ) × KeepsScript files script known manner.form None None (Some (old, 0)) (Some (new, time))

-- a whole run of lines as they come keeps a capture, in this form; without a form there is no such run
abbrev pub KeepsFormed : Type 0 → Option Form → Option (List ℕ) → Option (List ℕ) → Recorded → Recorded → Type 0
KeepsFormed known None old new before after = ⊥
KeepsFormed known (Some form) old new before after = KeepsCapture known form None old new before after

-- standard output, known as it is, gets the capture of a whole run of lines as they come, in the place of its lines
abbrev pub KeepsLiveInPlace : Type 0 → Option Form → Option (List ℕ) → Option (List ℕ) → Type 0
KeepsLiveInPlace known form old new =
    (time : ℕ) × KeepsFormed known form None None (Some (old, 0)) (Some (new, time))

-- what is wanted is a run of a script, or of lines as they come, whose answers a terminal shows or doesn't, with its capture
-- in the place of its lines: standard output gets that
abbrev pub CapturesInPlace : Bool → Type 0 → Held → Wanted → Option (List ℕ) → Option (List ℕ) → Type 0
CapturesInPlace shown known files (Answer a output) old new = Unit {0}
CapturesInPlace shown known files (Run config script workers states work quiet strict verbose capture replaces) old new =
    is_in_place capture ≡ true → KeepsInPlace known files script (in_lines strict) old new
CapturesInPlace shown known files (Live config workers states work strict verbose clock events color capture replaces) old new =
    is_in_place capture ≡ true → KeepsLiveInPlace known (form_named shown events color) old new

-- it is known of each writer of a kind what was written to it
abbrev pub AreWritten : {O : Type 0} → (O → Option (List ℕ)) → Type 0
AreWritten {O} contents = (out : O) → IsSome (contents out)
