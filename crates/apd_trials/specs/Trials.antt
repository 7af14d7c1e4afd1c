-- A run of an accepted policy in a situation, and what is found of it.
use Rattle.std.specs.Prelude.{◌≡◌, ℕ, ◌+◌, ◌*◌, ◌%◌, ◌&&◌, ◌==◌, nat_lt, List, [], ◌∷◌, map, slice_get, slice_index, Option, Some, None, option_and_then, if◌then◌else◌}
use Rattle.bpf_regions.specs.Hooks.{number_of}
use Rattle.bpf_regions.specs.declared.asks.Ask.TheVariants.{Access}
use Rattle.bpf_regions.specs.declared.hooks.Hook.{Hook}
use Rattle.bpf_regions.specs.declared.hooks.Hook.TheVariants.{Association, Addba, Data}
use Rattle.bpf_regions.specs.declared.maps.MapOp.TheVariants.{Store}
use Rattle.bpf_regions.specs.declared.maps.Shape.{Shape}
use Rattle.bpf_machine.specs.Runs.{Ran, setting_of}
use Rattle.bpf_machine.specs.Verified.{Verified}
use Rattle.bpf_helpers.specs.Plain.{Plain, zeros, left_after, table_of}
use Rattle.hooks.specs.Verdicts.{association_status, agreement_size, data_verdict}
use Rattle.hooks.specs.declared.verdicts.DataVerdict.{DataVerdict}
use Rattle.hooks.specs.declared.verdicts.DataVerdict.TheVariants as on_data
use Rattle.apd_text.specs.Trace.{Gives}
use Rattle.apd_script.specs.declared.command.MapWord.{MapWord}
use Rattle.apd_cases.specs.Situations.{Situation}
use Rattle.apd_trials.specs.declared.admission.Admission.{Admission}
use Rattle.apd_trials.specs.declared.admission.Admission.TheVariants as admission
use Rattle.apd_trials.specs.declared.found.Found.{Found}
use Rattle.apd_trials.specs.declared.found.Found.TheVariants as found
use Rattle.apd_cases.specs.declared.line.Expectation.{Expectation}
use Rattle.apd_cases.specs.declared.line.Expectation.TheVariants as expectation
use Rattle.apd_cases.specs.declared.line.Place.{Place}
use Rattle.apd_cases.specs.declared.line.Verdict.{Verdict}
use Rattle.apd_cases.specs.declared.line.Verdict.TheVariants.{Admit, Refuse, Size, Decline, Pass, Discard}
use Rattle.apd_trials.specs.declared.trial.Ended.{Ended}

-- ---- before a run

-- a place among the words of a map, if the map has it
abbrev pub word_in : Place → Shape → Option MapWord
word_in place shape =
    (if nat_lt place.entry shape.entries && nat_lt place.word shape.words
    then Some (record { map = place.map; word = place.entry * shape.words + place.word }) else None)

-- the same among the words of all maps
abbrev pub word_at : List Shape → Place → Option MapWord
word_at shapes place = option_and_then (word_in place) (slice_get shapes place.map)

-- the maps after a number is stored in a word, if there is such a word
abbrev pub stored_at : Plain → ℕ → Option MapWord → Plain
stored_at p value None = p
stored_at p value (Some w) = left_after p (Access w.map w.word (Store value))

-- the maps after numbers are stored, one after another
abbrev pub stored : List Shape → Plain → List (Place × ℕ) → Plain
stored shapes p [] = p
stored shapes p (preset ∷ presets) =
    stored shapes (stored_at p preset.1 (word_at shapes preset.0)) presets

-- maps whose words are 0, and the clock, the stations and the first draw of a run
abbrev pub port_of : Situation → List Shape → ℕ → Plain
port_of s shapes draw = record {
  tables = map zeros shapes;
  clock = s.clock;
  stations = s.stations;
  draw = draw;
}

-- the same with the words of the situation
abbrev pub port_in : Situation → List Shape → ℕ → Plain
port_in s shapes draw = stored shapes (port_of s shapes draw) s.presets

-- ---- after a run

-- the size that an ADDBA request asks for, by its context
abbrev pub asked_size : List ℕ → ℕ
asked_size context = (slice_index context 12 + 256 * slice_index context 13) % 1024

-- a status that answers an association request
abbrev pub on_status : ℕ → Verdict
on_status status = if status == 0 then Admit else Refuse status

-- the window granted to an agreement, if it is
abbrev pub on_window : Option ℕ → Verdict
on_window None = Decline
on_window (Some size) = Size size

-- what happens to data
abbrev pub on_frame : DataVerdict → Verdict
on_frame (on_data.Pass mark) = Pass mark
on_frame on_data.Discard = Discard

-- what R0 means to the link
abbrev pub verdict_of : Hook → ℕ → ℕ → Verdict
verdict_of Association r0 asked = on_status (association_status r0)
verdict_of Addba r0 asked = on_window (agreement_size r0 asked)
verdict_of Data r0 asked = on_frame (data_verdict r0)

-- A run of the program on the frame of the situation, with a context that has the hook's number (only tests show the
-- rest of it). The maps have the words of the situation at first, and are 0 otherwise.
pub record IsRun (s : Situation) (v : Verified) (draw : ℕ) (ended : Ended) : Type 0 where
  pub frame : List ℕ
  pub there : s.frame ≡ Some frame
  pub context : List ℕ
  pub told : slice_index context 6 ≡ number_of v.hook
  pub asked : ended.asked ≡ asked_size context
  pub ran : Ran Gives (setting_of v.code frame context) (port_in s v.code.shapes draw) ended.port ended.outcome

-- after the run, the word at the place has this value
pub record HoldsWord (shapes : List Shape) (port : Plain) (place : Place) (value : ℕ) : Type 0 where
  pub word : MapWord
  pub there : word_at shapes place ≡ Some word
  pub value_is : value ≡ slice_index (table_of port word.map).words word.word

-- ---- what is found for an expectation

-- the value of the word at the place
abbrev pub HasWord : List Shape → Plain → Place → Found → Type 0
HasWord shapes port place f = (value : ℕ) × HoldsWord shapes port place value × (f ≡ found.Holds value)

-- of a run: what it noted, or left in a word, or otherwise its verdict and its steps
abbrev pub RunShows : Verified → Ended → Expectation → Found → Type 0
RunShows v ended (expectation.Note n) f = f ≡ found.Noted ended.outcome.notes
RunShows v ended (expectation.Word place n) f = HasWord v.code.shapes ended.port place f
RunShows v ended e f =
    f ≡ found.Ran (verdict_of v.hook ended.outcome.r0 ended.asked) ended.outcome.steps

-- of an accepted policy: its budget, or what a run shows
abbrev pub Shows : Situation → Verified → ℕ → Expectation → Found → Type 0
Shows s v draw (expectation.Refused n) f = f ≡ found.Accepted v.budget
Shows s v draw (expectation.Budget n) f = f ≡ found.Accepted v.budget
Shows s v draw e f = (ended : Ended) × IsRun s v draw ended × RunShows v ended e f

-- of a policy: why it isn't admitted, or the same
abbrev pub Finds : Situation → Admission → Expectation → Found → Type 0
Finds s (admission.Unadmitted why) e f = f ≡ found.Unadmitted why
Finds s (admission.Accepted program draw) e f = Shows s program draw e f
