-- How many steps a program makes at each of its instructions, on the queries of a capture.
use Rattle.std.specs.Prelude.{◌≡◌, ◌<◌, ◌%◌, ◌^◌, ℕ, zero, suc, ◌==◌, Bool, true, false, List, [], ◌∷◌, ◌++◌, codes, decimal, fold, length, max, replicate, sum_by, slice_get, slice_index, Option, Some, None, if◌then◌else◌}
use Rattle.bpf_insn.specs.declared.insn.Insn.{Insn}
use Rattle.bpf_line.specs.Spellings.{text_of}
use Rattle.bpf_regions.specs.declared.asks.Ask as program
use Rattle.bpf_model.specs.Run.{Ends}
use Rattle.bpf_machine.specs.Runs.{setting_of}
use Rattle.bpf_machine.specs.Verified.{Verified}
use Rattle.capture.specs.Packets.{Seen}
use Rattle.ap_model.specs.Asks.{Ask}
use Rattle.ap_model.specs.Readings.{Config}
use Rattle.apd_policies.specs.Overlays.{Steps}
use Rattle.apd_policies.specs.Graph.{IsGraph}
use Rattle.program_judge.specs.Programs.{no_programs, replaced}
use Rattle.apd_eval.specs.Again.{query_of}
use Rattle.apd_eval.specs.Evaluated.{IsJudged, judged_by}
use Rattle.apd_eval.specs.Sums.{sums_text}
use Rattle.apd_eval.specs.Table.{column}
use Rattle.apd_eval.specs.Visits.{Passes, times}
use Rattle.apd_eval.specs.declared.row.Row.{Row}
use Rattle.apd_eval.specs.declared.sums.Course.{Course}
use Rattle.apd_eval.specs.declared.tried.Tried.{Tried}
use Rattle.apd_eval.specs.declared.profile.Spot.{Spot}
use Rattle.apd_eval.specs.declared.ruling.Ruling.{Ruling}
use Rattle.apd_eval.specs.declared.profile.ProfileForm.{ProfileForm}
use Rattle.apd_eval.specs.declared.profile.ProfileForm.TheVariants.{Table, Json, Graph}

-- the line of an instruction: its steps, its slot, and its text
abbrev pub profile_line : Spot → List ℕ
profile_line spot = column 10 (decimal spot.steps) ++ (column 6 (decimal spot.slot) ++ (text_of spot.insn ++ 10 ∷ []))

-- the same as a line of JSON; none without a step
abbrev pub json_line : Spot → List ℕ
json_line spot =
    (if spot.steps == 0 then []
    else codes "{\"slot\":" ++ (decimal spot.slot ++ (codes ",\"steps\":" ++ (decimal spot.steps
    ++ (codes ",\"instruction\":\"" ++ (text_of spot.insn ++ codes "\"}\n"))))))

abbrev pub line_of : Bool → Spot → List ℕ
line_of true spot = json_line spot
line_of false spot = profile_line spot

-- the line of a slot at which this many steps were made; none if no instruction starts there
abbrev pub line_at : Bool → ℕ → ℕ → Option (Option Insn) → List ℕ
line_at json slot steps (Some (Some i)) = line_of json (record { slot = slot; steps = steps; insn = i })
line_at json slot steps (Some None) = []
line_at json slot steps None = []

-- the lines of the first n slots
abbrev pub slot_lines : Bool → List (Option Insn) → List ℕ → ℕ → List ℕ
slot_lines json slots counts zero = []
slot_lines json slots counts (suc n) = slot_lines json slots counts n ++ line_at json n (slice_index counts n) (slice_get slots n)

-- the heads of the columns
abbrev pub profile_heads : List ℕ
profile_heads = codes "steps     slot  instruction\n"

-- the greatest of some numbers
abbrev pub most_of : List ℕ → ℕ
most_of counts = fold (λ most count. max count most) 0 counts

-- whether a form has lines of JSON
abbrev pub is_json : ProfileForm → Bool
is_json Table = false
is_json Json = true
is_json Graph = false

-- A table or lines of JSON, with the sums, or the graph, whose blocks are the darker the more steps are made at their
-- first slots.
abbrev pub IsFormed : ProfileForm → List (Option Insn) → List ℕ → List ℕ → List ℕ → Type 0
IsFormed Table slots counts sums text = text ≡ profile_heads ++ (slot_lines false slots counts (length slots) ++ sums)
IsFormed Json slots counts sums text = text ≡ slot_lines true slots counts (length slots) ++ sums
IsFormed Graph slots counts sums text = IsGraph (Steps counts (most_of counts)) slots text

-- A program's run on a query, with this ruling. It makes its steps at these slots.
pub record IsRunOn (v : Verified) (ask : Ask) (r : Ruling) (slots : List ℕ) : Type 0 where
  pub asked : List (program.Ask × ℕ)
  pub notes : List ℕ
  pub ends : Ends (setting_of v.code ask.frame ask.context) asked r.steps r.verdict notes
  pub passes : Passes (setting_of v.code ask.frame ask.context) asked r.verdict slots
  pub many : length slots ≡ r.steps

-- the runs on the queries of rows, one for each
abbrev pub AreRuns : Verified → List Seen → List Row → List (List ℕ) → Type 0
AreRuns v packets [] runs = runs ≡ []
AreRuns v packets (row ∷ rows) [] = ⊥
AreRuns v packets (row ∷ rows) (slots ∷ runs) = IsRunOn v (query_of packets row) row.ruling slots × AreRuns v packets rows runs

-- how many steps some runs make at a slot
abbrev pub steps_at : ℕ → List (List ℕ) → ℕ
steps_at slot runs = sum_by (times slot) runs

-- The profile of a program: the count of each slot is the number of steps there, mod 2^64, in the runs of the rows.
pub record IsProfile (v : Verified) (draw : ℕ) (config : Config) (packets : List Seen) (form : ProfileForm) (text : List ℕ) : Type 0 where
  pub rows : List Row
  pub counts : List ℕ
  pub judged : IsJudged v draw config packets (replicate (length v.code.slots) 0) rows counts
  pub runs : List (List ℕ)
  pub are : AreRuns v packets rows runs
  pub each : (slot : ℕ) → slot < length v.code.slots → slice_index counts slot ≡ steps_at slot runs % 2 ^ 64
  pub formed : IsFormed form v.code.slots counts (sums_text (judged_by v config packets) rows (is_json form)) text

-- a program alone, with maps of its own, a count of 0 for each of its slots, and what is judged by it
pub record IsUncounted (v : Verified) (tested : Tried) (counts : List ℕ) (course : Course) : Type 0 where
  pub programs : tested.programs ≡ replaced v.hook (no_programs v.code.shapes) (Some v)
  pub zeros : counts ≡ replicate (length v.code.slots) 0
  pub hook_is : course.hook ≡ v.hook
  pub budget_is : course.budget ≡ v.budget
