-- The answers to the questions of `apd live`.
use Rattle.std.specs.Prelude.{ℕ, List, [], ◌∷◌, ◌++◌, length, codes, decimal, string_bytes, Option, Some, None}
use Rattle.std.specs.List.{flat_map}
use Rattle.bpf_regions.specs.Hooks.{name_of}
use Rattle.bpf_regions.specs.declared.hooks.Hook.{Hook}
use Rattle.bpf_regions.specs.declared.hooks.Hook.TheVariants.{Association, Addba, Data}
use Rattle.bpf_regions.specs.Maps.{bytes_of}
use Rattle.bpf_regions.specs.declared.maps.Scope.{Scope}
use Rattle.bpf_regions.specs.declared.maps.Scope.TheVariants.{Shared, Worker}
use Rattle.bpf_regions.specs.declared.maps.Shape.{Shape}
use Rattle.mac_types.specs.Texts.{address_text}
use Rattle.apd_driver.specs.Words.{then, counter_words}
use Rattle.apd_driver.specs.Lines.{line_of}
use Rattle.apd_driver.specs.declared.answers.answer.StationRow.{StationRow}
use Rattle.apd_driver.specs.declared.answers.answer.AgreementRow.{AgreementRow}
use Rattle.apd_driver.specs.declared.answers.answer.ProgramRow.{ProgramRow}
use Rattle.apd_driver.specs.declared.answers.answer.EntryRow.{EntryRow}
use Rattle.apd_driver.specs.declared.answers.answer.Answer.{Answer}
use Rattle.apd_driver.specs.declared.answers.answer.Answer.TheVariants.{Usages, Stations, Agreements, Programs, Counters, Dump}

-- `authenticated`, or `associated` with the association identifier
abbrev pub standing_words : Option ℕ → List ℕ
standing_words None = codes "authenticated"
standing_words (Some aid) = then (codes "associated") (decimal aid)

-- `station ADDRESS STANDING`
abbrev pub station_words : StationRow → List ℕ
station_words r = then (codes "station") (then (address_text r.station) (standing_words r.aid))

-- `agreement ADDRESS TID start NUMBER size N held N timeout N`
abbrev pub agreement_words : AgreementRow → List ℕ
agreement_words r =
    then (codes "agreement") (then (address_text r.station) (then (decimal r.tid)
    (then (codes "start") (then (decimal r.start) (then (codes "size") (then (decimal r.size)
    (then (codes "held") (then (decimal r.held) (then (codes "timeout") (decimal r.timeout))))))))))

-- what a verdict of a hook's program does that grants what was asked
abbrev pub granted_name : Hook → List ℕ
granted_name Association = codes "admit"
granted_name Addba = codes "size"
granted_name Data = codes "pass"

-- what one does that denies it
abbrev pub denied_name : Hook → List ℕ
denied_name Association = codes "refuse"
denied_name Addba = codes "decline"
denied_name Data = codes "drop"

-- `program HOOK budget N runs N most N steps N GRANTED N DENIED N`
abbrev pub program_words : ProgramRow → List ℕ
program_words r =
    then (codes "program") (then (name_of r.hook) (then (codes "budget") (then (decimal r.budget)
    (then (codes "runs") (then (decimal r.runs) (then (codes "most") (then (decimal r.most)
    (then (codes "steps") (then (decimal r.steps) (then (granted_name r.hook) (then (decimal r.granted)
    (then (denied_name r.hook) (decimal r.denied)))))))))))))

-- how a configuration names a scope
abbrev pub scope_name : Scope → List ℕ
scope_name Shared = codes "shared"
scope_name Worker = codes "worker"

-- `SCOPE N entries N words width N`
abbrev pub shape_words : Shape → List ℕ
shape_words s =
    then (scope_name s.scope) (then (decimal s.entries) (then (codes "entries")
    (then (decimal s.words) (then (codes "words") (then (codes "width") (decimal (bytes_of s.width)))))))

-- numbers in decimal, each after a space (32)
abbrev pub numbers_text : List ℕ → List ℕ
numbers_text numbers = flat_map (λ n. 32 ∷ decimal n) numbers

-- ` says`, and the notes, each after a space; nothing, if there is none
abbrev pub says_text : List ℕ → List ℕ
says_text [] = []
says_text (note ∷ notes) = codes " says" ++ numbers_text (note ∷ notes)

-- a program's words, and what it noted
abbrev pub program_text : ProgramRow → List ℕ
program_text r = program_words r ++ says_text r.says.items

-- an entry's index and its words
abbrev pub entry_words : EntryRow → List ℕ
entry_words r = decimal r.index ++ numbers_text r.words.items

-- a line for each row, and then the line `end` with how many they are
abbrev pub list_text : {A : Type 0} → (A → List ℕ) → ℕ → List A → List ℕ
list_text words number rows =
    flat_map (λ row. line_of number (words row)) rows ++ line_of number (then (codes "end") (decimal (length rows)))

-- an answer on the line with this number
abbrev pub answer_text : ℕ → Answer → List ℕ
answer_text number (Usages usages) = list_text (λ usage. then (codes "help") (string_bytes usage)) number usages.items
answer_text number (Stations rows) = list_text station_words number rows.items
answer_text number (Agreements rows) = list_text agreement_words number rows.items
answer_text number (Programs rows) = list_text program_text number rows.items
answer_text number (Counters totals) = line_of number (counter_words totals)
answer_text number (Dump map shape entries) =
    line_of number (then (codes "map") (then (decimal map) (shape_words shape)))
    ++ list_text entry_words number entries.items
