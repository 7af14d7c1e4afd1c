-- The verdicts that differ between two programs.
use Rattle.std.specs.Prelude.{◌≡◌, ℕ, ◌==◌, Bool, true, false, List, [], ◌∷◌, ◌++◌, codes, decimal, length, if◌then◌else◌}
use Rattle.bpf_regions.specs.declared.hooks.Hook.{Hook}
use Rattle.capture.specs.Packets.{Seen}
use Rattle.apd_eval.specs.Unjudged.{reasons_of, parts_text, others_line, none_text, json_reasons}
use Rattle.apd_eval.specs.Words.{verdict_of, words_of}
use Rattle.apd_eval.specs.Table.{column, station_text, lines_of}
use Rattle.apd_eval.specs.declared.again.Contrast.{Contrast}

-- both verdicts mean the same to the link
abbrev pub Agrees : Contrast → Type 0
Agrees c = verdict_of c.in_force ≡ verdict_of c.tried

-- all verdicts are equal
abbrev pub AllAgree : List Contrast → Type 0
AllAgree [] = Unit {0}
AllAgree (c ∷ contrasts) = Agrees c × AllAgree contrasts

-- those of some contrasts whose verdicts differ, in order
pub data AreChanges : List Contrast → List Contrast → Type 0 where
  NoQuery : AreChanges [] []
  Same : (c : Contrast) (contrasts changes : List Contrast) → Agrees c → AreChanges contrasts changes → AreChanges (c ∷ contrasts) changes
  Differs : (c : Contrast) (contrasts changes : List Contrast) → (Agrees c → ⊥) → AreChanges contrasts changes → AreChanges (c ∷ contrasts) (c ∷ changes)

-- the line of a change
abbrev pub change_line : Contrast → List ℕ
change_line c =
    column 8 (decimal c.packet) ++ (column 19 (station_text c.in_force.context)
    ++ (words_of (verdict_of c.in_force) ++ (codes " -> " ++ (words_of (verdict_of c.tried) ++ 10 ∷ []))))

-- the same as a line of JSON
abbrev pub json_change : Contrast → List ℕ
json_change c =
    codes "{\"packet\":" ++ (decimal c.packet ++ (codes ",\"station\":\""
    ++ (station_text c.in_force.context ++ (codes "\",\"old\":\""
    ++ (words_of (verdict_of c.in_force) ++ (codes "\",\"new\":\""
    ++ (words_of (verdict_of c.tried) ++ codes "\"}\n")))))))

-- how many verdicts differ, of how many packets
abbrev pub both_text : ℕ → ℕ → ℕ → List ℕ
both_text judged packets changed =
    codes "judged " ++ (decimal judged ++ (codes " of " ++ (decimal packets
    ++ (codes " packets by both: " ++ (decimal changed ++ codes " verdicts differ\n")))))

-- the same, and which packets weren't judged; or why none was
abbrev pub plain_changes : Hook → List ℕ → List Seen → ℕ → ℕ → List ℕ
plain_changes hook address packets judged changed =
    (if judged == 0 then none_text hook address packets
    else both_text judged (length packets) changed
    ++ others_line (parts_text hook (reasons_of hook address packets judged)))

-- how many verdicts differ, in JSON, as the beginning of an object
abbrev pub json_both : ℕ → ℕ → ℕ → List ℕ
json_both judged packets changed =
    codes "{\"judged\":" ++ (decimal judged ++ (codes ",\"packets\":" ++ (decimal packets
    ++ (codes ",\"differ\":" ++ decimal changed))))

-- the sums in either form
abbrev pub change_sums : Hook → List ℕ → List Seen → ℕ → ℕ → Bool → List ℕ
change_sums hook address packets judged changed true =
    json_both judged (length packets) changed ++ json_reasons (reasons_of hook address packets judged)
change_sums hook address packets judged changed false = plain_changes hook address packets judged changed

-- the heads of the columns
abbrev pub change_heads : List ℕ
change_heads = codes "packet  station            verdict\n"

-- the line of a change in either form
abbrev pub change_in : Bool → Contrast → List ℕ
change_in true c = json_change c
change_in false c = change_line c

-- what stands before the lines
abbrev pub change_front : Bool → List ℕ
change_front true = []
change_front false = change_heads

-- lines of JSON, or the heads of the columns and the lines of the changes
abbrev pub change_rows : List Contrast → Bool → List ℕ
change_rows changes json = change_front json ++ lines_of (change_in json) changes

-- the same, and the sums
abbrev pub changes_text : List Contrast → List ℕ → Bool → List ℕ
changes_text changes sums json = change_rows changes json ++ sums
