-- Why a text isn't a script.
use Rattle.std.specs.Prelude.{◌≡◌, ℕ, ◌+◌, List, ◌++◌, codes}
use Rattle.std.specs.Fmt.{decimal}
use Rattle.bpf_regions.specs.declared.maps.Shape.{Shape}
use Rattle.apd_script.specs.declared.fault.ScriptFault.{ScriptFault}
use Rattle.apd_script.specs.declared.fault.ScriptFault.TheVariants.{Line, NoMemory}
use Rattle.apd_script.specs.Script.{IsMalformedAfter}

-- the number of the first malformed line, counted from 1; lack of memory says nothing of the text
abbrev pub Refuses : List Shape → List ℕ → ScriptFault → Type 0
Refuses maps text (Line number) =
    (before : ℕ) × (number ≡ before + 1) × IsMalformedAfter maps text before
Refuses maps text NoMemory = Unit {0}

-- the text of a fault
abbrev pub text_of : ScriptFault → List ℕ
text_of (Line number) = codes "script line " ++ decimal number
text_of NoMemory = codes "out of memory"
