-- Why a text is refused.
use Rattle.std.specs.Prelude.{◌≡◌, ℕ, List, [], Err, ◌++◌, codes}
use Rattle.std.specs.Fmt.{decimal}
use Rattle.bpf_text.specs.declared.fault.AsmFault.{AsmFault}
use Rattle.bpf_text.specs.declared.fault.AsmFault.TheVariants.{NoMemory, Line}
use Rattle.bpf_text.specs.Texts.{lines_of, assembled, after_line}

-- lack of memory, or the first faulty line
abbrev pub Refuses : List ℕ → AsmFault → Type 0
Refuses text NoMemory = Unit {0}
Refuses text (Line line number) = Err (line, number) ≡ assembled 1 [] (lines_of text)

-- lack of memory, or this line's fault
abbrev pub RefusesLine : ℕ → List ℕ → List ℕ → AsmFault → Type 0
RefusesLine at code line NoMemory = Unit {0}
RefusesLine at code line (Line l number) = (l ≡ at) × (after_line code line ≡ Err number)

-- a refusal as printed
abbrev pub text_of : AsmFault → List ℕ
text_of NoMemory = codes "out of memory"
text_of (Line line number) = codes "line " ++ (decimal line ++ (codes " fault " ++ decimal number))
