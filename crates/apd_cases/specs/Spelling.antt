-- Verdicts and expectations as a case spells them.
use Rattle.std.specs.Prelude.{ℕ, ◌==◌, List, ◌++◌, codes, decimal, if◌then◌else◌}
use Rattle.apd_cases.specs.declared.line.Expectation.{Expectation}
use Rattle.apd_cases.specs.declared.line.Expectation.TheVariants as expectation
use Rattle.apd_cases.specs.declared.line.Verdict.{Verdict}
use Rattle.apd_cases.specs.declared.line.Verdict.TheVariants.{Admit, Refuse, Size, Decline, Pass, Discard}

-- a verdict, as a case spells it
abbrev pub verdict_text : Verdict → List ℕ
verdict_text Admit = codes "admit"
verdict_text (Refuse status) = codes "refuse " ++ decimal status
verdict_text (Size size) = codes "size " ++ decimal size
verdict_text Decline = codes "decline"
verdict_text (Pass mark) =
    (if mark == 0 then codes "pass" else codes "pass mark " ++ decimal mark)
verdict_text Discard = codes "drop"

-- an expectation, as a case spells it
abbrev pub expectation_text : Expectation → List ℕ
expectation_text (expectation.Verdict verdict) = verdict_text verdict
expectation_text (expectation.Refused number) = codes "refused " ++ decimal number
expectation_text (expectation.Budget most) = codes "budget <= " ++ decimal most
expectation_text (expectation.Steps most) = codes "steps <= " ++ decimal most
expectation_text (expectation.Note note) = codes "note " ++ decimal note
expectation_text (expectation.Word place value) =
    codes "word " ++ (decimal place.map ++ (codes " " ++ (decimal place.entry ++ (codes " "
    ++ (decimal place.word ++ (codes " " ++ decimal value))))))
