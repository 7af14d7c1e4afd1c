-- What the words after `expect` expect.
use Rattle.std.specs.Prelude.{ℕ, ◌^◌, ◌==◌, ◌||◌, nat_le, List, [], ◌∷◌, codes, Option, Some, None, option_map, if◌then◌else◌, Bool}
use Rattle.std.specs.Str.{bytes_eq}
use Rattle.apd_script.specs.Lines.{◌>>=◌}
use Rattle.apd_script.specs.Words.{number_below}
use Rattle.apd_cases.specs.declared.line.Expectation.{Expectation}
use Rattle.apd_cases.specs.declared.line.Expectation.TheVariants as expectation
use Rattle.apd_cases.specs.declared.line.Verdict.{Verdict}
use Rattle.apd_cases.specs.declared.line.Verdict.TheVariants.{Admit, Refuse, Size, Decline, Pass, Discard}
use Rattle.apd_cases.specs.declared.line.Place.{Place}

-- `MAP INDEX WORD`: a map's number below 16, an entry's index below 4096, a word's index in the entry below 8
abbrev pub place_named : List ℕ → List ℕ → List ℕ → Option Place
place_named map entry word = do
  m ← number_below 16 map
  e ← number_below 4096 entry
  w ← number_below 8 word
  Some (record { map = m; entry = e; word = w })

-- a verdict that has no operands: `admit`, `decline`, `drop`
abbrev pub alone : Verdict → List (List ℕ) → Option Expectation
alone verdict [] = Some (expectation.Verdict verdict)
alone verdict _ = None

-- `mark N`, N below 256
abbrev pub marked : List ℕ → List ℕ → Option Expectation
marked word mark =
    (if bytes_eq word (codes "mark")
    then option_map (λ m. expectation.Verdict (Pass m)) (number_below 256 mark) else None)

-- `pass`, with mark 0, or `pass mark N`
abbrev pub pass_expected : List (List ℕ) → Option Expectation
pass_expected [] = Some (expectation.Verdict (Pass 0))
pass_expected (word ∷ mark ∷ []) = marked word mark
pass_expected _ = None

-- a status with which a policy may refuse
abbrev pub is_refusal : ℕ → Bool
is_refusal n = n == 1 || n == 10 || n == 12 || n == 17 || n == 37

-- `refuse STATUS`
abbrev pub refuse_expected : List (List ℕ) → Option Expectation
refuse_expected (status ∷ []) = do
  n ← number_below 65536 status
  (if is_refusal n then Some (expectation.Verdict (Refuse n)) else None)
refuse_expected _ = None

-- `size N`, N from 1 to 64
abbrev pub size_expected : List (List ℕ) → Option Expectation
size_expected (size ∷ []) = do
  n ← number_below 65 size
  (if nat_le 1 n then Some (expectation.Verdict (Size n)) else None)
size_expected _ = None

-- `refused N`, N below 256
abbrev pub refused_expected : List (List ℕ) → Option Expectation
refused_expected (number ∷ []) = option_map expectation.Refused (number_below 256 number)
refused_expected _ = None

-- `<= N`, N below 2^32
abbrev pub limit_named : List (List ℕ) → Option ℕ
limit_named (sign ∷ limit ∷ []) =
    (if bytes_eq sign (codes "<=") then number_below (2 ^ 32) limit else None)
limit_named _ = None

-- `budget <= N`
abbrev pub budget_expected : List (List ℕ) → Option Expectation
budget_expected operands = option_map expectation.Budget (limit_named operands)

-- `steps <= N`
abbrev pub steps_expected : List (List ℕ) → Option Expectation
steps_expected operands = option_map expectation.Steps (limit_named operands)

-- `note N`, N below 2^64
abbrev pub note_expected : List (List ℕ) → Option Expectation
note_expected (note ∷ []) = option_map expectation.Note (number_below (2 ^ 64) note)
note_expected _ = None

-- `word MAP INDEX WORD VALUE`, a value below 2^64
abbrev pub word_expected : List (List ℕ) → Option Expectation
word_expected (map ∷ entry ∷ word ∷ value ∷ []) = do
  place ← place_named map entry word
  number ← number_below (2 ^ 64) value
  Some (expectation.Word place number)
word_expected _ = None

-- what a kind of expectation and its operands expect
abbrev pub kind_expected : List ℕ → List (List ℕ) → Option Expectation
kind_expected kind operands =
    (if bytes_eq kind (codes "admit") then alone Admit operands else
    (if bytes_eq kind (codes "refuse") then refuse_expected operands else
    (if bytes_eq kind (codes "size") then size_expected operands else
    (if bytes_eq kind (codes "decline") then alone Decline operands else
    (if bytes_eq kind (codes "pass") then pass_expected operands else
    (if bytes_eq kind (codes "drop") then alone Discard operands else
    (if bytes_eq kind (codes "refused") then refused_expected operands else
    (if bytes_eq kind (codes "budget") then budget_expected operands else
    (if bytes_eq kind (codes "steps") then steps_expected operands else
    (if bytes_eq kind (codes "note") then note_expected operands else
    (if bytes_eq kind (codes "word") then word_expected operands else None)))))))))))

-- what the words after `expect` expect
abbrev pub expected : List (List ℕ) → Option Expectation
expected [] = None
expected (kind ∷ operands) = kind_expected kind operands
