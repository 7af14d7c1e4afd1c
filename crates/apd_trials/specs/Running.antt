-- What is known while a file of cases is followed.
use Rattle.std.specs.Prelude.{IfSome}
use Rattle.apd_files.specs.Held.{Held}
use Rattle.apd_trials.specs.Policies.{IsAdmission}
use Rattle.apd_cases.specs.Situations.{Situation, situation_of}
use Rattle.apd_trials.specs.declared.bench.Bench.{Bench}

-- the situation of a bench
abbrev pub stands : Bench → Situation
stands bench = situation_of bench.situation

-- what the verifier said is what it says of the situation's policy
abbrev pub IsBench : Held → Bench → Type 0
IsBench files bench =
    IfSome bench.admission (IsAdmission files (stands bench).policy (stands bench).config)
