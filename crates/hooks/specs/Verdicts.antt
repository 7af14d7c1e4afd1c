-- What the number that a program leaves in R0 means to the link. These tables are our own.
use Rattle.std.specs.Prelude.{ℕ, ◌/◌, ◌%◌, ◌==◌, ◌||◌, min, Option, Some, None, if◌then◌else◌}
use Rattle.bpf_regions.specs.declared.hooks.Hook.{Hook}
use Rattle.bpf_regions.specs.declared.hooks.Hook.TheVariants.{Association, Addba, Data}
use Rattle.hooks.specs.declared.verdicts.DataVerdict.{DataVerdict}
use Rattle.hooks.specs.declared.verdicts.DataVerdict.TheVariants.{Pass, Discard}

-- on a (re)association request: 0 admits; the statuses 1, 10, 12, 17 and 37 refuse with that status, any other number
-- with 1
abbrev pub association_status : ℕ → ℕ
association_status r = if r == 0 || r == 1 || r == 10 || r == 12 || r == 17 || r == 37 then r else 1

-- the asked buffer size; 0 leaves it to the recipient (IEEE 802.11-2016, 9.4.1.14), and counts as 64
abbrev pub wanted_size : ℕ → ℕ
wanted_size asked = if asked == 0 then 64 else asked

-- on an ADDBA request: 0 declines, any other number grants at most that size
abbrev pub agreement_size : ℕ → ℕ → Option ℕ
agreement_size r asked = if r == 0 then None else Some (min (min r (wanted_size asked)) 64)

-- on data, by the low two bits: 0 passes with mark 0, 2 passes with bits 8 to 15 as the mark, 1 and 3 discard
abbrev pub data_verdict : ℕ → DataVerdict
data_verdict r =
    if r % 4 == 0 then Pass 0 else (if r % 4 == 2 then Pass (r / 256 % 256) else Discard)

-- what counts as R0 if a hook has no program
abbrev pub no_program : Hook → ℕ
no_program Association = 0
no_program Addba = 64
no_program Data = 0
