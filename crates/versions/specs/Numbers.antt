-- How many loads each hook had.
use Rattle.std.specs.Prelude.{ℕ, ◌+◌, ◌%◌, ◌^◌, List, fold}
use Rattle.bpf_regions.specs.declared.hooks.Hook.{Hook}
use Rattle.bpf_regions.specs.declared.hooks.Hook.TheVariants.{Association, Addba, Data}
use Rattle.versions.specs.declared.list.Load.{Load}
use Rattle.versions.specs.declared.numbers.LoadNumbers.{LoadNumbers}

-- no hook had a load
abbrev pub no_numbers : LoadNumbers
no_numbers = record { association = 0; addba = 0; frames = 0 }

-- a hook's number
abbrev pub number_at : Hook → LoadNumbers → ℕ
number_at Association n = n.association
number_at Addba n = n.addba
number_at Data n = n.frames

-- a number and one, mod 2^64
abbrev pub one_more : ℕ → ℕ
one_more n = (n + 1) % 2 ^ 64

-- the numbers after one more load for this hook
abbrev pub next_at : Hook → LoadNumbers → LoadNumbers
next_at Association n = record n { association = one_more n.association }
next_at Addba n = record n { addba = one_more n.addba }
next_at Data n = record n { frames = one_more n.frames }

-- the numbers after a load
abbrev pub next_by : LoadNumbers → Load → LoadNumbers
next_by n l = next_at l.hook n

-- for each hook, how many of the loads were for it
abbrev pub numbers_of : List Load → LoadNumbers
numbers_of loads = fold next_by no_numbers loads
