-- The numbers of the hooks.
use Rattle.std.specs.Prelude.{ℕ, List, codes}
use Rattle.bpf_regions.specs.declared.hooks.Hook.{Hook}
use Rattle.bpf_regions.specs.declared.hooks.Hook.TheVariants.{Association, Addba, Data}

-- how a context names a hook
abbrev pub number_of : Hook → ℕ
number_of Association = 1
number_of Addba = 2
number_of Data = 3

-- how the command line names a hook
abbrev pub name_of : Hook → List ℕ
name_of Association = codes "assoc"
name_of Addba = codes "addba"
name_of Data = codes "data"
