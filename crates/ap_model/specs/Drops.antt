-- Verdicts that drop data.
use Rattle.std.specs.Prelude.{ℕ, Bool, true, false, List, [], ◌∷◌, ◌||◌}
use Rattle.bpf_regions.specs.declared.hooks.Hook.{Hook}
use Rattle.bpf_regions.specs.declared.hooks.Hook.TheVariants.{Association, Addba, Data}
use Rattle.hooks.specs.Verdicts.{data_verdict}
use Rattle.hooks.specs.declared.verdicts.DataVerdict.{DataVerdict}
use Rattle.hooks.specs.declared.verdicts.DataVerdict.TheVariants.{Pass, Discard}
use Rattle.ap_model.specs.Asks.{Ask}

-- a verdict on data that drops it
abbrev pub discards : DataVerdict → Bool
discards (Pass mark) = false
discards Discard = true

-- an answer to a hook's query that drops data
abbrev pub drops_by : Hook → ℕ → Bool
drops_by Association r = false
drops_by Addba r = false
drops_by Data r = discards (data_verdict r)

-- some answer in the list drops data
abbrev pub drops : List (Ask × ℕ) → Bool
drops [] = false
drops (x ∷ xs) = drops_by x.0.hook x.1 || drops xs
