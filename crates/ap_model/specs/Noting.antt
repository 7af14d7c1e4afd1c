-- Recording a query.
use Rattle.std.specs.Prelude.{ℕ, List, [], ◌∷◌, ◌++◌}
use Rattle.ap_model.specs.declared.ask_log.Asked.{Asked}
use Rattle.ap_model.specs.Asks.{Ask}

-- the queries with one more at the end
abbrev pub noted : List (Ask × ℕ) → Asked → List (Ask × ℕ)
noted asks a = asks ++ (record { hook = a.hook; frame = a.frame.now; context = a.context.now }, a.answer) ∷ []
