-- Entries among others.
use Rattle.std.proofs.Common.{List, [], ◌∷◌, ◌++◌, subst}
use mathlib.Core.List.{IsPrefix}
use Rattle.ap_model.specs.Runs.{Entry}
use Rattle.ap_locked.specs.Tokens.{IsAmong, nothing, another, its_own}

-- the empty list is among any
pub none_among : (all : List Entry) → IsAmong [] all
none_among [] = nothing
none_among (e ∷ all) = another [] all e (none_among all)

-- what is among entries is among more entries
pub among_more : {own all : List Entry} (rest : List Entry) → IsAmong own all → IsAmong own (all ++ rest)
among_more rest nothing = none_among rest
among_more rest (another own all e n) = another own (all ++ rest) e (among_more rest n)
among_more rest (its_own own all e n) = its_own own (all ++ rest) e (among_more rest n)

pub among_prefix : {own seen all : List Entry} → IsPrefix seen all → IsAmong own seen → IsAmong own all
among_prefix {own} p n = subst (IsAmong own) p.1 (among_more p.0 n)

-- with one more entry at the end of both
pub among_one : {own all : List Entry} (e : Entry) → IsAmong own all → IsAmong (own ++ e ∷ []) (all ++ e ∷ [])
among_one e nothing = its_own [] [] e nothing
among_one e (another own all x n) = another (own ++ e ∷ []) (all ++ e ∷ []) x (among_one e n)
among_one e (its_own own all x n) = its_own (own ++ e ∷ []) (all ++ e ∷ []) x (among_one e n)
