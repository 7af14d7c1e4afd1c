-- Runs that break off.
use Rattle.std.proofs.Common.{◌≡◌, ℕ, List, [], Bool, true, false, Option, None, Some, refl}
use Rattle.std.proofs.Common.{Ok, Err}
use Rattle.std.specs.Result.{OnErr}
use Rattle.std.specs.declared.result.Result.{Result}
use Rattle.apd_script.specs.Asked.{Asked}
use Rattle.apd_driver.specs.Crews.{Crew}
use Rattle.apd_driver.specs.Semantics.{Semantics}
use Rattle.apd_driver.specs.Done.{AreBegun}
use Rattle.apd_driver.specs.Shows.{Nothing, Before, Breaks, InInterval, is_over}
use Rattle.apd_driver.specs.declared.manner.Manner.{Manner}

-- if no line was refused, a run goes on
pub goes_on : (strict : Bool) → is_over strict false ≡ false
goes_on true = refl
goes_on false = refl

-- no line was done
pub begun_none : (script : Option (List (ℕ × Asked))) → AreBegun script [] []
begun_none None = tt
begun_none (Some lines) = (lines, refl, refl)

-- before their first interval
pub breaks_at_once : {s : Semantics} → (manner : Manner) (script : Option (List (ℕ × Asked))) (old : Option (List ℕ)) (crew : Crew s) → Breaks manner script old old crew
breaks_at_once manner script old crew =
    InInterval [] [] [] [] old crew false false Nothing (goes_on manner.strict) (Before refl) (begun_none script)

-- what holds anyway holds after an error
pub on_err : {T E : Type 0} → (P : Type 0) (result : Result T E) → P → OnErr result P
on_err P (Ok x) p = tt
on_err P (Err e) p = p
