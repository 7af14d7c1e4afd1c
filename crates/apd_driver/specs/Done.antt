-- Which lines of a script were followed.
use Rattle.std.specs.Prelude.{◌≡◌, ℕ, List, [], ◌++◌, Option, Some, None, Bool, true, false}
use Rattle.apd_script.specs.Asked.{Asked}

-- The lines are a prefix of the script's, and none is malformed. Of lines that aren't known before nothing is said.
abbrev pub AreBegun : Option (List (ℕ × Asked)) → List (ℕ × Asked) → List ℕ → Type 0
AreBegun None lines malformed = Unit {0}
AreBegun (Some script) lines malformed = (rest : List (ℕ × Asked)) × (script ≡ lines ++ rest) × (malformed ≡ [])

-- the lines are all of the script's, or a prefix if the run is over before
abbrev pub AreDone : Option (List (ℕ × Asked)) → Bool → List (ℕ × Asked) → List ℕ → Type 0
AreDone None over lines malformed = Unit {0}
AreDone (Some script) true lines malformed = AreBegun (Some script) lines malformed
AreDone (Some script) false lines malformed = (script ≡ lines) × (malformed ≡ [])
