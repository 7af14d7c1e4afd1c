-- Work, counted in units, and its limit.
use Rattle.std.specs.Prelude.{ℕ, ◌+◌, ◌*◌, ◌<◌, ◌≤◌, List, [], ◌∷◌, length, is_some, if◌then◌else◌}
use Rattle.bpf_absstate.specs.View.{View}
use Rattle.bpf_prune.specs.declared.kept.Entry.{Entry}
use Rattle.bpf_prune.specs.Covering.{newest_covering}

-- the units allowed and the units done; how many states were examined, how many of those were made again later, and how
-- many comparisons of a state with another one were begun; and the units of the piece of work that was refused last, 0 if
-- none was
pub record Tally : Type 0 where
  pub most : ℕ
  pub units : ℕ
  pub examined : ℕ
  pub remade : ℕ
  pub compared : ℕ
  pub refused : ℕ

-- no work yet, within a limit
abbrev pub unspent : ℕ → Tally
unspent most = record { most = most; units = 0; examined = 0; remade = 0; compared = 0; refused = 0 }

-- Each unit that was done is allowed, and the units are enough for all that was done: a state that is examined or made
-- again has at least 80 parts, a unit each, and a comparison counts at least one.
pub record CountsAll (w : Tally) : Type 0 where
  pub allowed : w.units ≤ w.most
  pub all : 80 * (w.examined + w.remade) + w.compared ≤ w.units

-- what was done passes the limit with the piece that was refused, which is at most all parts of a state
pub record HasPassed (w : Tally) : Type 0 where
  pub passes : w.most < w.units + w.refused
  pub small : w.refused ≤ 563

-- the parts of a state: eleven registers, and of each call frame its return slot, four registers of the caller and 64
-- slots of the stack
abbrev pub parts : View → ℕ
parts a = 11 + 69 * length a.frames

-- with how many entries a state is compared, from the newest to the first that includes it
unfoldable pub comparisons : List Entry → View → ℕ
comparisons [] a = 0
comparisons (e ∷ es) a = comparisons es a + (if is_some (newest_covering es a) then 0 else 1)
