-- What a graph tells of its blocks, besides their instructions. Graphviz has the colours `oranges9`, from 1, the lightest, to 9.
use Rattle.std.specs.Prelude.{ℕ, ◌+◌, ◌-◌, ◌*◌, ◌/◌, ◌^◌, ◌==◌, min, max, List, [], ◌++◌, codes, decimal, slice_index, if◌then◌else◌}
use Rattle.apd_policies.specs.declared.graph.overlay.Overlay.{Overlay}
use Rattle.apd_policies.specs.declared.graph.overlay.Overlay.TheVariants as told

-- by each slot a number, of which a block tells its first slot's: how many steps were made there, and the most of all; or
-- how many states the verifier examined there, and by each slot a second number, the budget left there, 0 for none
pub data Told : Type 0 where
  Nothing : Told
  Steps : List ℕ → ℕ → Told
  States : List ℕ → List ℕ → Told

abbrev pub overlay_of : Overlay → Told
overlay_of told.Plain = Nothing
overlay_of (told.Steps counts most) = Steps counts.now most
overlay_of (told.States visits budgets) = States visits.now budgets.now

-- how dark a block is, by its share of the most steps: 1 to 5, or 0 without a step; 4 times a count is at most 2^64 - 1
abbrev pub level_of : ℕ → ℕ → ℕ
level_of count most = (if count == 0 then 0 else 1 + min (min (count * 4) (2 ^ 64 - 1) / max most 1) 4)

-- the colour of a level
abbrev pub fill : ℕ → List ℕ
fill level =
    (if level == 0 then codes "style=filled, fillcolor=\"white\", "
    else codes "style=filled, fillcolor=\"/oranges9/" ++ (decimal level ++ codes "\", "))

-- grey without a state
abbrev pub fill_reached : ℕ → List ℕ
fill_reached states = (if states == 0 then codes "style=filled, fillcolor=\"lightgrey\", " else [])

-- the colour of the block that begins at a slot
abbrev pub fill_of : Told → ℕ → List ℕ
fill_of Nothing slot = []
fill_of (Steps counts most) slot = fill (level_of (slice_index counts slot) most)
fill_of (States visits budgets) slot = fill_reached (slice_index visits slot)

-- the line of a budget, if there is one
abbrev pub left : ℕ → List ℕ
left budget = (if budget == 0 then [] else codes "budget left " ++ (decimal budget ++ codes "\\l"))

-- the lines of what the verifier found
abbrev pub found : ℕ → ℕ → List ℕ
found states budget = codes "states: " ++ (decimal states ++ (codes "\\l" ++ left budget))

-- its first lines
abbrev pub note_of : Told → ℕ → List ℕ
note_of Nothing slot = []
note_of (Steps counts most) slot = codes "runs: " ++ (decimal (slice_index counts slot) ++ codes "\\l")
note_of (States visits budgets) slot = found (slice_index visits slot) (slice_index budgets slot)
