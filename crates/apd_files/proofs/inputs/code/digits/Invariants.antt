-- The part of the file so far is read, and its digits are collected.
use Rattle.std.proofs.Common.{◌-◌, ◌+◌, ◌≡◌, List, ℕ, length}
use Rattle.apd_files.specs.Reading.{IsRead, Collects}
use Rattle.apd_files.proofs.inputs.code.digits.Given as goal

abbrev pub invariant-loop-seen : goal.invariant-loop-seen
invariant-loop-seen g l = (front : List ℕ)
    × IsRead front (g.F.Files.held l.initial.files l.path) (g.F.Files.left l.files)
    × Collects l.most front l.digits.items
    × (length front ≡ l.seen)
    × (g.F.Files.held l.files ≡ g.F.Files.held l.initial.files)

abbrev pub decreases-loop-seen : goal.decreases-loop-seen
decreases-loop-seen g l = l.longest + 1 - l.seen
