-- The bytes are those of the file that were read.
use Rattle.std.proofs.Common.{◌-◌, ◌+◌, ◌≡◌, length}
use Rattle.apd_files.specs.Reading.{IsRead}
use Rattle.apd_files.proofs.inputs.files.read_whole.Given as goal

abbrev pub invariant-loop-files : goal.invariant-loop-files
invariant-loop-files g l = IsRead l.bytes.items (g.F.Files.held l.initial.files l.path) (g.F.Files.left l.files)
    × (g.F.Files.held l.files ≡ g.F.Files.held l.initial.files)

abbrev pub decreases-loop-files : goal.decreases-loop-files
decreases-loop-files g l = l.most + 1 - length l.bytes.items
