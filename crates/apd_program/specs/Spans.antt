-- How much of a capture is read.
use Rattle.std.specs.Prelude.{◌≡◌, ◌≤◌, ℕ, List, length, take}
use Rattle.capture.specs.Walks.{packets_in}
use Rattle.apd_program.specs.Captured.{IsCaptured}
use Rattle.apd_program.specs.declared.span.Span.{Span}

-- the bytes of a file up to an end, which hold so many packets: those of the file, or those before a cut
pub record IsSpan (file : List ℕ) (s : Span) : Type 0 where
  pub within : s.end ≤ length file
  pub counted : length (packets_in (take s.end file)) ≡ s.count
  pub captured : IsCaptured file s.cut (packets_in (take s.end file))
