-- What a capture begins with.
use Rattle.std.proofs.Common.{◌≡◌, ℕ, List, ◌++◌, Option, Some, None, ap, ◌∙◌, inr}
use Rattle.std.specs.Io.KnownBytes.{Appends}
use Rattle.capture.specs.Writing.{heading}
use Rattle.apd_files.specs.Tapes.{IsEmpty}
use Rattle.apd_driver.specs.Capturing.{Begins, IsHeading, IsKnown}

heading_alone : (mid new : Option (List ℕ)) (time : ℕ) → IsKnown (Some (mid, time)) → IsEmpty mid → Appends mid new heading → IsHeading new
heading_alone None new time known empty h = absurd known
heading_alone (Some bytes) None time known empty h = absurd h
heading_alone (Some bytes) (Some more) time known empty h = h ∙ ap (λ (l : List ℕ). l ++ heading) empty

-- a new file has it alone
pub begins_new : (old mid new : Option (List ℕ)) (time time2 : ℕ) → IsKnown (Some (mid, time)) → IsEmpty mid → Appends mid new heading → time2 ≡ time → Begins (Some (old, time)) (Some (new, time2))
begins_new old mid new time time2 known empty h same = (inr (heading_alone mid new time known empty h), same)
