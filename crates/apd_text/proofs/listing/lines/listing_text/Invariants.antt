-- The lines so far are those of the slots so far.
use Rattle.std.specs.String.{string_bytes}
use Rattle.apd_text.specs.Listing.{IsListed}
use Rattle.apd_text.proofs.listing.lines.listing_text.Given as goal

abbrev pub invariant-loop-slot : goal.invariant-loop-slot
invariant-loop-slot l = IsListed l.program.slots l.slot (string_bytes l.text)
