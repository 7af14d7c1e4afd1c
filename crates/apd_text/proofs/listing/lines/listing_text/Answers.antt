use Rattle.std.proofs.Common.{rules, ◌≡◌, []}
use Rattle.std.specs.String.{string_bytes}
use Rattle.apd_text.proofs.Listed.{IsListed-start, IsListed-more}
use Rattle.apd_text.proofs.listing.lines.listing_text.Goals as goal

pub loop-slot-init : goal.loop-slot-init
loop-slot-init c =
    let none : string_bytes c.new-text.result ≡ [] = search rules in
    IsListed-start _ _ none

pub loop-slot-preserved : goal.loop-slot-preserved
loop-slot-preserved c = IsListed-more _ _ _ _ c.loop-slot.invariant c.in_ok-append_slot.ensures.ok
