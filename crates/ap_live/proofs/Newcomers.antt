-- What a new token has.
use Rattle.std.proofs.Common.{◌≡◌, ℕ, ap}
use Rattle.ap_books.specs.Counts.{Counts, none, plus}
use Rattle.ap_books.specs.Holdings.{HasParts}
use Rattle.ap_locked.specs.Tokens.{Token}
use Rattle.ap_shards.specs.Tokens.{Eight, IsNewcomer, holding_of}
use Rattle.ap_live.specs.Counting.{counted_by}

abbrev parts_in : Token → ℕ
parts_in t = t.portion.parts

abbrev counts_in : Token → Counts
counts_in t = t.portion.counts

-- one part of each ledger
pub newcomer_parts : (a u : Eight) → IsNewcomer a u → HasParts 1 (holding_of u)
newcomer_parts a u n = (ap parts_in n.0, ap parts_in n.1, ap parts_in n.2, ap parts_in n.3, ap parts_in n.4, ap parts_in n.5, ap parts_in n.6, ap parts_in n.7)

-- and it has counted nothing
pub newcomer_counts : (a u : Eight) → IsNewcomer a u → counted_by u ≡ none
newcomer_counts a u n i =
    plus (plus (plus (plus (plus (plus (plus (ap counts_in n.0 i) (ap counts_in n.1 i)) (ap counts_in n.2 i)) (ap counts_in n.3 i))
    (ap counts_in n.4 i)) (ap counts_in n.5 i)) (ap counts_in n.6 i)) (ap counts_in n.7 i)
