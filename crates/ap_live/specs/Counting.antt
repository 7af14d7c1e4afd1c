-- What is reported counts.
use Rattle.std.specs.Prelude.{◌≡◌, List, [], ◌∷◌}
use Rattle.ap_books.specs.Counts.{Counts, none, plus, counts_of}
use Rattle.ap_books.specs.Holdings.{sum_of}
use Rattle.ap_shards.specs.Tokens.{Eight, EachOf, holding_of}
use Rattle.ap_shards.specs.declared.fate.Fate.{Fate}
use Rattle.ap_shards.specs.declared.fate.Fate.TheVariants.{Decided, Refused, NotHandled}
use Rattle.ap_live.specs.declared.tagged.Tagged.{Tagged}

-- what the fate of one event counts: nothing, unless it was decided
abbrev pub fate_counts : Fate → Counts
fate_counts (Decided outs dropped) = counts_of outs.items dropped
fate_counts Refused = none
fate_counts NotHandled = none

-- the sum for all of these reports
unfoldable pub tally : List Tagged → Counts
tally [] = none
tally (t ∷ ts) = plus (fate_counts t.fate) (tally ts)

-- what the parts of the ledgers of all shards have counted
abbrev pub counted_by : Eight → Counts
counted_by e = sum_of (holding_of e)

-- equally many parts of each ledger
abbrev pub KeepParts : Eight → Eight → Type 0
KeepParts a b = EachOf (λ t u. u.portion.parts ≡ t.portion.parts) a b
