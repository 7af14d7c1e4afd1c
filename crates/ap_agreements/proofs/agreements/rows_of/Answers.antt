use Rattle.std.proofs.Common.{rules}
use Rattle.std.proofs.lemmas.Iterator.{YieldsList-from_map, YieldsList-from_slice, items_from_collect}
use Rattle.ap_agreements.specs.Listing.{row_of}
use Rattle.ap_agreements.proofs.agreements.rows_of.Goals as goal

pub returns : goal.returns
returns c =
    items_from_collect _ c.collect.ensures.ran
    (YieldsList-from_map _ row_of (YieldsList-from_slice c.args.entries.now cc) c.map.ensures.closure (λ x r q k. search rules))
