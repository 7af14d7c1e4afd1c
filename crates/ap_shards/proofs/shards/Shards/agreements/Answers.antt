use Rattle.std.proofs.Common.{rules, subst}
use Rattle.std.proofs.lemmas.List.Sorted.{answers_always}
use Rattle.ap_core.specs.Listing.{ListsAgreements, MergesAgreements}
use Rattle.ap_shards.specs.Listing.{Shows}
use Rattle.ap_shards.specs.Tokens.{Eight}
use Rattle.ap_shards.proofs.Rows.{eight_listed}
use Rattle.ap_shards.proofs.shards.Shards.agreements.Goals as goal

pub returns-clause-shown : goal.returns-clause-shown
returns-clause-shown g c =
    let keys = answers_always _ _ _ (λ f a r g h. search rules) in
    let sort = c.sort_unstable_by_key.ensures in
    let old : Eight = record { of0 = c.mine.inside.of0; of1 = c.mine.inside.of1; of2 = c.mine.inside.of2; of3 = c.mine.inside.of3; of4 = c.mine.inside.of4; of5 = c.mine.inside.of5; of6 = c.mine.inside.of6; of7 = c.mine.inside.of7 } in
    let new : Eight =
    record { of0 = c.agreements_under-rows.new.mine; of1 = c.agreements_under-rows-2.new.mine; of2 = c.agreements_under-rows-3.new.mine; of3 = c.agreements_under-rows-4.new.mine; of4 = c.agreements_under-rows-5.new.mine; of5 = c.agreements_under-rows-6.new.mine; of6 = c.agreements_under-rows-7.new.mine; of7 = c.agreements_under.new.mine } in
    let listed =
    eight_listed ListsAgreements g.B.Journals.config old new c.new.result
    c.agreements_under-rows.result c.agreements_under-rows-2.result c.agreements_under-rows-3.result c.agreements_under-rows-4.result c.agreements_under-rows-5.result c.agreements_under-rows-6.result c.agreements_under-rows-7.result
    c.in_ok-rows.rows c.new.ensures.items
    c.agreements_under-rows.ensures.added c.agreements_under-rows-2.ensures.added c.agreements_under-rows-3.ensures.added c.agreements_under-rows-4.ensures.added c.agreements_under-rows-5.ensures.added c.agreements_under-rows-6.ensures.added c.agreements_under-rows-7.ensures.added
    c.in_ok-rows.ensures.added in
    subst (λ (e : Eight). Shows MergesAgreements g.B.Journals.config e new c.sort_unstable_by_key.new.self.items) c.mine.view_is
    (record {
      readings = listed.readings;
      looks = listed.looks;
      merges = record { joined = c.in_ok-rows.rows.items; joins = listed.joins; same = sort.permutation; ordered = sort.sorted (λ row. (row.station, row.tid)) keys };
    })
