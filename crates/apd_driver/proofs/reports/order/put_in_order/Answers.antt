use Rattle.std.proofs.Common.{rules}
use Rattle.std.proofs.lemmas.List.Sorted.{answers_always}
use Rattle.apd_driver.specs.Order.{place}
use Rattle.apd_driver.proofs.reports.order.put_in_order.Goals as goal

pub returns-clause-ordered : goal.returns-clause-ordered
returns-clause-ordered c =
    let keys = answers_always _ _ _ (λ f a r g h. search rules) in
    let sort = c.in_ok-sort_by_key.ensures in
    record {
      same = sort.permutation;
      sorted = sort.sorted place keys;
      stable = sort.stable place keys;
    }
