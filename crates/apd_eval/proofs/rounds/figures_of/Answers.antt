use Rattle.std.proofs.Common.{◌≡◌, ◌≤◌, ◌<◌, ◌-◌, ◌/◌, ◌∙◌, length, slice_index, ap, arith, subst}
use Rattle.std.specs.List.Sorted.{IsNonDecreasing}
use Rattle.std.proofs.lemmas.List.{get_or_read}
use Rattle.std.proofs.lemmas.List.Sorted.{IsNonDecreasingBy-from_sort, length_permutation}
use Rattle.apd_eval.proofs.rounds.figures_of.Goals as goal

pub returns : goal.returns
returns c =
    let sorted = c.sort_unstable.new.self.items in
    let up : IsNonDecreasing sorted = IsNonDecreasingBy-from_sort (λ x. x) sorted c.sort_unstable.ensures.sorted in
    let many : length sorted ≡ length c.args.durations.items = length_permutation c.args.durations.items sorted c.sort_unstable.ensures.permutation in
    let some : 0 < length sorted = grind arith in
    let counted : c.len.result ≡ length sorted = grind arith in
    let middle : (length sorted - 1) / 2 < length sorted = grind arith in
    let read : (c.len.result - 1) / 2 < length sorted = grind arith in
    let first : c.index-least.result.now ≡ slice_index sorted 0 = get_or_read sorted 0 _ some c.index-least.ensures 0 in
    let second : c.index-median.result.now ≡ slice_index sorted ((length sorted - 1) / 2) =
    subst (λ n. c.index-median.result.now ≡ slice_index sorted ((n - 1) / 2)) counted (get_or_read sorted ((c.len.result - 1) / 2) _ read c.index-median.ensures 0) in
    let rises : slice_index sorted 0 ≤ slice_index sorted ((length sorted - 1) / 2) = up 0 ((length sorted - 1) / 2) 0 (omega arith) middle in
    record {
      are = record {
        durations = sorted;
        many = many;
        ordered = up;
        least = first;
        median = second ∙ ap (λ n. slice_index sorted ((n - 1) / 2)) many;
        at_most = omega (arith, first, second, rises);
      };
    }
