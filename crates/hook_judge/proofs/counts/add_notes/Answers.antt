use Rattle.std.proofs.Common.{◌≤◌, ℕ, List, length, subst}
use Rattle.hook_judge.proofs.Newest.{newest_none}
use Rattle.hook_judge.proofs.counts.add_notes.Goals as goal

pub returns-then-is_empty : goal.returns-then-is_empty
returns-then-is_empty c =
    let few : length c.args.notes.now.items ≤ 16 = subst (λ (l : List ℕ). length l ≤ 16) c.as_slice-before.ensures.value c.as_slice-before.ensures.fits in
    record { are = newest_none _ _ _ few c.is_empty.ensures c.if-is_empty.true }
