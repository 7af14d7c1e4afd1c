use Rattle.std.proofs.Common.{rules, arith, ◌∙◌, ap, ◌≡◌, ◌+◌, suc}
use Rattle.shared_maps.specs.Kept.{numbering}
use Rattle.shared_maps.proofs.Views.{numbers}
use Rattle.shared_maps.proofs.table.MapTable.seat.Goals as goal

pub split_seat-seat-requires : goal.split_seat-seat-requires
split_seat-seat-requires c =
    let i = c.self.invariant.1 in
    let k : c.self.inside.given + 1 ≡ suc c.self.inside.given = omega arith in
    let taken = rw c.in-Some.is at c.take-found.ensures.seat in
    (search rules, c.self.invariant.0.some_words, numbers c.self.inside.table.shared.key _ c.self.inside.given _ (ap (λ m. m.0) taken.1 ∙ (i.view ∙ ap numbering k)))
