use Rattle.std.proofs.Common.{rules, ap, sym, ◌∙◌, ◌≡◌, List, ◌++◌}
use Rattle.shared_maps.specs.declared.seen.Entry.{Entry}
use Rattle.shared_maps.proofs.Views.{tells, hears, follows}
use Rattle.shared_maps.proofs.table.MapTable.meet.Goals as goal

pub split_seat-told-requires : goal.split_seat-told-requires
split_seat-told-requires c = (search rules, search rules, tells c.self.inside.table.shared.key _ _)

pub join_seat-requires : goal.join_seat-requires
join_seat-requires c = (search rules, search rules, search rules, search rules, hears c.self.inside.table.shared.key _ _ _ _)

pub split_seat-told-requires-2 : goal.split_seat-told-requires-2
split_seat-told-requires-2 c = (search rules, search rules, tells c.self.inside.table.shared.key _ _)

pub join_seat-requires-2 : goal.join_seat-requires-2
join_seat-requires-2 c =
    let s = c.learn.ensures.learned.told in
    let now : c.split_seat-told-2.result.me.0.seen ≡ c.learn.new.seat.me.0.seen = ap (λ m. m.0.seen) c.split_seat-told-2.ensures.4 in
    let told : c.join_seat.new.seat.me.0.told ≡ c.split_seat-told.result.me.0.seen = ap (λ m. m.0.told) c.join_seat.ensures.2 in
    let was : c.split_seat-told.result.me.0.seen ≡ c.other.inside.seat.me.0.seen = ap (λ m. m.0.seen) c.split_seat-told.ensures.4 in
    let still : c.split_seat-told.new.seat.me.0.seen ≡ c.other.inside.seat.me.0.seen = ap (λ m. m.0.seen) c.split_seat-told.ensures.2 in (
      search rules,
      search rules,
      search rules,
      search rules,
      follows c.self.inside.table.shared.key _ _ _ _ (s.0, now ∙ (s.1 ∙ ap (λ (zs : List Entry). zs ++ s.0) (told ∙ (was ∙ sym still)))),
    )
