use Rattle.shared_maps.proofs.Views.{confirms}
use Rattle.shared_maps.proofs.steps.confirm.Goals as goal

pub load-requires : goal.load-requires
load-requires g c = (c.requires.own, c.requires.some_words, rw (c.requires.asked) (confirms c.args.table.now.shared.key _ _ _ c.args.seat.now.me))
