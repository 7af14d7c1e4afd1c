use Rattle.shared_maps.proofs.Views.{learns}
use Rattle.shared_maps.proofs.steps.learn.Goals as goal

pub load-requires : goal.load-requires
load-requires g c = (c.requires.own, c.requires.some_words, rw (c.requires.asked) (learns c.args.table.now.shared.key _ _ _ c.args.seat.now.me))
