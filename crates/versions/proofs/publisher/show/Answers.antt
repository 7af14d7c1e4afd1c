use Rattle.std.proofs.Common.{sym}
use Rattle.versions.proofs.Tying.{shows}
use Rattle.versions.proofs.publisher.show.Goals as goal

pub publish_as-after-requires : goal.publish_as-after-requires
publish_as-after-requires g c next is =
    let last = c.loop.invariant.0 in
    shows _ _ c.loop.writer.desk.shown.value next c.args.known.now _ last.0 last.1 (sym c.loop.invariant.1) is
