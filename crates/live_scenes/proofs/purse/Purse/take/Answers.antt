use Rattle.std.proofs.Common.{subst, sym}
use Rattle.ap_books.specs.Holdings.{HasParts}
use Rattle.live_scenes.proofs.Keeping.{one_more_part}
use Rattle.live_scenes.proofs.purse.Purse.take.Goals as goal

pub invariant_of-self : goal.invariant_of-self
invariant_of-self g c =
    let was = c.args.self.now in
    record { so_many = one_more_part was.parts c.deref_mut.result.now c.args.part c.merge.new.self (subst (HasParts was.parts) (sym c.deref_mut.ensures.value) was.so_many) c.requires c.merge.ensures }
