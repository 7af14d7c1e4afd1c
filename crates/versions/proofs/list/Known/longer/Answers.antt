use Rattle.std.proofs.Common.{refl}
use Rattle.versions.proofs.Beginnings.{begins_of}
use Rattle.versions.proofs.list.Known.longer.Goals as goal

pub returns-clause-this : goal.returns-clause-this
returns-clause-this c =
    let begins = c.longer-entries.ensures.this in
    begins_of c.args.self.now _ _ _ _ _ c.self.view_is refl begins.same_journal c.self.invariant begins.has_all

pub returns-clause-that : goal.returns-clause-that
returns-clause-that c =
    let begins = c.longer-entries.ensures.that in
    begins_of c.args.other.now _ _ _ _ _ c.other.view_is refl begins.same_journal c.other.invariant begins.has_all
