use Rattle.versions.proofs.Beginnings.{begins_of}
use Rattle.versions.proofs.list.Known.look.Goals as goal

pub returns-clause-has_all : goal.returns-clause-has_all
returns-clause-has_all c =
    let begins = c.look.ensures.has_all in
    begins_of c.args.other.now c.args.self.now _ _ _ _ c.other.view_is c.self.view_is begins.same_journal c.other.invariant begins.has_all
