use Rattle.std.proofs.Common.{refl, ap, ◌∙◌}
use Rattle.ap_agreements.specs.Tables.{Kept}
use Rattle.ap_agreements.proofs.Passing.{passing_use}
use Rattle.ap_agreements.proofs.entry.Entry.pass_to.Goals as goal

pub returns-clause-uses : goal.returns-clause-uses
returns-clause-uses g c =
    let window = c.deref_mut.ensures.value ∙ ap (λ (k : Kept). k.using.window) c.self.view_is in
    let timeout = ap (λ (k : Kept). k.using.timeout) c.self.view_is in
    passing_use g.S.Sink.receives c.args.number c.args.item c.args.clock c.args.self.now.using _ c.args.out.now c.pass_to.new.out c.deref_mut.result.now c.pass_to.new.self c.number.result
    c.number.ensures.value window refl timeout refl c.pass_to.ensures.size c.pass_to.ensures.window c.pass_to.ensures.scoreboard
