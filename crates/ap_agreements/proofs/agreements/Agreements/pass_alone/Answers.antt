use Rattle.std.proofs.Common.{ap}
use Rattle.blockack.specs.Reading.{IsAlone}
use Rattle.ap_agreements.specs.Tables.{Table}
use Rattle.ap_agreements.specs.Uses.{AloneUse}
use Rattle.ap_agreements.proofs.Edits.{done_to, holds_of}
use Rattle.ap_agreements.proofs.agreements.Agreements.pass_alone.Goals as goal

pub pass_alone-requires : goal.pass_alone-requires
pass_alone-requires c =
    let e = ap (λ (t : Table). t.kept) c.self.view_is in
    let x = c.index_mut-entry.result.now in
    holds_of (λ k. IsAlone k.using.window c.args.number) c.self.inside.entries.items c.args.self.now.kept e c.args.at x c.index_mut-entry.ensures.value (c.requires.alone x)

pub returns : goal.returns
returns c = λ a tid place.
    let e = ap (λ (t : Table). t.kept) c.self.view_is in
    done_to c.self.inside.entries.items c.args.self.now.kept e c.self.invariant a tid c.args.at place (λ old new. AloneUse c.args.number c.args.clock old new)
    c.index_mut-entry.result.now c.pass_alone.new.self c.index_mut-entry.ensures.value c.pass_alone.ensures.key c.pass_alone.ensures.uses
