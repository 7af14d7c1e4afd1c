use Rattle.std.proofs.Common.{ap}
use Rattle.std.specs.Prelude.{false, [], None}
use Rattle.blockack.specs.Reading.{IsWanted}
use Rattle.ap_agreements.specs.Tables.{Table}
use Rattle.ap_agreements.specs.Uses.{DataUse}
use Rattle.ap_agreements.proofs.Edits.{done_to, holds_of}
use Rattle.ap_agreements.proofs.agreements.Agreements.leave.Goals as goal

pub leave-requires : goal.leave-requires
leave-requires c =
    let e = ap (λ (t : Table). t.kept) c.self.view_is in
    let x = c.index_mut-entry.result.now in
    holds_of (λ k. IsWanted k.using.window c.args.number → ⊥) c.self.inside.entries.items c.args.self.now.kept e c.args.at x c.index_mut-entry.ensures.value (c.requires.unwanted x)

pub returns : goal.returns
returns c = λ a tid place.
    let e = ap (λ (t : Table). t.kept) c.self.view_is in
    done_to c.self.inside.entries.items c.args.self.now.kept e c.self.invariant a tid c.args.at place (λ old new. DataUse false c.args.number None c.args.clock old new [])
    c.index_mut-entry.result.now c.leave.new.self c.index_mut-entry.ensures.value c.leave.ensures.key c.leave.ensures.uses
