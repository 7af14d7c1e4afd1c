use Rattle.std.proofs.Common.{ap}
use Rattle.std.specs.Prelude.{true, []}
use Rattle.blockack.specs.Reading.{IsWaiting}
use Rattle.ap_agreements.specs.Tables.{Table}
use Rattle.ap_agreements.specs.Uses.{DataUse}
use Rattle.ap_agreements.proofs.Edits.{done_to, holds_of}
use Rattle.ap_agreements.proofs.agreements.Agreements.hold.Goals as goal

pub hold-requires : goal.hold-requires
hold-requires c =
    let e = ap (λ (t : Table). t.kept) c.self.view_is in
    let x = c.index_mut-entry.result.now in
    holds_of (λ k. IsWaiting k.using.window c.args.number) c.self.inside.entries.items c.args.self.now.kept e c.args.at x c.index_mut-entry.ensures.value (c.requires.waits x)

pub returns : goal.returns
returns c = λ a tid place.
    let e = ap (λ (t : Table). t.kept) c.self.view_is in
    done_to c.self.inside.entries.items c.args.self.now.kept e c.self.invariant a tid c.args.at place (λ old new. DataUse true c.args.number c.args.item c.args.clock old new [])
    c.index_mut-entry.result.now c.hold.new.self c.index_mut-entry.ensures.value c.hold.ensures.key c.hold.ensures.uses
