use Rattle.std.proofs.Common.{ap, ◌+◌, ◌≤◌}
use Rattle.std.specs.Prelude.{true}
use Rattle.blockack.specs.Reading.{IsWanted, numbers_held}
use Rattle.ap_agreements.specs.Tables.{Table}
use Rattle.ap_agreements.specs.Uses.{DataUse}
use Rattle.ap_agreements.proofs.Edits.{done_to, holds_of}
use Rattle.ap_agreements.proofs.agreements.Agreements.pass_to.Goals as goal

pub pass_to-requires-clause-wanted : goal.pass_to-requires-clause-wanted
pass_to-requires-clause-wanted g c =
    let e = ap (λ (t : Table). t.kept) c.self.view_is in
    let x = c.index_mut-entry.result.now in
    holds_of (λ k. IsWanted k.using.window c.args.number) c.self.inside.entries.items c.args.self.now.kept e c.args.at x c.index_mut-entry.ensures.value (c.requires.wanted x)

pub pass_to-requires-clause-room : goal.pass_to-requires-clause-room
pass_to-requires-clause-room g c =
    let e = ap (λ (t : Table). t.kept) c.self.view_is in
    let x = c.index_mut-entry.result.now in
    holds_of (λ k. numbers_held k.using.window + 1 ≤ g.S.Sink.room c.args.out.now) c.self.inside.entries.items c.args.self.now.kept e c.args.at x c.index_mut-entry.ensures.value (c.requires.room x)

pub returns : goal.returns
returns g c = λ a tid place.
    let e = ap (λ (t : Table). t.kept) c.self.view_is in
    let p = c.pass_to.ensures.uses in
    record {
      passed = p.passed;
      uses = done_to c.self.inside.entries.items c.args.self.now.kept e c.self.invariant a tid c.args.at place (λ old new. DataUse true c.args.number c.args.item c.args.clock old new p.passed)
          c.index_mut-entry.result.now c.pass_to.new.self c.index_mut-entry.ensures.value c.pass_to.ensures.key p.uses;
      received = p.received;
    }
