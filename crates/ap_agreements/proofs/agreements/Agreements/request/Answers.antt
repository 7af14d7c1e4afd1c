use Rattle.std.proofs.Common.{ap, subst, ◌∙◌, ◌≤◌}
use Rattle.arrayvec.specs.ArrayVec.{array_vec_len}
use Rattle.blockack.specs.Reading.{numbers_held}
use Rattle.ap_model.specs.Readings.{Using}
use Rattle.ap_agreements.specs.Tables.{Kept, Table}
use Rattle.ap_agreements.specs.Uses.{RequestUse}
use Rattle.ap_agreements.proofs.Edits.{was, key_there, after_set, read_at}
use Rattle.ap_agreements.proofs.agreements.Agreements.request.Goals as goal

pub returns-clause-uses : goal.returns-clause-uses
returns-clause-uses c = λ a tid place u g.
    let e = ap (λ (t : Table). t.kept) c.self.view_is in
    let x = c.index_mut-entry.result.now in
    let f = c.index_mut-entry.ensures.value in
    let w = was c.self.inside.entries.items c.args.self.now.kept e c.self.invariant a tid c.args.at place x f u g in
    let k = key_there c.self.inside.entries.items c.args.self.now.kept e c.self.invariant a tid c.args.at place x f in (
      c.request.new.self.using,
      subst (λ (v : Using). RequestUse c.args.start c.args.clock v c.request.new.self.using c.request.new.out.items) w c.request.ensures.uses,
      after_set c.self.inside.entries.items c.args.self.now.kept e c.self.invariant a tid c.args.at place c.request.new.self (c.request.ensures.key ∙ k),
      c.scoreboard.ensures.start,
      c.scoreboard.ensures.bits,
    )

pub returns-clause-few : goal.returns-clause-few
returns-clause-few c = λ d.
    let e = ap (λ (t : Table). t.kept) c.self.view_is in
    let x = c.index_mut-entry.result.now in
    let f = c.index_mut-entry.ensures.value in
    subst (λ (k : Kept). array_vec_len c.request.new.out ≤ numbers_held k.using.window)
    (read_at c.self.inside.entries.items c.args.self.now.kept e c.args.at c.requires.inside x f d) c.request.ensures.few
