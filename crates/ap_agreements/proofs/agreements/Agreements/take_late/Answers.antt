use Rattle.std.proofs.Common.{◌≡◌, List, ap, sym, subst, ◌∙◌, map}
use Rattle.std.proofs.lemmas.List.Sums.{length-filter}
use Rattle.std.specs.Prelude.{length, count_by, AllPairs, Contains, ◌↔◌}
use Rattle.ap_model.specs.Steps.{IsBefore}
use Rattle.blockack.specs.Reading.{numbers_held}
use Rattle.ap_agreements.specs.Tables.{Table, Kept, key_of, IsRising, IsLateIn, agreement_in, unless_late, all_held, late_held}
use Rattle.ap_agreements.proofs.Late.{sum_passing}
use Rattle.ap_agreements.proofs.Filters.{late, timely, stay, exactly_late, late_rise, rises_kept}
use Rattle.ap_agreements.proofs.agreements.Agreements.take_late.Goals as goal

pub invariant_of-self : goal.invariant_of-self
invariant_of-self c = subst IsRising (sym c.split_late.ensures.kept) (rises_kept (timely c.args.clock) c.self.inside.entries.items c.self.invariant)

pub returns-clause-rising : goal.returns-clause-rising
returns-clause-rising c =
    subst (λ (l : List Kept). AllPairs IsBefore (map key_of l)) (sym c.split_late.ensures.ended) (late_rise c.args.clock c.self.inside.entries.items c.self.invariant)

pub returns-clause-exact : goal.returns-clause-exact
returns-clause-exact c = λ k.
    let e = ap (λ (t : Table). t.kept) c.self.view_is in
    subst (λ (l : List Kept). Contains c.split_late.new.ended.items k ↔ IsLateIn c.args.clock l k) e
    (subst (λ (l : List Kept). Contains l k ↔ IsLateIn c.args.clock c.self.inside.entries.items k) (sym c.split_late.ensures.ended)
    (exactly_late c.args.clock c.self.inside.entries.items c.self.invariant k))

pub returns-clause-others : goal.returns-clause-others
returns-clause-others c = λ a tid.
    let e = ap (λ (t : Table). t.kept) c.self.view_is in
    subst (λ (l : List Kept). agreement_in c.split_late.new.entries.items a tid ≡ unless_late c.args.clock (agreement_in l a tid)) e
    (subst (λ (l : List Kept). agreement_in l a tid ≡ unless_late c.args.clock (agreement_in c.self.inside.entries.items a tid)) (sym c.split_late.ensures.kept)
    (stay c.args.clock c.self.inside.entries.items c.self.invariant a tid))

pub returns-clause-many : goal.returns-clause-many
returns-clause-many c =
    let e = ap (λ (t : Table). t.kept) c.self.view_is in
    c.split_late.new.ended.ok.0 ∙ ap length c.split_late.ensures.ended ∙ length-filter (late c.args.clock) c.self.inside.entries.items ∙ ap (λ (l : List Kept). count_by (late c.args.clock) l) e

pub returns-clause-held : goal.returns-clause-held
returns-clause-held c =
    let e = ap (λ (t : Table). t.kept) c.self.view_is in
    ap (λ (l : List Kept). all_held l) c.split_late.ensures.ended
    ∙ sum_passing (late c.args.clock) (λ (k : Kept). numbers_held k.using.window) c.self.inside.entries.items
    ∙ ap (λ (l : List Kept). late_held c.args.clock l) e
