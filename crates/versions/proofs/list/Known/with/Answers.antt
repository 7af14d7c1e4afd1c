use Rattle.std.proofs.Common.{◌≡◌, ◌+◌, ◌∙◌, ◌++◌, ◌∷◌, [], ap, arith, length, refl, Some, subst, sym}
use Rattle.versions.specs.declared.list.Entry.TheVariants.{Loaded}
use Rattle.versions.specs.Lists.{Beginning, IsWritten, loads_of, shapes_of}
use Rattle.versions.specs.Sets.{Fits}
use Rattle.versions.specs.Wishes.{wish}
use Rattle.versions.proofs.Beginnings.{added_is, length-loads_of, written_more}
use Rattle.versions.proofs.list.Known.with.Goals as goal

pub invariant_of-result : goal.invariant_of-result
invariant_of-result c =
    let before = c.self.inside.entries.entries in
    let new = wish c.args.wanted.now in
    let is : c.add_on.new.known.entries ≡ before ++ Loaded new ∷ [] =
    ap (λ k. k.entries) (c.if-not-add_on.ensures.added refl) ∙ ap (λ k. k.entries ++ Loaded new ∷ []) c.again-entries.ensures in
    let fits : Fits (shapes_of before) new = subst (λ (k : Beginning). Fits k.shapes new) (sym c.self.view_is) c.requires.fits in
    subst IsWritten (sym is) (written_more before new c.self.invariant fits)

pub returns-clause-turn : goal.returns-clause-turn
returns-clause-turn c =
    let prepared = c.if-not-add_on.ensures.author refl in
    let after = c.add_on.new.known.entries in
    let next : length after + 1 ≡ length (loads_of after) + 2 = omega (arith, length-loads_of after (invariant_of-result c)) in
    record { same_list = prepared.same_journal; next = prepared.next ∙ ap Some next }

pub returns-clause-added : goal.returns-clause-added
returns-clause-added c =
    let before = c.self.inside.entries in
    let new = wish c.args.wanted.now in
    let grown = (c.if-not-add_on.ensures.added refl) in
    let is : c.add_on.new.known.entries ≡ before.entries ++ Loaded new ∷ [] =
    ap (λ k. k.entries) grown ∙ ap (λ k. k.entries ++ Loaded new ∷ []) c.again-entries.ensures in
    let same : c.add_on.new.known.journal ≡ before.journal = ap (λ k. k.journal) grown ∙ ap (λ k. k.journal) c.again-entries.ensures in
    added_is c.args.self.now before.journal c.add_on.new.known.journal before.entries c.add_on.new.known.entries new c.self.view_is same is c.self.invariant
