use Rattle.std.proofs.Common.{◌≡◌, ℕ, List, Some, ap, sym, subst, ◌∙◌, refl}
use Rattle.std.specs.Prelude.{slice_set}
use Rattle.ap_agreements.specs.Tables.{Table, Kept, key_of, IsRising, IsPlaceOf, IsPlaceFor, Sets, agreement_in}
use Rattle.ap_agreements.proofs.Places.{not_found}
use Rattle.ap_agreements.proofs.Edits.{got, key_there, after_set, after_insert, rises_insert}
use Rattle.ap_agreements.proofs.agreements.Agreements.put.Goals as goal

pub invariant_of-self-in-Err : goal.invariant_of-self-in-Err
invariant_of-self-in-Err c =
    let e = ap (λ (t : Table). t.kept) c.self.view_is in
    subst IsRising (sym c.in-Ok-insert.ensures.items)
    (rises_insert c.self.inside.entries.items c.args.self.now.kept e c.self.invariant c.args.entry.station c.args.entry.tid c.in-Err.at
    (subst (λ (p : List ℕ × ℕ). IsPlaceFor c.args.self.now.kept p c.in-Err.at) (λ i. (c.station.ensures i, c.tid.ensures i)) c.in-Err.ensures.absent) c.args.entry refl)

pub returns-in-Ok-clause-was : goal.returns-in-Ok-clause-was
returns-in-Ok-clause-was c =
    let e = ap (λ (t : Table). t.kept) c.self.view_is in
    let place = (subst (λ (p : List ℕ × ℕ). IsPlaceOf c.args.self.now.kept p c.in-Ok.at) (λ i. (c.station.ensures i, c.tid.ensures i)) c.in-Ok.ensures.found) in
    let x = c.index_mut-place.result.now in
    let f = c.index_mut-place.ensures.value in (
      subst (λ (k : Kept). agreement_in c.args.self.now.kept c.args.entry.station c.args.entry.tid ≡ Some k.using) (sym c.replace.ensures.value) (got c.self.inside.entries.items c.args.self.now.kept e c.self.invariant c.args.entry.station c.args.entry.tid c.in-Ok.at place x f),
      ap key_of c.replace.ensures.value ∙ key_there c.self.inside.entries.items c.args.self.now.kept e c.self.invariant c.args.entry.station c.args.entry.tid c.in-Ok.at place x f,
    )

pub returns-in-Ok-clause-sets : goal.returns-in-Ok-clause-sets
returns-in-Ok-clause-sets c =
    let e = ap (λ (t : Table). t.kept) c.self.view_is in
    subst (λ (k : Kept). Sets c.args.self.now.kept c.args.entry.station c.args.entry.tid (Some c.args.entry.using) (slice_set c.self.inside.entries.items c.in-Ok.at k)) (sym c.replace.ensures.after)
    (after_set c.self.inside.entries.items c.args.self.now.kept e c.self.invariant c.args.entry.station c.args.entry.tid c.in-Ok.at
    (subst (λ (p : List ℕ × ℕ). IsPlaceOf c.args.self.now.kept p c.in-Ok.at) (λ i. (c.station.ensures i, c.tid.ensures i)) c.in-Ok.ensures.found) c.args.entry refl)

pub returns-in-Ok-insert-clause-was : goal.returns-in-Ok-insert-clause-was
returns-in-Ok-insert-clause-was c =
    not_found c.args.self.now.kept c.in-Err.ensures.rising (c.args.entry.station, c.args.entry.tid) c.in-Err.at
    (subst (λ (p : List ℕ × ℕ). IsPlaceFor c.args.self.now.kept p c.in-Err.at) (λ i. (c.station.ensures i, c.tid.ensures i)) c.in-Err.ensures.absent)

pub returns-in-Ok-insert-clause-sets : goal.returns-in-Ok-insert-clause-sets
returns-in-Ok-insert-clause-sets c =
    let e = ap (λ (t : Table). t.kept) c.self.view_is in
    subst (λ (l : List Kept). Sets c.args.self.now.kept c.args.entry.station c.args.entry.tid (Some c.args.entry.using) l) (sym c.in-Ok-insert.ensures.items)
    (after_insert c.self.inside.entries.items c.args.self.now.kept e c.self.invariant c.args.entry.station c.args.entry.tid c.in-Err.at
    (subst (λ (p : List ℕ × ℕ). IsPlaceFor c.args.self.now.kept p c.in-Err.at) (λ i. (c.station.ensures i, c.tid.ensures i)) c.in-Err.ensures.absent) c.args.entry refl)
