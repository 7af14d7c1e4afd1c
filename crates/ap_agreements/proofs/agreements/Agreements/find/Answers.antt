use Rattle.std.proofs.Common.{ℕ, List, length, rules, ap, ◌∙◌, sym, subst}
use Rattle.std.specs.Prelude.{IfOk, IfErr}
use Rattle.std.proofs.lemmas.Fn.{always_returns_same}
use Rattle.ap_agreements.specs.Tables.{Kept, key_cmp, key_of, Table, IsRising, IsPlaceOf, IsPlaceFor}
use Rattle.ap_agreements.proofs.Places.{place_of, place_for, in_range, in_reach}
use Rattle.ap_agreements.proofs.agreements.Agreements.find.Goals as goal

pub returns-clause-found : goal.returns-clause-found
returns-clause-found c =
    let e = c.deref.ensures.value ∙ ap (λ (t : Table). t.kept) c.self.view_is in
    let key : List ℕ × ℕ = c.new-key.result in
    let b = c.binary_search_by.ensures.position (λ y. key_cmp (key_of y) key) (always_returns_same _ _ _ (λ a r f' k. search rules)) in
    subst (λ (k : List ℕ × ℕ). IfOk c.binary_search_by.result (IsPlaceOf c.args.self.now.kept k)) c.new-key.ensures
    (subst (λ (l : List Kept). IfOk c.binary_search_by.result (IsPlaceOf l key)) e
    (place_of c.deref.result.now key c.binary_search_by.result b (in_range c.binary_search_by.result (length c.deref.result.now) c.binary_search_by.ensures.bound)))

pub returns-clause-absent : goal.returns-clause-absent
returns-clause-absent c =
    let e = c.deref.ensures.value ∙ ap (λ (t : Table). t.kept) c.self.view_is in
    let key : List ℕ × ℕ = c.new-key.result in
    let b = c.binary_search_by.ensures.position (λ y. key_cmp (key_of y) key) (always_returns_same _ _ _ (λ a r f' k. search rules)) in
    subst (λ (k : List ℕ × ℕ). IfErr c.binary_search_by.result (IsPlaceFor c.args.self.now.kept k)) c.new-key.ensures
    (subst (λ (l : List Kept). IfErr c.binary_search_by.result (IsPlaceFor l key)) e
    (place_for c.deref.result.now key c.binary_search_by.result (subst IsRising (sym c.deref.ensures.value) c.self.invariant) b (in_reach c.binary_search_by.result (length c.deref.result.now) c.binary_search_by.ensures.bound)))

pub returns-clause-rising : goal.returns-clause-rising
returns-clause-rising c = subst IsRising (ap (λ (t : Table). t.kept) c.self.view_is) c.self.invariant
