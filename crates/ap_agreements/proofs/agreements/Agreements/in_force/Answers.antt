use Rattle.std.proofs.Common.{◌∙◌, ap, sym, subst, map, List}
use Rattle.std.proofs.lemmas.Result.{IfOk-weaker}
use Rattle.ap_agreements.specs.declared.in_force.AgreementInForce.{AgreementInForce}
use Rattle.ap_agreements.specs.Tables.{Table, agreement_in}
use Rattle.ap_agreements.specs.Listing.{ListsAgreements, row_of}
use Rattle.ap_agreements.proofs.Listing.{lists}
use Rattle.ap_agreements.proofs.agreements.Agreements.in_force.Goals as goal

pub returns : goal.returns
returns c =
    IfOk-weaker c.rows_of.result _ _
    (λ rows is.
    let listed = subst (λ (t : Table). ListsAgreements (agreement_in t.kept) (map row_of c.self.inside.entries.items)) c.self.view_is (lists c.self.inside.entries.items c.self.invariant) in
    subst (λ (l : List AgreementInForce). ListsAgreements (agreement_in c.args.self.now.kept) l) (sym (is ∙ ap (map row_of) c.deref.ensures.value)) listed)
    c.rows_of.ensures
