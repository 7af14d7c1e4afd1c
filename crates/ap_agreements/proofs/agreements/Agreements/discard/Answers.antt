use Rattle.std.proofs.Common.{List, ap, subst, sym, not, rules}
use Rattle.std.proofs.lemmas.Fn.{filter_same}
use Rattle.assoc.specs.Standings.{same_address}
use Rattle.ap_agreements.specs.Tables.{Table, Kept, IsRising, Discards}
use Rattle.ap_agreements.proofs.Filters.{discarded, rises_kept}
use Rattle.ap_agreements.proofs.agreements.Agreements.discard.Goals as goal

pub invariant_of-self : goal.invariant_of-self
invariant_of-self c =
    let h = filter_same _ (λ k. not (same_address k.station c.args.station)) _ (λ x b f' k. search rules) _ _ c.retain.ensures.filtered in
    subst IsRising (sym h) (rises_kept (λ k. not (same_address k.station c.args.station)) c.self.inside.entries.items c.self.invariant)

pub returns : goal.returns
returns c =
    let h = filter_same _ (λ k. not (same_address k.station c.args.station)) _ (λ x b f' k. search rules) _ _ c.retain.ensures.filtered in
    subst (λ (l : List Kept). Discards l c.args.station c.retain.new.self.items) (ap (λ (t : Table). t.kept) c.self.view_is)
    (subst (λ (l : List Kept). Discards c.self.inside.entries.items c.args.station l) (sym h) (discarded c.args.station c.self.inside.entries.items))
