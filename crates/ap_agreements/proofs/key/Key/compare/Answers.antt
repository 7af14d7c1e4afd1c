use Rattle.std.proofs.Common.{ℕ, List, ap, ◌∙◌}
use Rattle.ap_agreements.specs.Tables.{key_cmp}
use Rattle.ap_agreements.proofs.Ranks.{ranks_decide}
use Rattle.ap_agreements.proofs.key.Key.compare.Goals as goal

pub returns : goal.returns
returns c =
    let decided = ranks_decide c.self.inside.station c.other.inside.station c.self.inside.tid c.other.inside.tid c.self.inside.rank c.other.inside.rank c.self.invariant c.other.invariant in
    c.cmp.ensures ∙ decided
    ∙ ap (λ (k : List ℕ × ℕ). key_cmp k (c.other.inside.station, c.other.inside.tid)) c.self.view_is
    ∙ ap (λ (k : List ℕ × ℕ). key_cmp c.args.self.now k) c.other.view_is
