use Rattle.std.proofs.Common.{◌≡◌, ◌+◌, ◌-◌, ◌∙◌, ℕ, ap, arith, refl, subst, sym}
use Rattle.ap_shards.specs.Pages.{AreNewPages, HasPages}
use Rattle.ap_live.specs.Tokens.{Left}
use Rattle.ap_live.proofs.Rest.{new_count}
use Rattle.ap_live.proofs.tokens.LeftTokens.into_all.Goals as goal

pub returns-clause-count : goal.returns-clause-count
returns-clause-count g c =
    let parts = c.self.inside.parts in
    let one : HasPages 1 c.into_parts-shares.result.1 = subst (HasPages 1) (sym c.into_parts-shares.ensures.pages) (refl, refl, refl, refl, refl, refl, refl, refl) in
    let rest : HasPages (parts - 1) c.into_inner-2.result = subst (HasPages (parts - 1)) (sym c.into_inner-2.ensures) (new_count (parts - 1) c.self.inside.pages.value c.self.invariant.1) in
    let all : 1 + (parts - 1) ≡ parts = omega (arith, c.self.invariant.2) in
    subst (λ (n : ℕ). HasPages n c.merge.new.self) (all ∙ ap (λ (l : Left). l.parts) c.self.view_is) (c.merge.ensures.count 1 (parts - 1) one rest)

pub returns-clause-new : goal.returns-clause-new
returns-clause-new g c = subst (λ (l : Left). AreNewPages (l.parts - 1) l.pages) c.self.view_is c.self.invariant.1
