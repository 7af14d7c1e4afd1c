use Rattle.std.proofs.Common.{◌≡◌, ◌≤◌, Some, arith, ap, ◌∙◌, sym, subst, hash_map_len}
use Rattle.std.proofs.lemmas.Grind.{common_steps}
use Rattle.assoc.specs.declared.standing.Known.TheVariants.{Authenticated, Associated}
use Rattle.assoc.specs.Standings.{standing, IsFree}
use Rattle.assoc.specs.Sound.{IsSound}
use Rattle.assoc.proofs.Tables.{grant_sound}
use Rattle.assoc.proofs.link.Link.grant.Goals as goal

pub invariant_of-self : goal.invariant_of-self
invariant_of-self c =
    let before = ap (λ v. standing v c.args.station) c.self.view_is ∙ c.requires.known in
    let few : hash_map_len c.insert.new.self ≤ 512 = (let o = c.self.invariant.few in let l = c.in-Ok.ensures.len in let e = c.in-Ok.ensures.old in grind (arith, common_steps, before)) in
    let free = subst (λ v. IsFree v.shard (standing v) c.args.station c.args.aid) (sym c.self.view_is) c.requires.free in
    subst (IsSound _ _ _) (sym c.give.ensures.is)
    (grant_sound _ _ _ _ c.args.station c.args.aid _ _ c.self.invariant c.give.ensures.whole (λ k e. let w : Some Authenticated ≡ Some (Associated k) = sym before ∙ e in cc) free c.in-Ok.ensures.updates.0 few)
