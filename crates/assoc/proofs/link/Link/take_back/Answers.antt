use Rattle.std.proofs.Common.{◌≤◌, arith, ap, ◌∙◌, sym, subst, hash_map_len}
use Rattle.std.proofs.lemmas.Grind.{common_steps}
use Rattle.assoc.specs.Standings.{standing}
use Rattle.assoc.specs.Sound.{IsSound}
use Rattle.assoc.proofs.Tables.{back_sound}
use Rattle.assoc.proofs.link.Link.take_back.Goals as goal

pub invariant_of-self : goal.invariant_of-self
invariant_of-self c =
    let before = ap (λ v. standing v c.args.station) c.self.view_is ∙ c.requires in
    let few : hash_map_len c.insert.new.self ≤ 512 = (let o = c.self.invariant.few in let l = c.in-Ok.ensures.len in let e = c.in-Ok.ensures.old in grind (arith, common_steps, before)) in
    subst (IsSound _ _ _) (sym c.free.ensures)
    (back_sound _ _ _ _ c.args.station c.args.aid _ _ c.self.invariant before c.in-Ok.ensures.updates.0 few)
