use Rattle.std.proofs.Common.{◌≤◌, None, cond, arith, ap, ◌∙◌, sym, hash_map_len}
use Rattle.std.proofs.lemmas.Grind.{common_steps}
use Rattle.assoc.specs.Standings.{standing, same_address}
use Rattle.assoc.proofs.Tables.{plain_sound}
use Rattle.assoc.proofs.link.Link.strike.Goals as goal

pub invariant_of-self : goal.invariant_of-self
invariant_of-self c =
    let few : hash_map_len c.remove.new.self ≤ 512 = (let o = c.self.invariant.few in let l = c.remove.ensures.len in grind (arith, common_steps)) in
    plain_sound _ _ _ _ c.args.station _ None _ c.self.invariant (λ n e. c.requires n (ap (λ v. standing v c.args.station) (sym c.self.view_is) ∙ e)) (λ n e. cc) c.remove.ensures.updates.0 few

pub returns-clause-moves : goal.returns-clause-moves
returns-clause-moves c = λ q.
    c.remove.ensures.updates.0 q ∙ ap (λ v. cond (same_address c.args.station q) None (standing v q)) c.self.view_is
