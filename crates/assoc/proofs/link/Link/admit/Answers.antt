use Rattle.std.proofs.Common.{◌≤◌, Some, cond, arith, ap, ◌∙◌, sym, subst, hash_map_len, length}
use Rattle.std.specs.Map.{lookup}
use Rattle.std.proofs.lemmas.Grind.{common_steps}
use Rattle.assoc.specs.Standings.{standing, IsFull, same_address}
use Rattle.assoc.specs.Sound.{IsSound}
use Rattle.assoc.specs.declared.standing.Known.TheVariants.{Authenticated}
use Rattle.assoc.proofs.Tables.{plain_sound, full_from}
use Rattle.assoc.proofs.link.Link.admit.Goals as goal

pub prove-unreachable-requires : goal.prove-unreachable-requires
prove-unreachable-requires c =
    c.requires.room (subst (λ v. IsFull (standing v)) c.self.view_is (full_from c.self.inside.stations.entries c.len-room.ensures.unique (let e = c.len-room.ensures.len in omega arith)))

pub invariant_of-self : goal.invariant_of-self
invariant_of-self c =
    let before = ap (λ v. standing v c.args.station) c.self.view_is ∙ c.requires.unknown in
    let few : hash_map_len c.insert.new.self ≤ 512 = (let l = c.len-room.ensures.len in let o = c.in-Ok.ensures.len in let e = c.in-Ok.ensures.old in grind (arith, common_steps, before)) in
    plain_sound _ _ _ _ c.args.station _ (Some Authenticated) _ c.self.invariant (λ n e. absurd (let w = sym before ∙ e in cc w)) (λ n e. absurd (cc)) c.in-Ok.ensures.updates.0 few

pub invariant_of-self-in-Err : goal.invariant_of-self-in-Err
invariant_of-self-in-Err c =
    subst (λ es. IsSound c.self.inside.shard (λ a. lookup (same_address a) es) (length es) c.self.inside.holders) (sym c.in-Err.ensures.err) c.self.invariant

pub returns-in-Ok-clause-moves : goal.returns-in-Ok-clause-moves
returns-in-Ok-clause-moves c = λ q.
    c.in-Ok.ensures.updates.0 q ∙ ap (λ v. cond (same_address c.args.station q) (Some Authenticated) (standing v q)) c.self.view_is
