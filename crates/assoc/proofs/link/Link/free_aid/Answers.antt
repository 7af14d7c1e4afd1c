use Rattle.std.proofs.Common.{◌+◌, ◌*◌, ℕ, arith, ◌∙◌, sym, subst, below_more}
use Rattle.assoc.specs.Standings.{standing, IsFree, IsLeastFree}
use Rattle.assoc.specs.Sound.{IsTaken}
use Rattle.assoc.proofs.Tables.{free_from, least_from, none_free}
use Rattle.assoc.proofs.link.Link.free_aid.Goals as goal
use Rattle.assoc.proofs.link.Link.free_aid.Goals.{else-aid-gt0-via-then-aid-gt0+then-aid-le-GREATEST_AID+else-is_open, else-aid-gt0-via-then-aid-gt0+else-aid-le-GREATEST_AID, else-aid-gt0-via-else-aid-gt0}

pub returns-then-is_open : goal.returns-then-is_open
returns-then-is_open c =
    subst (λ v. IsLeastFree v.shard (standing v) c.args.station (8 * c.loop-place.place + c.self.inside.shard)) c.self.view_is
    (least_from _ _ _ _ c.args.station c.loop-place.place c.self.invariant c.loop-place.invariant
    (free_from _ _ _ _ c.args.station c.loop-place.place c.self.invariant (omega arith) (omega arith)
    (λ b e. c.is_open.ensures.free c.if-is_open.true b (c.get.ensures.is ∙ e))))

pub loop-place-preserved : goal.loop-place-preserved
loop-place-preserved c =
    below_more (IsTaken c.self.inside.shard c.self.inside.holders c.args.station) _ c.loop-place.invariant
    (elim c.else-aid-gt0.branch [
      | else-aid-gt0-via-then-aid-gt0+then-aid-le-GREATEST_AID+else-is_open w ↦ λ own.
          let t = w.is_open.ensures.taken w.if-is_open.false in
          (t.0, sym w.get.ensures.is ∙ t.1, t.2)
      | else-aid-gt0-via-then-aid-gt0+else-aid-le-GREATEST_AID w ↦ λ own. absurd (let h = own.high in omega arith)
      | else-aid-gt0-via-else-aid-gt0 w ↦ λ own. absurd (let l = own.low in omega arith)
    ])

pub returns : goal.returns
returns c =
    subst (λ v. (n : ℕ) → IsFree v.shard (standing v) c.args.station n → ⊥) c.self.view_is
    (none_free _ _ _ _ c.args.station c.self.invariant (λ k l. c.loop-place.invariant k (omega arith)))
