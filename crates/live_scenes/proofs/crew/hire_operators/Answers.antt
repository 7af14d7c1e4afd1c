use Rattle.std.proofs.Common.{◌≡◌, ◌∙◌, Ok, arith}
use Rattle.ap_shards.proofs.Results.{if_ok, on_ok}
use Rattle.ap_shards.specs.Tokens.{IsNewcomer}
use Rattle.ap_live.specs.Opening.{GaveToken}
use Rattle.ap_live.specs.Tokens.{IsOperator, Operator}
use Rattle.ap_live.proofs.Keeping.{operator_kept}
use Rattle.ap_live.proofs.Newcomers.{newcomer_parts}
use Rattle.live_scenes.specs.Rights.{IsChief, IsChiefBoxed}
use Rattle.live_scenes.proofs.Keeping.{chief_kept}
use Rattle.live_scenes.proofs.OneByOne.{all_and_one}
use Rattle.live_scenes.proofs.crew.hire_operators.Goals as goal

pub loop-hired-preserved : goal.loop-hired-preserved
loop-hired-preserved g c =
    let a = c.loop-hired.ap in
    let b = c.operator.new.self in
    let old = c.loop-hired.tokens.items in
    let new = c.push_reserved.new.self.items in
    let token = c.in_ok-token.token in
    let made : c.operator.result ≡ Ok token.value = c.in_ok-token.ensures in
    let given = on_ok (GaveToken c.loop-hired.left c.operator.new.left) c.operator.result token.value made c.operator.ensures.given in
    let stock = c.loop-hired.left.shards in
    record {
      left = c.operator.ensures.left;
      own = all_and_one (IsChiefBoxed a) (IsChiefBoxed b) old new token
          (λ o h. chief_kept a b o.value (operator_kept a b o.value c.operator.ensures.keeps) h)
          c.loop-hired.invariant.own
          (record { own = if_ok (IsOperator b) c.operator.result token.value made c.operator.ensures.own; part = newcomer_parts stock token.value.shards (if_ok (λ (t : Operator). IsNewcomer stock t.shards) c.operator.result token.value made c.operator.ensures.new) })
          c.push_reserved.ensures.items;
      many = omega (arith, c.push_reserved.ensures.len, c.loop-hired.invariant.many);
      room = omega (arith, c.push_reserved.ensures.capacity, c.loop-hired.invariant.room);
      parts = omega (arith, given.parts, c.loop-hired.invariant.parts);
      workers = c.operator.ensures.keeps.workers ∙ c.loop-hired.invariant.workers;
    }
