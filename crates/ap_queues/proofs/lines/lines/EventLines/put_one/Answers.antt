use Rattle.std.proofs.Common.{◌≡◌, ◌<◌, ◌%◌, ℕ, Some, length, slice_get, slice_set, sym, ap, ◌∙◌, subst, arith}
use Rattle.std.proofs.lemmas.Grind.{common_steps}
use Rattle.ap_queues.specs.Items.{Item}
use Rattle.ap_queues.specs.Passes.{IsOperatorOf, WasFull}
use Rattle.ap_rows.proofs.Standing.{one_value, put_there, rows_set_at}
use Rattle.ap_queues.proofs.Steps.{put_is, put_nothing, full_still}
use Rattle.ap_queues.proofs.lines.lines.EventLines.put_one.Goals as goal

pub returns-in-Ok-clause-put : goal.returns-in-Ok-clause-put
returns-in-Ok-clause-put g c =
    let k : ℕ = c.from.result % c.len.result in
    let n_is : c.len.result ≡ length c.args.operator.now.passes.items = grind (arith, common_steps, c.requires.own.as_many) in
    let low : k < length c.args.operator.now.passes.items = omega arith in
    let shard_is : c.from.result ≡ c.args.item.shard = c.from.ensures ∙ ap (λ (x : Item). x.shard) c.item.view_is in
    put_is c.args.operator.now.passes.items k c.args.item c.index_mut-pass.result.now c.put.new.operator low c.index_mut-pass.ensures.value c.in-Ok.ensures.put
    (ap (λ (n : ℕ). n % c.len.result) shard_is ∙ ap (λ (n : ℕ). c.args.item.shard % n) n_is)

pub returns-in-Err-clause-own : goal.returns-in-Err-clause-own
returns-in-Err-clause-own g c =
    let k : ℕ = c.from.result % c.len.result in
    let n_is : c.len.result ≡ length c.args.self.now = grind (arith, common_steps) in
    let low : k < length c.args.self.now = omega arith in
    rows_set_at IsOperatorOf c.args.self.now c.args.operator.now.passes.items k c.index.result.now c.put.new.operator low
    (grind (arith, common_steps)) c.put.ensures.operator c.requires.own

pub returns-in-Err-clause-refused : goal.returns-in-Err-clause-refused
returns-in-Err-clause-refused g c =
    put_nothing c.args.operator.now.passes.items (c.from.result % c.len.result) c.index_mut-pass.result.now c.put.new.operator c.index_mut-pass.ensures.value c.in-Err.ensures.refused

pub returns-in-Err-clause-full : goal.returns-in-Err-clause-full
returns-in-Err-clause-full g c p there =
    let k : ℕ = c.from.result % c.len.result in
    let ps = c.args.operator.now.passes.items in
    let n_is : c.len.result ≡ length c.args.self.now = grind (arith, common_steps) in
    let low : k < length ps = omega (arith, c.requires.own.as_many) in
    let shard_is : c.from.result ≡ c.args.item.shard = c.from.ensures ∙ ap (λ (x : Item). x.shard) c.item.view_is in
    let k_is : c.args.item.shard % length c.args.self.now ≡ k = ap (λ (n : ℕ). c.args.item.shard % n) (sym n_is) ∙ ap (λ (n : ℕ). n % c.len.result) (sym shard_is) in
    let there' : slice_get (slice_set ps k c.put.new.operator) k ≡ Some p = subst (λ (j : ℕ). slice_get (slice_set ps k c.put.new.operator) j ≡ Some p) k_is there in
    subst WasFull (one_value (slice_set ps k c.put.new.operator) k c.put.new.operator p (put_there ps k c.put.new.operator low) there')
    (full_still c.index_mut-pass.result.now c.put.new.operator c.in-Err.ensures.refused c.put.ensures.number c.in-Err.ensures.full)
