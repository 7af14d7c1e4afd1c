use Rattle.std.proofs.Common.{rules, ◌≡◌, ◌+◌, ◌-◌, ℕ, List, length, take, arith}
use Rattle.std.specs.Prelude.{slice_set}
use Rattle.std.proofs.lemmas.Option.{IfSome_then}
use Rattle.bpf_verifier.specs.declared.frame.Frame.{Frame}
use Rattle.bpf_verifier.proofs.Folding.{folded_last, taken_of_fold}
use Rattle.bpf_verifier.proofs.fold.left_out.Goals as goal

pub returns-clause-some : goal.returns-clause-some
returns-clause-some c =
    let folds : List (List Frame) = c.args.folds.now.items in
    let n : ℕ = c.len-count.result - 1 in
    let count : c.len-count.result ≡ length folds = search rules in
    let size : length folds ≡ n + 1 = omega (arith, count, c.if-count-eq0.false) in
    let r = folded_last folds n c.index_mut.result.now c.leave_out.new.self size c.index_mut.ensures.value in
    IfSome_then c.leave_out.result c.leave_out.ensures.some
    (λ f t. taken_of_fold folds (slice_set folds n c.leave_out.new.self) (take n folds) c.index_mut.result.now c.leave_out.new.self f r.0 r.1 t)
