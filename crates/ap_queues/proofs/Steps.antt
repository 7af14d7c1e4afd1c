-- What an operator put, step by step.
use Rattle.std.proofs.Common.{◌≡◌, ℕ, suc, ◌+◌, ◌-◌, ◌%◌, ◌<◌, ◌≤◌, List, [], ◌∷◌, ◌++◌, length, map, get_or, slice_set, sym, ap, ◌∙◌, arith}
use Rattle.std.proofs.lemmas.List.{map-set, get_or-map, length-map}
use Rattle.std.proofs.Math.Seq.{map-set_same}
use Rattle.crossbeam_queue.specs.Passes.{view}
use Rattle.ap_model.specs.declared.event.Event.{Event}
use Rattle.ap_queues.specs.Items.{Item}
use Rattle.ap_queues.specs.declared.queue.OperatorPass.{OperatorPass}
use Rattle.ap_queues.specs.Queues.{of}
use Rattle.ap_queues.specs.Passes.{put_by, number_of, WasFull}
use Rattle.ap_queues.specs.Putting.{item, served, with_item}

-- one more item for its shard's worker
pub put_is : (ps : List OperatorPass) (k : ℕ) (x : Item) (p p' : OperatorPass) → k < length ps → p ≡ get_or ps k p → put_by p' ≡ put_by p ++ x ∷ [] → k ≡ x.shard % length ps
    → map put_by (slice_set ps k p') ≡ with_item (map put_by ps) x
put_is ps k x p p' low at put is =
    let here : get_or (map put_by ps) k [] ≡ put_by p = get_or-map put_by ps k p [] low ∙ ap put_by (sym at) in
    let k_is : k ≡ x.shard % length (map put_by ps) = is ∙ ap (λ (n : ℕ). x.shard % n) (sym (length-map ps put_by)) in
    let one : slice_set (map put_by ps) k (put_by p') ≡ slice_set (map put_by ps) k (get_or (map put_by ps) k [] ++ x ∷ []) =
    ap (λ (l : List Item). slice_set (map put_by ps) k l) (put ∙ ap (λ (l : List Item). l ++ x ∷ []) (sym here)) in
    map-set put_by ps k p' ∙ (one ∙ ap (λ (j : ℕ). slice_set (map put_by ps) j (get_or (map put_by ps) j [] ++ x ∷ [])) k_is)

pub put_nothing : (ps : List OperatorPass) (k : ℕ) (p p' : OperatorPass) → p ≡ get_or ps k p → put_by p' ≡ put_by p → map put_by (slice_set ps k p') ≡ map put_by ps
put_nothing ps k p p' at put = map-set_same put_by ps k p' p (put ∙ ap put_by at)

-- a queue that was full for an operator is so for one that has put the same
pub full_still : (p p' : OperatorPass) → put_by p' ≡ put_by p → number_of p' ≡ number_of p → WasFull p → WasFull p'
full_still p p' put number full =
    let same : (view p.pass).operator ≡ (view p'.pass).operator = p.own ∙ (sym number ∙ sym p'.own) in (
      full.0,
      full.1,
      (full.2.0, put ∙ (full.2.1 ∙ ap (λ (n : ℕ). full.2.0 ++ of n full.0) same)),
    )

pub served_next : (puts : List (List Item)) (call : ℕ) (e : Event) (first next : ℕ) → first ≤ next
    → with_item (served puts call e first (next - first)) (item call next e) ≡ served puts call e first (next + 1 - first)
served_next puts call e first next le =
    let there : first + (next - first) ≡ next = omega arith in
    let more : next + 1 - first ≡ suc (next - first) = omega arith in
    ap (λ (n : ℕ). with_item (served puts call e first (next - first)) (item call n e)) (sym there) ∙ ap (λ (n : ℕ). served puts call e first n) (sym more)
