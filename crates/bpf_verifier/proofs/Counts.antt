-- Visits bound budgets and frames.
use Rattle.std.proofs.Common.{◌≡◌, ℕ, ◌+◌, ◌≤◌, List, [], ◌∷◌, ◌++◌, refl, ap, ◌∙◌, sym, subst, arith, Some, max, Option}
use Rattle.bpf_absstate.specs.View.{View}
use Rattle.std.specs.List.{All}
use Rattle.std.proofs.lemmas.List.Elements.{All-push, All-pop, All-weaker}
use Rattle.bpf_prune.specs.declared.kept.Entry.{Entry}
use Rattle.bpf_verifier.specs.declared.frame.Frame.{Frame}
use Rattle.bpf_verifier.specs.Counting.{IsCounted, weight}
use Rattle.bpf_verifier.specs.Path.{IsKept}
use Rattle.bpf_verifier.proofs.Paths.{of_any}
use Rattle.bpf_verifier.proofs.Tables.{kept, weaker}

pub weight_push : (fs : List Frame) (f : Frame) (after : ℕ) → weight (fs ++ f ∷ []) after ≡ weight fs f.before + 1 + after
unfolding weight
weight_push [] f after = refl
weight_push (g ∷ fs) f after = let k = weight_push fs f after in omega (arith, k)

pub weight_more : (fs : List Frame) (after : ℕ) → weight fs (after + 1) ≡ weight fs after + 1
unfolding weight
weight_more [] after = refl
weight_more (g ∷ fs) after = let k = weight_more fs after in omega (arith, k)

-- the states after the newest frame are on the path, too
pub after_le : (fs : List Frame) (after : ℕ) → after ≤ weight fs after
unfolding weight
after_le [] after = omega arith
after_le (g ∷ fs) after = let k = after_le fs after in omega (arith, k)

pub weight_empty : (fs : List Frame) (after : ℕ) → fs ≡ [] → weight fs after ≡ after
unfolding weight
weight_empty fs after e = ap (λ x. weight x after) e

pub weight_of : (items fs : List Frame) (f : Frame) (after : ℕ) → items ≡ fs ++ f ∷ [] → weight items after ≡ weight fs f.before + 1 + after
weight_of items fs f after e = ap (λ x. weight x after) e ∙ weight_push fs f after

-- a path that loses its last frame
pub Counted-pop : (items fs : List Frame) (f : Frame) (after : ℕ) (table : List (List Entry)) (visits : ℕ) → items ≡ fs ++ f ∷ [] → IsCounted items after table visits →
    IsCounted fs f.before table visits × (f.best + (weight fs f.before + 1 + after) ≤ visits)
Counted-pop items fs f after table visits e h =
    let n = weight_of items fs f after e in
    let k = All-pop (λ g. g.best + weight items after ≤ visits) items fs (Some f) e h.frames in (
      record {
        frames = All-weaker (λ g. g.best + weight items after ≤ visits) (λ g. g.best + weight fs f.before ≤ visits) (λ g le. omega (arith, le, n)) fs k.0;
        finished = weaker (λ g. g.budget + weight items after ≤ visits) (λ g. g.budget + weight fs f.before ≤ visits) (λ g le. omega (arith, le, n)) table h.finished;
      },
      subst (λ m. f.best + m ≤ visits) n k.1,
    )

-- a path that the visits bound, with its last frame changed
pub Counted-over : (items fs new : List Frame) (f g : Frame) (after : ℕ) (table : List (List Entry)) (visits : ℕ) → items ≡ fs ++ f ∷ [] → new ≡ fs ++ g ∷ [] → g.before ≡ f.before →
    IsCounted items after table visits → g.best + (weight fs f.before + 1) ≤ visits → IsCounted new 0 table visits
Counted-over items fs new f g after table visits e e2 before h le =
    let n = weight_of items fs f after e in
    let same : weight fs g.before ≡ weight fs f.before = ap (weight fs) before in
    let m0 = weight_of new fs g 0 e2 in
    let m : weight new 0 ≡ weight fs f.before + 1 = omega (arith, m0, same) in
    let k = All-pop (λ x. x.best + weight items after ≤ visits) items fs (Some f) e h.frames in
    let others = All-weaker (λ x. x.best + weight items after ≤ visits) (λ x. x.best + weight new 0 ≤ visits) (λ x q. omega (arith, q, n, m)) fs k.0 in
    let small : g.best + weight new 0 ≤ visits = omega (arith, le, m) in
    record {
      frames = subst (All (λ x. x.best + weight new 0 ≤ visits)) (sym e2) (All-push (λ x. x.best + weight new 0 ≤ visits) fs g others small);
      finished = weaker (λ x. x.budget + weight items after ≤ visits) (λ x. x.budget + weight new 0 ≤ visits) (λ x q. omega (arith, q, n, m)) table h.finished;
    }

-- one more frame, whose own state was on the path already
pub Counted-frame : (fs new : List Frame) (f : Frame) (after : ℕ) (table : List (List Entry)) (visits : ℕ) → new ≡ fs ++ f ∷ [] → f.before ≡ after → f.best ≡ 0 → IsCounted fs (after + 1) table visits →
    weight fs (after + 1) ≤ visits → IsCounted new 0 table visits
Counted-frame fs new f after table visits e before none h le =
    let same : weight fs f.before ≡ weight fs after = ap (weight fs) before in
    let m0 = weight_of new fs f 0 e in
    let more = weight_more fs after in
    let n : weight new 0 ≡ weight fs (after + 1) = omega (arith, m0, same, more) in
    let small : f.best + weight new 0 ≤ visits = omega (arith, none, n, le) in
    record {
      frames = subst (All (λ x. x.best + weight new 0 ≤ visits)) (sym e)
          (All-push (λ x. x.best + weight new 0 ≤ visits) fs f
          (All-weaker (λ x. x.best + weight fs (after + 1) ≤ visits) (λ x. x.best + weight new 0 ≤ visits) (λ x k. omega (arith, k, n)) fs h.frames) small);
      finished = weaker (λ x. x.budget + weight fs (after + 1) ≤ visits) (λ x. x.budget + weight new 0 ≤ visits) (λ x k. omega (arith, k, n)) table h.finished;
    }

pub weight_frame : (fs : List Frame) (f : Frame) (after visits : ℕ) → f.before ≡ after → weight fs (after + 1) ≤ visits → weight (fs ++ f ∷ []) 0 ≤ visits
weight_frame fs f after visits before le =
    let same : weight fs f.before ≡ weight fs after = ap (weight fs) before in
    let n = weight_push fs f 0 in
    let more = weight_more fs after in
    omega (arith, same, n, more, le)

-- one more state with one successor, for one more visit
pub Counted-on : (fs : List Frame) (after : ℕ) (table : List (List Entry)) (visits : ℕ) → IsCounted fs after table visits → IsCounted fs (after + 1) table (visits + 1)
Counted-on fs after table visits h =
    let n = weight_more fs after in
    record {
      frames = All-weaker (λ x. x.best + weight fs after ≤ visits) (λ x. x.best + weight fs (after + 1) ≤ visits + 1) (λ x k. omega (arith, k, n)) fs h.frames;
      finished = weaker (λ x. x.budget + weight fs after ≤ visits) (λ x. x.budget + weight fs (after + 1) ≤ visits + 1) (λ x k. omega (arith, k, n)) table h.finished;
    }

pub paid_on : (fs : List Frame) (after visits : ℕ) → weight fs after ≤ visits → weight fs (after + 1) ≤ visits + 1
paid_on fs after visits le = let n = weight_more fs after in omega (arith, n, le)

-- without the state after the path
pub Counted-less : (fs : List Frame) (after : ℕ) (table : List (List Entry)) (visits : ℕ) → IsCounted fs (after + 1) table visits → IsCounted fs after table visits
Counted-less fs after table visits h =
    let n = weight_more fs after in
    record {
      frames = All-weaker (λ x. x.best + weight fs (after + 1) ≤ visits) (λ x. x.best + weight fs after ≤ visits) (λ x k. omega (arith, k, n)) fs h.frames;
      finished = weaker (λ x. x.budget + weight fs (after + 1) ≤ visits) (λ x. x.budget + weight fs after ≤ visits) (λ x k. omega (arith, k, n)) table h.finished;
    }

-- one more finished state
pub Counted-kept : (fs : List Frame) (after : ℕ) (old new : List (List Entry)) (o : Option View) (budget visits : ℕ) → IsKept old new o budget → IsCounted fs after old visits →
    budget + weight fs after ≤ visits → IsCounted fs after new visits
Counted-kept fs after old new o budget visits k h le =
    record { frames = h.frames; finished = kept (λ x. x.budget + weight fs after ≤ visits) old new o budget k h.finished (of_any (budget + weight fs after ≤ visits) o le) }

-- the greater budget of the last frame is bounded, too
pub Counted-best : (items fs : List Frame) (f : Frame) (after : ℕ) (table : List (List Entry)) (visits done best : ℕ) → items ≡ fs ++ f ∷ [] → IsCounted items after table visits →
    done + weight items after ≤ visits → best ≡ max f.best (done + after) → best + (weight fs f.before + 1) ≤ visits
Counted-best items fs f after table visits done best e h paid greater =
    let n = weight_of items fs f after e in
    let k = (Counted-pop items fs f after table visits e h).1 in
    omega (arith, n, k, paid, greater)
