-- The finished states of a path are the same without those that are pushed out.
use Rattle.std.proofs.Common.{◌≡◌, ℕ, ◌+◌, ◌-◌, ◌<◌, ◌≤◌, List, [], ◌∷◌, ◌++◌, length, Bool, true, false, cond, max, refl, sym, ap, ◌∙◌, subst, arith, inl, inr, Option, Some, None, IfSome}
use Rattle.std.specs.Prelude.{◌==◌, filter, is_some, reverse}
use Rattle.std.proofs.lemmas.Bool.{cond-true, cond-false}
use Rattle.std.proofs.lemmas.List.{reverse-append, length-append, length-reverse, get_or-reverse}
use Rattle.std.proofs.lemmas.List.Elements.{All-head, All-tail, filter-append}
use Rattle.bpf_absstate.specs.View.{View}
use Rattle.bpf_verifier.specs.declared.frame.Frame.{Frame}
use Rattle.bpf_prune.specs.declared.kept.Entry.{Entry}
use Rattle.bpf_prune.specs.Keeping.{with_entries, those_at, PushesOut, LeavesOut}
use Rattle.bpf_verifier.specs.Finishing.{entries_of, finishing, finished_of}
use Rattle.bpf_verifier.specs.Folded.{IsTaken, with_state}
use Rattle.bpf_verifier.specs.Path.{IsKept}
use Rattle.bpf_verifier.specs.Pushed.{is_state_at, states_at, AreStraight, IsPushedOut}

-- frames in the other order
states_reverse : (pc : ℕ) (fs : List Frame) → states_at pc (reverse fs) ≡ states_at pc fs
states_reverse pc [] = refl
states_reverse pc (f ∷ fs) =
    let p : Frame → Bool = λ (x : Frame). is_state_at pc x.state in
    let turned : reverse (f ∷ fs) ≡ reverse fs ++ f ∷ [] = reverse-append (f ∷ []) fs in
    let back : states_at pc (reverse fs ++ f ∷ []) ≡ states_at pc (reverse fs) + states_at pc (f ∷ []) =
    ap length (filter-append p (reverse fs) (f ∷ [])) ∙ length-append (filter p (reverse fs)) (filter p (f ∷ [])) in
    let front : states_at pc (f ∷ fs) ≡ states_at pc (f ∷ []) + states_at pc fs =
    ap length (filter-append p (f ∷ []) fs) ∙ length-append (filter p (f ∷ [])) (filter p fs) in
    let rest = states_reverse pc fs in
    let same : states_at pc (reverse (f ∷ fs)) ≡ states_at pc (reverse fs ++ f ∷ []) = ap (states_at pc) turned in
    omega (arith, back, front, rest, same)

straight_reverse : (fs : List Frame) → AreStraight fs → AreStraight (reverse fs)
straight_reverse fs h k d lt =
    let within : k < length fs = let size = length-reverse fs in omega (arith, size, lt) in
    let place : length fs - 1 - k < length fs = omega (arith, within) in
    subst (λ (f : Frame). f.pending ≡ None) (sym (get_or-reverse fs k d within)) (h (length fs - 1 - k) d place)

-- each frame without a pending successor is finished, with its state
count_finishing : (pc : ℕ) (fs rest : List Frame) (after done : ℕ) → AreStraight fs → states_at pc fs ≤ length (those_at pc (finishing (fs ++ rest) after done))
unfolding finishing
count_finishing pc [] rest after done h = omega arith
count_finishing pc (f ∷ fs) rest after done h =
    let budget : ℕ = max f.best (done + after) + 1 in
    let more : List Entry = finishing (fs ++ rest) f.before budget in
    let none : is_some f.pending ≡ false = ap is_some (All-head (λ (x : Frame). x.pending ≡ None) f fs h) in
    let few = count_finishing pc fs rest f.before budget (All-tail (λ (x : Frame). x.pending ≡ None) f fs h) in
    let all : finishing (f ∷ fs ++ rest) after done ≡ entries_of f.state budget ++ more = cond-false (is_some f.pending) [] (entries_of f.state budget ++ more) none in
    subst (λ es. states_at pc (f ∷ fs) ≤ length (those_at pc es)) (sym all) (one f.state fs budget more few)
  where
    one : (o : Option View) (xs : List Frame) (budget : ℕ) (more : List Entry) → states_at pc xs ≤ length (those_at pc more) →
        length (cond (is_state_at pc o) (f ∷ filter (λ (x : Frame). is_state_at pc x.state) xs) (filter (λ (x : Frame). is_state_at pc x.state) xs)) ≤ length (those_at pc (entries_of o budget ++ more))
    one None xs budget more few = few
    one (Some a) xs budget more few = both (a.pc == pc) (filter (λ (x : Frame). is_state_at pc x.state) xs) (record { state = a; budget = budget }) (those_at pc more) few
      where
        both : (t : Bool) (xs : List Frame) (e : Entry) (es : List Entry) → length xs ≤ length es → length (cond t (f ∷ xs) xs) ≤ length (cond t (e ∷ es) es)
        both true xs e es few = omega (arith, few)
        both false xs e es few = few

-- a state that is pushed out on the path is pushed out by those that are finished
pub pushes : (below : List Frame) (a : View) (after done budget : ℕ) → IsPushedOut below a → PushesOut (finished_of below after done) (record { state = a; budget = budget })
pushes below a after done budget h =
    let turned : reverse below ≡ reverse h.newer ++ reverse h.older = ap reverse h.parts ∙ reverse-append h.older h.newer in
    let few : states_at a.pc (reverse h.newer) ≤ length (those_at a.pc (finishing (reverse h.newer ++ reverse h.older) after done)) =
    count_finishing a.pc (reverse h.newer) (reverse h.older) after done (straight_reverse h.newer h.straight) in
    let same : length (those_at a.pc (finished_of below after done)) ≡ length (those_at a.pc (finishing (reverse h.newer ++ reverse h.older) after done)) =
    ap (λ x. length (those_at a.pc (finishing x after done))) turned in
    let count = states_reverse a.pc h.newer in
    let many = h.many in
    omega (arith, few, same, count, many)

-- the newest frame of a path
finished_push : (fs : List Frame) (f : Frame) (after done : ℕ) → f.pending ≡ None →
    finished_of (fs ++ f ∷ []) after done ≡ entries_of f.state (max f.best (done + after) + 1) ++ finished_of fs f.before (max f.best (done + after) + 1)
unfolding finishing
finished_push fs f after done none =
    let budget : ℕ = max f.best (done + after) + 1 in
    ap (λ x. finishing x after done) (reverse-append fs (f ∷ [])) ∙ cond-false (is_some f.pending) [] (entries_of f.state budget ++ finished_of fs f.before budget) (ap is_some none)

pub finished_pending : (items fs : List Frame) (f : Frame) (a : View) (after done : ℕ) → items ≡ fs ++ f ∷ [] → f.pending ≡ Some a → finished_of items after done ≡ []
unfolding finishing
finished_pending items fs f a after done e some =
    let budget : ℕ = max f.best (done + after) + 1 in
    ap (λ x. finishing (reverse x) after done) e ∙ ap (λ x. finishing x after done) (reverse-append fs (f ∷ []))
    ∙ cond-true (is_some f.pending) [] (entries_of f.state budget ++ finished_of fs f.before budget) (ap is_some some)

-- what is kept of the newest frame's state, and what would be
kept_one : (table new : List (List Entry)) (o : Option View) (budget : ℕ) (es : List Entry) → IsKept table new o budget → with_entries new es ≡ with_entries table (entries_of o budget ++ es)
unfolding with_entries
kept_one table new None budget es k = ap (λ t. with_entries t es) k
kept_one table new (Some a) budget es k = ap (λ t. with_entries t es) k

left_one : LeavesOut → (table new : List (List Entry)) (o : Option View) (below : List Frame) (after budget : ℕ) → IsKept table new None budget → IfSome o (IsPushedOut below) →
    with_entries new (finished_of below after budget) ≡ with_entries table (entries_of o budget ++ finished_of below after budget)
unfolding with_entries
left_one law table new None below after budget k out = ap (λ t. with_entries t (finished_of below after budget)) k
left_one law table new (Some a) below after budget k out =
    let e : Entry = record { state = a; budget = budget } in
    ap (λ t. with_entries t (finished_of below after budget)) k ∙ sym (law table e (finished_of below after budget) (pushes below a after budget budget out))

-- one frame is finished
pub goes_back : LeavesOut → (table new : List (List Entry)) (items fs : List Frame) (f : Frame) (after done best : ℕ) → (t : IsTaken items fs f) → f.pending ≡ None → best ≡ max f.best (done + after) → IsKept table new f.state (best + 1) →
    with_entries new (finished_of fs f.before (best + 1)) ≡ with_entries table (finished_of items after done)
goes_back law table new items fs f after done best t none is kept =
    let budget : ℕ = max f.best (done + after) + 1 in
    let same : best + 1 ≡ budget = ap (λ n. n + 1) is in
    let k : IsKept table new f.state budget = subst (IsKept table new f.state) same kept in
    let all : finished_of items after done ≡ entries_of t.state budget ++ finished_of fs f.before budget =
    ap (λ x. finished_of x after done) t.last ∙ finished_push fs (with_state f t.state) after done none in
    let one : with_entries new (finished_of fs f.before budget) ≡ with_entries table (entries_of t.state budget ++ finished_of fs f.before budget) =
    elim t.same [
      | inl e ↦ kept_one table new t.state budget (finished_of fs f.before budget) (subst (λ o. IsKept table new o budget) e k)
      | inr left ↦ left_one law table new t.state fs f.before budget (subst (λ o. IsKept table new o budget) left.0 k) left.2
    ] in
    ap (λ n. with_entries new (finished_of fs f.before n)) same ∙ one ∙ ap (with_entries table) (sym all)

-- nothing more is finished
pub nothing_more : (table old : List (List Entry)) (es all : List Entry) → es ≡ [] → with_entries table es ≡ with_entries old all → table ≡ with_entries old all
unfolding with_entries
nothing_more table old es all none h = sym (ap (with_entries table) none) ∙ h

pub finished_none : (items : List Frame) (after done : ℕ) → items ≡ [] → finished_of items after done ≡ []
unfolding finishing
finished_none items after done e = ap (λ x. finishing (reverse x) after done) e
