-- States that later ones push out.
use Rattle.std.proofs.Common.{◌≡◌, ℕ, ◌+◌, ◌-◌, ◌<◌, ◌≤◌, List, [], ◌∷◌, ◌++◌, length, get_or, take, drop, Bool, true, false, cond, refl, sym, ap, ◌∙◌, subst, arith, inl, inr, Option, Some, None, IfSome}
use Rattle.std.specs.Prelude.{◌==◌, ◌⊎◌, filter, is_some}
use Rattle.std.proofs.lemmas.List.{append_assoc, length-append, length-take-le, length_push, take_more, take_all, take-append-drop, drop-append-le, drop_all, drop-take}
use Rattle.std.proofs.lemmas.List.Elements.{All-push, All-nil, All-take, filter-append}
use Rattle.bpf_absstate.specs.View.{View}
use Rattle.bpf_verifier.specs.declared.frame.Frame.{Frame}
use Rattle.bpf_verifier.specs.Pushed.{is_state_at, states_at, AreStraight, IsPushedOut, ArePushedOut, CountAtMost, MoreAt, NoMore}

-- the part after an index, one frame longer
part_more : (fs : List Frame) (start place : ℕ) (d : Frame) → start ≤ place → place < length fs → drop start (take (place + 1) fs) ≡ drop start (take place fs) ++ get_or fs place d ∷ []
part_more fs start place d from within =
    let size : length (take place fs) ≡ place = length-take-le place fs (omega (arith, within)) in
    ap (drop start) (take_more fs place d within) ∙ drop-append-le start (take place fs) (get_or fs place d ∷ []) (omega (arith, size, from))

pub straight_more : (fs : List Frame) (start place : ℕ) (f : Frame) → start ≤ place → place < length fs → f ≡ get_or fs place f → f.pending ≡ None → AreStraight (drop start (take place fs)) →
    AreStraight (drop start (take (place + 1) fs))
straight_more fs start place f from within is none h =
    subst AreStraight (ap (λ x. drop start (take place fs) ++ x ∷ []) is ∙ sym (part_more fs start place f from within))
    (All-push (λ (x : Frame). x.pending ≡ None) (drop start (take place fs)) f h none)

pub straight_none : (fs : List Frame) (place : ℕ) → place ≤ length fs → AreStraight (drop place (take place fs))
straight_none fs place within =
    let size : length (take place fs) ≡ place = length-take-le place fs within in
    subst AreStraight (sym (drop_all place (take place fs) (omega (arith, size)))) (All-nil (λ (x : Frame). x.pending ≡ None))

pub straight_all : (fs : List Frame) (start place : ℕ) → length fs ≤ place → AreStraight (drop start (take place fs)) → AreStraight (drop start fs)
straight_all fs start place past h = subst (λ x. AreStraight (drop start x)) (take_all place fs past) h

-- a part of frames without pending successors
straight_part : (fs : List Frame) (start place : ℕ) → start ≤ place → AreStraight (drop start fs) → AreStraight (drop start (take place fs))
straight_part fs start place from h =
    let more : start + (place - start) ≡ place = omega (arith, from) in
    subst (λ n. AreStraight (drop start (take n fs))) more
    (subst AreStraight (sym (drop-take start (place - start) fs)) (All-take (λ (x : Frame). x.pending ≡ None) (place - start) (drop start fs) h))

-- the number of states at a slot, with one frame more
states_push : (pc : ℕ) (fs : List Frame) (f : Frame) → states_at pc (fs ++ f ∷ []) ≡ states_at pc fs + states_at pc (f ∷ [])
states_push pc fs f =
    ap length (filter-append (λ (x : Frame). is_state_at pc x.state) fs (f ∷ []))
    ∙ length-append (filter (λ (x : Frame). is_state_at pc x.state) fs) (filter (λ (x : Frame). is_state_at pc x.state) (f ∷ []))

pub count_none : (fs : List Frame) (start : ℕ) → CountAtMost [] (drop start (take start fs))
count_none fs start k = omega arith

-- no more is counted
pub count_same : (old new : List ℕ) (fs : List Frame) (start place : ℕ) → start ≤ place → place < length fs → NoMore old new → CountAtMost old (drop start (take place fs)) → CountAtMost new (drop start (take (place + 1) fs))
count_same old new fs start place from within same h k =
    let f : Frame = get_or fs place (record { before = 0; state = None; pending = None; best = 0 }) in
    let less : get_or new k 0 ≤ get_or old k 0 = same k in
    let few : get_or old k 0 ≤ states_at k (drop start (take place fs)) = h k in
    let more = ap (states_at k) (part_more fs start place (record { before = 0; state = None; pending = None; best = 0 }) from within) ∙ states_push k (drop start (take place fs)) f in
    omega (arith, less, few, more)

-- a state at a slot is counted there
pub count_more : (old new : List ℕ) (fs : List Frame) (start place : ℕ) (f : Frame) (a : View) → start ≤ place → place < length fs → f ≡ get_or fs place f → f.state ≡ Some a → MoreAt a.pc old new →
    CountAtMost old (drop start (take place fs)) → CountAtMost new (drop start (take (place + 1) fs))
count_more old new fs start place f a from within is has more h k =
    let less : get_or new k 0 ≤ get_or old k 0 + cond (a.pc == k) 1 0 = more k in
    let few : get_or old k 0 ≤ states_at k (drop start (take place fs)) = h k in
    let all : states_at k (drop start (take (place + 1) fs)) ≡ states_at k (drop start (take place fs)) + states_at k (f ∷ []) =
    ap (states_at k) (part_more fs start place f from within ∙ ap (λ x. drop start (take place fs) ++ x ∷ []) (sym is)) ∙ states_push k (drop start (take place fs)) f in
    let one : states_at k (f ∷ []) ≡ cond (a.pc == k) 1 0 = ap (λ o. length (cond (is_state_at k o) (f ∷ []) [])) has ∙ length_cond (a.pc == k) f in
    omega (arith, less, few, all, one)
  where
    length_cond : (t : Bool) (f : Frame) → length (cond t (f ∷ []) []) ≡ cond t 1 0
    length_cond true f = refl
    length_cond false f = refl

-- where a frame is in a list with one frame more
splits : (fs below above : List Frame) (g f : Frame) → fs ++ g ∷ [] ≡ below ++ f ∷ above →
    ((below ≡ fs) × (f ≡ g)) ⊎ ((rest : List Frame) × (fs ≡ below ++ f ∷ rest))
splits [] [] above g f e = inl (refl, sym (first e))
  where
    first : g ∷ [] ≡ f ∷ above → g ≡ f
    first e = cc
splits [] (x ∷ below) above g f e = absurd (omega (arith, sizes))
  where
    sizes : 1 ≡ length below + 2 + length above
    sizes = let k = ap length e in let m = length-append below (f ∷ above) in omega (arith, k, m)
splits (y ∷ fs) [] above g f e = inr (fs, ap (λ x. x ∷ fs) (head e))
  where
    head : y ∷ (fs ++ g ∷ []) ≡ f ∷ above → y ≡ f
    head e = cc
splits (y ∷ fs) (x ∷ below) above g f e =
    elim (splits fs below above g f (tail e)) [
      | inl same ↦ inl (both same.0 (head e), same.1)
      | inr rest ↦ inr (rest.0, both rest.1 (sym (head e)))
    ]
  where
    head : y ∷ (fs ++ g ∷ []) ≡ x ∷ (below ++ f ∷ above) → x ≡ y
    head e = cc

    tail : y ∷ (fs ++ g ∷ []) ≡ x ∷ (below ++ f ∷ above) → fs ++ g ∷ [] ≡ below ++ f ∷ above
    tail e = cc

    both : {xs ys : List Frame} {p q : Frame} → xs ≡ ys → p ≡ q → p ∷ xs ≡ q ∷ ys
    both {xs} {ys} {p} {q} same is = ap (λ z. z ∷ xs) is ∙ ap (λ z. q ∷ z) same

-- one frame more is pushed out, or has to be made again
pub pushed_none : (fs : List Frame) (n : ℕ) → length fs ≤ n → ArePushedOut n fs
pushed_none fs n few below f above e le =
    let size = length-append below (f ∷ above) in
    let all : length fs ≡ length (below ++ f ∷ above) = ap length e in
    absurd (omega (arith, size, all, few, le))

pub pushed_more : (fs : List Frame) (n place : ℕ) (f : Frame) → place < length fs → f ≡ get_or fs place f → ArePushedOut n (take place fs) → IfSome f.state (IsPushedOut (take place fs)) → ArePushedOut n (take (place + 1) fs)
pushed_more fs n place f within is h one below g above e le =
    let more : take place fs ++ f ∷ [] ≡ below ++ g ∷ above = ap (λ x. take place fs ++ x ∷ []) is ∙ sym (take_more fs place f within) ∙ e in
    elim (splits (take place fs) below above f g more) [
      | inl same ↦ subst (λ x. IfSome g.state (IsPushedOut x)) (sym same.0) (subst (λ (x : Frame). IfSome x.state (IsPushedOut (take place fs))) (sym same.1) one)
      | inr rest ↦ h below g rest.0 rest.1 le
    ]

-- a state at whose slot 64 were counted
pub is_pushed : (counts : List ℕ) (fs : List Frame) (start place : ℕ) (a : View) → start ≤ place → place ≤ length fs → AreStraight (drop start fs) → CountAtMost counts (drop start (take place fs)) → 64 ≤ get_or counts a.pc 0 →
    IsPushedOut (take place fs) a
is_pushed counts fs start place a from within straight h many =
    let few : get_or counts a.pc 0 ≤ states_at a.pc (drop start (take place fs)) = h a.pc in
    record {
      older = take start (take place fs);
      newer = drop start (take place fs);
      parts = sym (take-append-drop start (take place fs));
      straight = straight_part fs start place from straight;
      many = omega (arith, few, many);
    }

pub none_of : (o : Option View) → is_some o ≡ false → o ≡ None
none_of None h = refl
none_of (Some a) h = cc

-- the newest frame of frames that have to be made again up to an index, and the others
pub left_pushed : (n : ℕ) (all front : List Frame) (f : Frame) → all ≡ front ++ f ∷ [] → n < length all → ArePushedOut n all → IfSome f.state (IsPushedOut front)
left_pushed n all front f e lt h =
    let size : length all ≡ length front + 1 = ap length e ∙ length_push front f in
    h front f [] e (omega (arith, size, lt))

pub pushed_front : (n : ℕ) (all front : List Frame) (f : Frame) → all ≡ front ++ f ∷ [] → ArePushedOut n all → ArePushedOut n front
pushed_front n all front f e h below g above is le =
    h below g (above ++ f ∷ []) (e ∙ ap (λ x. x ++ f ∷ []) is ∙ append_assoc below (g ∷ above) (f ∷ [])) le

-- a state is also pushed out with more frames below
pub pushed_over : (root below : List Frame) (o : Option View) → IfSome o (IsPushedOut below) → IfSome o (IsPushedOut (root ++ below))
pushed_over root below None h = tt
pushed_over root below (Some a) h = record {
  older = root ++ h.older;
  newer = h.newer;
  parts = ap (λ x. root ++ x) h.parts ∙ sym (append_assoc root h.older h.newer);
  straight = h.straight;
  many = h.many;
}
