-- Folded frames.
use Rattle.std.proofs.Common.{◌≡◌, ◌<◌, ◌≤◌, ℕ, zero, suc, ◌+◌, ◌-◌, length, get_or, set, List, [], ◌∷◌, ◌++◌, take, drop, refl, sym, subst, ap, ◌∙◌, inl, inr, Option, Some, None, IfSome, arith, append_assoc}
use Rattle.std.specs.Prelude.{◌⊎◌, map, slice_get, false}
use Rattle.std.proofs.lemmas.List.{append-nil, length-take-le, length-map, take_all, take-map, take-append-drop, length-append, take_more, set_split, drop_all}
use Rattle.bpf_absstate.specs.View.{View}
use Rattle.bpf_verifier.specs.Counting.{weight, states_from}
use Rattle.bpf_verifier.proofs.Counts.{weight_push}
use Rattle.bpf_verifier.proofs.Tracing.{same_frame}
use Rattle.bpf_verifier.proofs.Pushing.{none_of, pushed_over}
use Rattle.bpf_verifier.specs.Pushed.{IsPushedOut}
use Rattle.bpf_verifier.specs.declared.frame.Frame.{Frame}
use Rattle.bpf_verifier.specs.declared.fold.Outline.{Outline}
use Rattle.bpf_verifier.specs.Folded.{outline_of, unfolded, with_state, IsTaken, IsFolded, BeginsWith}

pub unfolded_push : (rest : List (List Frame)) (fs : List Frame) → unfolded (rest ++ fs ∷ []) ≡ unfolded rest ++ fs
unfolding unfolded
unfolded_push [] fs = append-nil fs
unfolded_push (gs ∷ rest) fs = ap (λ x. gs ++ x) (unfolded_push rest fs) ∙ sym (append_assoc gs (unfolded rest) fs)

-- the frame of an outline
pub peeled : (all : List Frame) (k : ℕ) (o : Outline) → slice_get (map outline_of all) k ≡ Some o →
    (f : Frame) × (drop k all ≡ f ∷ drop (k + 1) all) × (o ≡ outline_of f) × (take (k + 1) all ≡ take k all ++ f ∷ [])
peeled [] zero o at = cc
peeled [] (suc k) o at = cc
peeled (f ∷ fs) zero o at = (f, refl, cc, refl)
peeled (f ∷ fs) (suc k) o at =
    let r = peeled fs k o at in
    let more : suc k + 1 ≡ suc (k + 1) = omega arith in (
      r.0,
      r.1 ∙ ap (λ n. r.0 ∷ drop n (f ∷ fs)) (sym more),
      r.2,
      ap (λ n. take n (f ∷ fs)) more ∙ ap (λ x. f ∷ x) r.3,
    )

-- one more list after four, or after fewer and empty ones
four : (a b c d e : List Frame) → a ++ (b ++ (c ++ (d ++ e))) ≡ (a ++ (b ++ (c ++ d))) ++ e
four a b c d e = simp append_assoc

three : (a b c e : List Frame) → a ++ (b ++ ((c ++ e) ++ [])) ≡ (a ++ (b ++ (c ++ []))) ++ e
three a b c e = simp (append_assoc, append-nil)

two : (a b e : List Frame) → a ++ ((b ++ e) ++ ([] ++ [])) ≡ (a ++ (b ++ ([] ++ []))) ++ e
two a b e = simp (append_assoc, append-nil)

one : (a e : List Frame) → (a ++ e) ++ ([] ++ ([] ++ [])) ≡ (a ++ ([] ++ ([] ++ []))) ++ e
one a e = simp (append_assoc, append-nil)

-- no frame at all
pub nothing : (root older newer : List Frame) (folds : List (List Frame)) → root ≡ [] → folds ≡ [] → older ≡ [] → newer ≡ [] → root ++ (unfolded folds ++ (older ++ newer)) ≡ []
unfolding unfolded
nothing root older newer folds a b c d =
    ap (λ x. x ++ (unfolded folds ++ (older ++ newer))) a ∙ ap (λ x. unfolded x ++ (older ++ newer)) b ∙ ap (λ x. x ++ newer) c ∙ d

module _ (root rest older newer : List Frame) (f : Frame) where
  -- one frame more
  pub pushed : (new : List Frame) → new ≡ newer ++ f ∷ [] → root ++ (rest ++ (older ++ new)) ≡ (root ++ (rest ++ (older ++ newer))) ++ f ∷ []
  pushed new e = ap (λ x. root ++ (rest ++ (older ++ x))) e ∙ four root rest older newer (f ∷ [])

  pub pushed_older : (new : List Frame) → new ≡ older ++ f ∷ [] → newer ≡ [] → root ++ (rest ++ (new ++ newer)) ≡ (root ++ (rest ++ (older ++ newer))) ++ f ∷ []
  pushed_older new e none =
      ap (λ x. root ++ (rest ++ (new ++ x))) none ∙ ap (λ x. root ++ (rest ++ (x ++ []))) e ∙ three root rest older (f ∷ [])
      ∙ ap (λ x. (root ++ (rest ++ (older ++ x))) ++ f ∷ []) (sym none)

  -- one frame fewer
  pub popped : (new : List Frame) → newer ≡ new ++ f ∷ [] → root ++ (rest ++ (older ++ newer)) ≡ (root ++ (rest ++ (older ++ new))) ++ f ∷ []
  popped new e = ap (λ x. root ++ (rest ++ (older ++ x))) e ∙ four root rest older new (f ∷ [])

  pub popped_older : (new none : List Frame) → newer ≡ [] → none ≡ [] → older ≡ new ++ f ∷ [] → root ++ (rest ++ (older ++ newer)) ≡ (root ++ (rest ++ (new ++ none))) ++ f ∷ []
  popped_older new none e nothing is =
      ap (λ x. root ++ (rest ++ (older ++ x))) e ∙ ap (λ x. root ++ (rest ++ (x ++ []))) is ∙ three root rest new (f ∷ [])
      ∙ ap (λ x. (root ++ (rest ++ (new ++ x))) ++ f ∷ []) (sym nothing)

-- folds after the root, and nothing after them
pub all_folded : (root : List Frame) (folds rest : List (List Frame)) (fold older newer : List Frame) → folds ≡ rest ++ fold ∷ [] → older ≡ [] → newer ≡ [] →
    root ++ (unfolded folds ++ (older ++ newer)) ≡ (root ++ unfolded rest) ++ fold
all_folded root folds rest fold older newer e none nothing =
    let a : root ++ ((unfolded rest ++ fold) ++ ([] ++ [])) ≡ (root ++ unfolded rest) ++ fold = simp (append_assoc, append-nil) in
    ap (λ x. root ++ (unfolded x ++ (older ++ newer))) e ∙ ap (λ x. root ++ (x ++ (older ++ newer))) (unfolded_push rest fold)
    ∙ ap (λ x. root ++ ((unfolded rest ++ fold) ++ (x ++ newer))) none ∙ ap (λ x. root ++ ((unfolded rest ++ fold) ++ ([] ++ x))) nothing ∙ a

-- the newest frame of the newest fold
pub popped_fold : (root : List Frame) (folds rest : List (List Frame)) (fold older newer new o n : List Frame) (f : Frame) → folds ≡ rest ++ fold ∷ [] → older ≡ [] → newer ≡ [] → o ≡ fold → o ≡ new ++ f ∷ [] →
    n ≡ [] → root ++ (unfolded folds ++ (older ++ newer)) ≡ (root ++ (unfolded rest ++ (new ++ n))) ++ f ∷ []
popped_fold root folds rest fold older newer new o n f e none nothing same is left =
    let a : (root ++ unfolded rest) ++ (new ++ f ∷ []) ≡ (root ++ (unfolded rest ++ (new ++ []))) ++ f ∷ [] = simp (append_assoc, append-nil) in
    all_folded root folds rest fold older newer e none nothing ∙ ap (λ x. (root ++ unfolded rest) ++ x) (sym same ∙ is) ∙ a
    ∙ ap (λ x. (root ++ (unfolded rest ++ (new ++ x))) ++ f ∷ []) (sym left)

-- the newest frame of the root
pub popped_root : (root new : List Frame) (folds left : List (List Frame)) (older newer o n : List Frame) (f : Frame) → folds ≡ [] → older ≡ [] → newer ≡ [] → left ≡ [] → o ≡ [] → n ≡ [] → root ≡ new ++ f ∷ [] →
    root ++ (unfolded folds ++ (older ++ newer)) ≡ (new ++ (unfolded left ++ (o ++ n))) ++ f ∷ []
unfolding unfolded
popped_root root new folds left older newer o n f a b c d e g is =
    ap (λ x. root ++ (unfolded x ++ (older ++ newer))) a ∙ ap (λ x. root ++ ([] ++ (x ++ newer))) b ∙ ap (λ x. root ++ ([] ++ ([] ++ x))) c
    ∙ ap (λ x. x ++ ([] ++ ([] ++ []))) is ∙ one new (f ∷ [])
    ∙ ap (λ x. (new ++ ([] ++ ([] ++ x))) ++ f ∷ []) (sym g) ∙ ap (λ x. (new ++ ([] ++ (x ++ n))) ++ f ∷ []) (sym e) ∙ ap (λ x. (new ++ (unfolded x ++ (o ++ n))) ++ f ∷ []) (sym d)

-- the older frames become part of the root
pub rooted : (root older newer r o : List Frame) (folds : List (List Frame)) → folds ≡ [] → r ≡ root ++ older → o ≡ [] → r ++ (unfolded folds ++ (o ++ newer)) ≡ root ++ (unfolded folds ++ (older ++ newer))
unfolding unfolded
rooted root older newer r o folds none e nothing =
    let a : (root ++ older) ++ ([] ++ ([] ++ newer)) ≡ root ++ ([] ++ (older ++ newer)) = simp append_assoc in
    ap (λ x. x ++ (unfolded folds ++ (o ++ newer))) e ∙ ap (λ x. (root ++ older) ++ (unfolded x ++ (o ++ newer))) none ∙ ap (λ x. (root ++ older) ++ ([] ++ (x ++ newer))) nothing ∙ a
    ∙ ap (λ x. root ++ (unfolded x ++ (older ++ newer))) (sym none)

-- the older frames are folded
pub folded_more : (root older newer o fold : List Frame) (folds more : List (List Frame)) → more ≡ folds ++ fold ∷ [] → fold ≡ older → o ≡ [] →
    root ++ (unfolded more ++ (o ++ newer)) ≡ root ++ (unfolded folds ++ (older ++ newer))
folded_more root older newer o fold folds more e same nothing =
    ap (λ x. root ++ (unfolded x ++ (o ++ newer))) e ∙ ap (λ x. root ++ (x ++ (o ++ newer))) (unfolded_push folds fold)
    ∙ ap (λ x. root ++ ((unfolded folds ++ x) ++ (o ++ newer))) same ∙ ap (λ x. root ++ ((unfolded folds ++ older) ++ (x ++ newer))) nothing
    ∙ ap (λ x. root ++ x) (append_assoc (unfolded folds) older newer)

pub pushed_some : (fs : List Frame) (f : Frame) → 0 < length (fs ++ f ∷ [])
pushed_some [] f = omega arith
pushed_some (g ∷ fs) f = omega arith

-- the number of states on parts of the path
pub weight_from : (fs : List Frame) (after : ℕ) → weight fs after ≡ weight fs 0 + after
unfolding weight
weight_from [] after = omega arith
weight_from (g ∷ fs) after = let k = weight_from fs after in omega (arith, k)

weight_append : (fs gs : List Frame) → weight (fs ++ gs) 0 ≡ weight fs 0 + weight gs 0
unfolding weight
weight_append [] gs = omega arith
weight_append (f ∷ fs) gs = let k = weight_append fs gs in omega (arith, k)

pub states_push : (fs : List Frame) (f : Frame) → 0 < length fs → states_from (fs ++ f ∷ []) ≡ states_from fs + (f.before + 1)
states_push [] f some = absurd (omega (arith, some))
states_push (g ∷ fs) f some =
    let k = weight_push fs f 0 in
    let m = weight_from fs f.before in
    omega (arith, k, m)

pub states_few : (fs : List Frame) → states_from fs ≤ weight fs 0
unfolding weight
states_few [] = omega arith
states_few (f ∷ fs) = omega arith

-- a part has at most all states of the path
pub states_part : (items fs gs : List Frame) → items ≡ fs ++ gs → states_from gs ≤ weight items 0
states_part items fs gs e =
    let k = weight_append fs gs in
    let few = states_few gs in
    let same : weight items 0 ≡ weight (fs ++ gs) 0 = ap (λ x. weight x 0) e in
    omega (arith, k, few, same)

states_front : (fs gs : List Frame) → states_from fs ≤ states_from (fs ++ gs)
states_front [] gs = omega arith
states_front (f ∷ fs) gs = let k = weight_append fs gs in omega (arith, k)

pub states_taken : (all : List Frame) (k : ℕ) → states_from (take k all) ≤ states_from all
states_taken all k = subst (λ x. states_from (take k all) ≤ states_from x) (take-append-drop k all) (states_front (take k all) (drop k all))

-- the newest frame, taken as it is
pub taken_whole : (old new : List Frame) (f : Frame) → old ≡ new ++ f ∷ [] → IsTaken old new f
taken_whole old new f e = record { state = f.state; last = e; same = inl refl }

-- a frame with a pending successor is taken with its state
pub taken_state : (old new : List Frame) (f : Frame) (a : View) → f.pending ≡ Some a → (t : IsTaken old new f) → f.state ≡ t.state
taken_state old new f a some t = elim t.same [ inl e ↦ e | inr none ↦ let e : Some a ≡ None = sym some ∙ none.1 in cc ]

-- what holds of the frame's state on the path holds of the state that is taken
pub taken_own : (old new : List Frame) (f : Frame) (P : View → Type 0) (t : IsTaken old new f) → IfSome t.state P → IfSome f.state P
taken_own old new f P t h =
    elim t.same [ inl e ↦ subst (λ o. IfSome o P) (sym e) h | inr none ↦ subst (λ o. IfSome o P) (sym none.0) tt ]

begins_front : (a : View) (fs gs : List Frame) → 0 < length fs → BeginsWith a (fs ++ gs) → BeginsWith a fs
begins_front a [] gs some h = absurd (omega (arith, some))
begins_front a (f ∷ fs) gs some h = h

take_front : (n k : ℕ) (xs : List Frame) → k ≤ n → take k (take n xs) ≡ take k xs
take_front n zero [] le = refl
take_front n zero (x ∷ xs) le = refl
take_front zero (suc k) xs le = absurd (omega (arith, le))
take_front (suc n) (suc k) [] le = refl
take_front (suc n) (suc k) (x ∷ xs) le = ap (λ ys. x ∷ ys) (take_front n k xs (omega (arith, le)))

-- a fold without its newest frame
pub record LeftOut (first : View) (fs : List Frame) (new : List Outline) (all : List Frame) (o : Outline) : Type 0 where
  pub frame : Frame
  pub same : o ≡ outline_of frame
  pub last : all ≡ take (length new) fs ++ frame ∷ []
  pub folded : IsFolded first new (take (length new) fs)

pub left_out : (first : View) (fs : List Frame) (os new : List Outline) (o : Outline) → IsFolded first os (take (length os) fs) → slice_get os (length os - 1) ≡ Some o → new ≡ take (length os - 1) os → 1 < length os →
    LeftOut first fs new (take (length os) fs) o
left_out first fs os new o folded at e many =
    let all : List Frame = take (length os) fs in
    let k : ℕ = length os - 1 in
    let r = peeled all k o (subst (λ x. slice_get x k ≡ Some o) folded.same at) in
    let size : length os ≡ length all = ap length folded.same ∙ length-map all outline_of in
    let few : length all ≤ k + 1 = omega (arith, size) in
    let new_size : length new ≡ k = ap length e ∙ length-take-le k os (omega arith) in
    let front : take k all ≡ take (length new) fs = take_front (length os) k fs (omega arith) ∙ ap (λ n. take n fs) (sym new_size) in
    let split : all ≡ take (length new) fs ++ r.0 ∷ [] = sym (take_all (k + 1) all few) ∙ r.3 ∙ ap (λ x. x ++ r.0 ∷ []) front in
    let some : 0 < length (take k all) = let n = length-take-le k all (omega (arith, size)) in omega (arith, n, many) in
    record {
      frame = r.0;
      same = r.2;
      last = split;
      folded = record {
        begins = begins_front first (take (length new) fs) (r.0 ∷ []) (subst (λ x. 0 < length x) front some) (subst (BeginsWith first) split folded.begins);
        same = e ∙ ap (take k) folded.same ∙ take-map outline_of k all ∙ ap (map outline_of) front;
      };
    }

pub pushed_length : (items fs : List Frame) (f : Frame) → items ≡ fs ++ f ∷ [] → length items ≡ length fs + 1
pushed_length items fs f e = ap length e ∙ length-append fs (f ∷ [])

-- the states on the path are at most the visits
pub remade_few : (fs : List Frame) (after done visits : ℕ) → done + weight fs after ≤ visits → weight fs 0 ≤ visits
remade_few fs after done visits paid = let k = weight_from fs after in omega (arith, k, paid)

-- the newest fold, and what is written over it
pub folded_last : (folds : List (List Frame)) (n : ℕ) (fold new : List Frame) → length folds ≡ n + 1 → fold ≡ get_or folds n fold →
    (folds ≡ take n folds ++ fold ∷ []) × (set folds n new ≡ take n folds ++ new ∷ [])
folded_last folds n fold new size is =
    let lt : n < length folds = omega (arith, size) in
    let few : length folds ≤ n + 1 = omega (arith, size) in
    let past : length folds ≤ suc n = omega (arith, size) in (
      sym (take_all (n + 1) folds few) ∙ take_more folds n fold lt ∙ ap (λ x. take n folds ++ x ∷ []) (sym is),
      set_split folds n new lt ∙ ap (λ x. take n folds ++ new ∷ x) (drop_all (suc n) folds past),
    )

-- what is said of a frame that is taken, with more frames below
taken_over : (root below all : List Frame) (f : Frame) (o : Option View) → root ++ below ≡ all → (f.state ≡ o) ⊎ ((f.state ≡ None) × (f.pending ≡ None) × IfSome o (IsPushedOut below)) →
    (f.state ≡ o) ⊎ ((f.state ≡ None) × (f.pending ≡ None) × IfSome o (IsPushedOut all))
taken_over root below all f o e h =
    elim h [
      | inl same ↦ inl same
      | inr left ↦ inr (left.0, left.1, subst (λ x. IfSome o (IsPushedOut x)) e (pushed_over root below o left.2))
    ]

-- the newest frame of the newest fold is taken
pub taken_of_fold : (folds left rest : List (List Frame)) (fold new : List Frame) (f : Frame) → folds ≡ rest ++ fold ∷ [] → left ≡ rest ++ new ∷ [] → IsTaken fold new f → IsTaken (unfolded folds) (unfolded left) f
taken_of_fold folds left rest fold new f e e2 t =
    let g : Frame = with_state f t.state in
    record {
      state = t.state;
      last = ap unfolded e ∙ unfolded_push rest fold ∙ ap (λ x. unfolded rest ++ x) t.last ∙ sym (append_assoc (unfolded rest) new (g ∷ []))
          ∙ ap (λ x. x ++ g ∷ []) (sym (ap unfolded e2 ∙ unfolded_push rest new));
      same = taken_over (unfolded rest) new (unfolded left) f t.state (sym (ap unfolded e2 ∙ unfolded_push rest new)) t.same;
    }

-- the newest frame of the folds is taken, where none is after them
pub taken_of_folds : (root folds left older newer o n : List Frame) (f : Frame) → older ≡ [] → newer ≡ [] → o ≡ [] → n ≡ [] → IsTaken folds left f →
    IsTaken (root ++ (folds ++ (older ++ newer))) (root ++ (left ++ (o ++ n))) f
taken_of_folds root folds left older newer o n f none nothing g is t =
    let x : Frame = with_state f t.state in
    record {
      state = t.state;
      last = ap (λ y. root ++ (y ++ (older ++ newer))) t.last ∙ ap (λ y. root ++ ((left ++ x ∷ []) ++ (y ++ newer))) none
          ∙ ap (λ y. root ++ ((left ++ x ∷ []) ++ ([] ++ y))) nothing ∙ two root left (x ∷ [])
          ∙ ap (λ y. (root ++ (left ++ (y ++ []))) ++ x ∷ []) (sym g) ∙ ap (λ y. (root ++ (left ++ (o ++ y))) ++ x ∷ []) (sym is);
      same = taken_over root left (root ++ (left ++ (o ++ n))) f t.state
          (ap (λ y. root ++ y) (sym (append-nil left)) ∙ ap (λ y. root ++ (left ++ (y ++ []))) (sym g) ∙ ap (λ y. root ++ (left ++ (o ++ y))) (sym is)) t.same;
    }

pub taken_from : (a b new : List Frame) (f : Frame) → a ≡ b → IsTaken a new f → IsTaken b new f
taken_from a b new f e t = subst (λ x. IsTaken x new f) e t

-- the states of a part that is made again to one of its frames
pub states_within : (all : List Frame) (k : ℕ) (f : Frame) → take (k + 1) all ≡ take k all ++ f ∷ [] → 0 < length (take k all) → states_from (take k all) + (f.before + 1) ≤ states_from all
states_within all k f e some =
    let more = states_push (take k all) f some in
    let few = states_taken all (k + 1) in
    let same : states_from (take (k + 1) all) ≡ states_from (take k all ++ f ∷ []) = ap states_from e in
    omega (arith, more, few, same)

-- the frame of an outline without a pending successor
pub frame_of : (f : Frame) (o : Outline) → o ≡ outline_of f → o.forks ≡ false → f ≡ record { before = o.before; state = f.state; pending = None; best = o.best }
frame_of f o e forks =
    let g : Frame = record { before = o.before; state = f.state; pending = None; best = o.best } in
    same_frame g f (sym (ap (λ (x : Outline). x.before) e)) refl (none_of f.pending (sym (ap (λ (x : Outline). x.forks) e) ∙ forks)) (sym (ap (λ (x : Outline). x.best) e))
