-- The safety of runs while a path is explored.
use Rattle.std.proofs.Common.{◌≡◌, ℕ, ◌+◌, ◌≤◌, ◌⊎◌, List, [], ◌∷◌, ◌++◌, inl, inr, sym, subst, arith, Some, None, IfSome}
use Rattle.bpf_model.specs.State.{Setting, State}
use Rattle.bpf_model.specs.Step.{next}
use Rattle.bpf_model.specs.Run.{IsFine, SafeWithin}
use Rattle.bpf_model.proofs.Within.{IsFine-weaken, SafeWithin-step, SafeWithin-le}
use Rattle.bpf_absstate.specs.Contains.{Contains}
use Rattle.bpf_absstate.specs.View.{View}
use Rattle.bpf_verifier.specs.declared.frame.Frame.{Frame}
use Rattle.bpf_rules.specs.declared.ways.Ways.TheVariants.{Nowhere, One, Two}
use Rattle.bpf_verifier.specs.Path.{Linked}
use Rattle.bpf_rules.specs.Covers.{InWays, Covers}
use Rattle.bpf_verifier.specs.Safety.{InWay, AllSafe, LeadsSafely, IsExplored}
use Rattle.bpf_verifier.proofs.Paths.{Linked-push, Linked-pop}

module _ (p : Setting) where
  pub stays : (a : View) → LeadsSafely p 0 a a
  stays a n safe s w = SafeWithin-le p n (n + 0) s (omega arith) (safe s w)

  one_done : (a b : View) (n : ℕ) → Covers p a (One b) → AllSafe p n b → AllSafe p (n + 1) a
  one_done a b n covers safe s w =
      SafeWithin-step p n s (IsFine-weaken p.shapes (next p s) (InWays p (One b)) (SafeWithin p n) (λ t y. safe t y) (covers s w))

  -- one more state with one successor
  pub leads_on : (a b x : View) (k : ℕ) → Covers p a (One b) → LeadsSafely p k x a → LeadsSafely p (k + 1) x b
  leads_on a b x k covers leads n safe s w =
      SafeWithin-le p (n + 1 + k) (n + (k + 1)) s (omega arith) (leads (n + 1) (one_done a b n covers safe) s w)

  -- the child is finished: its budget counts
  child_done : (f : Frame) (own a : View) (done best : ℕ) → done ≤ best → f.best ≤ best → IsExplored p f own a → AllSafe p done a →
      (s : State) → Contains p own s → IsFine p.shapes (next p s) (λ t. InWay p f.pending t ⊎ SafeWithin p best t)
  child_done f own a done best le le2 h safe s w =
      IsFine-weaken p.shapes (next p s) (λ t. Contains p a t ⊎ (InWay p f.pending t ⊎ SafeWithin p f.best t)) (λ t. InWay p f.pending t ⊎ SafeWithin p best t)
      (λ t. elim [
        | inl x ↦ inr (SafeWithin-le p done best t le (safe t x))
        | inr y ↦ elim y [ inl x ↦ inl x | inr z ↦ inr (SafeWithin-le p f.best best t le2 z) ]
      ])
      (h s w)

  -- the pending successor is explored
  goes_to_pending : (f g : Frame) (own a b : View) (done : ℕ) → f.pending ≡ Some b → g.pending ≡ None → done ≤ g.best → f.best ≤ g.best →
      IsExplored p f own a → AllSafe p done a → IsExplored p g own b
  goes_to_pending f g own a b done e none le le2 h safe s w =
      IsFine-weaken p.shapes (next p s) (λ t. InWay p f.pending t ⊎ SafeWithin p g.best t) (λ t. Contains p b t ⊎ (InWay p g.pending t ⊎ SafeWithin p g.best t))
      (λ t. elim [ inl x ↦ inl (subst (λ o. InWay p o t) e x) | inr z ↦ inr (inr z) ])
      (child_done f own a done g.best le le2 h safe s w)

  -- all successors are finished
  frame_done : (f : Frame) (own a : View) (done best : ℕ) → f.pending ≡ None → done ≤ best → f.best ≤ best → IsExplored p f own a → AllSafe p done a →
      AllSafe p (best + 1) own
  frame_done f own a done best none le le2 h safe s w =
      SafeWithin-step p best s
      (IsFine-weaken p.shapes (next p s) (λ t. InWay p f.pending t ⊎ SafeWithin p best t) (SafeWithin p best)
      (λ t. elim [ inl x ↦ absurd (subst (λ o. InWay p o t) none x) | inr z ↦ z ])
      (child_done f own a done best le le2 h safe s w))

  -- a state without successors
  pub leaf_done : (a : View) → Covers p a Nowhere → AllSafe p 1 a
  leaf_done a h s x = SafeWithin-step p 0 s (IsFine-weaken p.shapes (next p s) (InWays p Nowhere) (SafeWithin p 0) (λ t y. absurd y) (h s x))

  pub opens_one : (f : Frame) (own a : View) → f.pending ≡ None → Covers p own (One a) → IsExplored p f own a
  opens_one f own a none h s x =
      IsFine-weaken p.shapes (next p s) (InWays p (One a)) (λ t. Contains p a t ⊎ (InWay p f.pending t ⊎ SafeWithin p f.best t)) (λ t y. inl y) (h s x)

  pub opens_two : (f : Frame) (own a b : View) → f.pending ≡ Some b → Covers p own (Two a b) → IsExplored p f own a
  opens_two f own a b some h s x =
      IsFine-weaken p.shapes (next p s) (InWays p (Two a b)) (λ t. Contains p a t ⊎ (InWay p f.pending t ⊎ SafeWithin p f.best t))
      (λ t. elim [ inl y ↦ inl y | inr y ↦ inr (inl (subst (λ o. InWay p o t) (sym some) y)) ])
      (h s x)

  -- the newest frame is finished
  pub goes_back : (items fs : List Frame) (f : Frame) (after : ℕ) (start a : View) (done best : ℕ) → items ≡ fs ++ f ∷ [] → f.pending ≡ None → done + after ≤ best → f.best ≤ best →
      Linked (LeadsSafely p) (IsExplored p) items after start a → AllSafe p done a →
      (own : View) × IfSome f.state (λ x. x ≡ own) × Linked (LeadsSafely p) (IsExplored p) fs f.before start own × AllSafe p (best + 1) own
  goes_back items fs f after start a done best e none le le2 chain safe =
      let k = Linked-pop (LeadsSafely p) (IsExplored p) fs f after start a (subst (λ x. Linked (LeadsSafely p) (IsExplored p) x after start a) e chain) in
      (k.own, k.kept, k.below, frame_done f k.own k.child (done + after) best none le le2 k.opens (k.leads done safe))

  -- the pending successor of the newest frame is next
  pub goes_over : (items fs : List Frame) (f g : Frame) (after : ℕ) (start a b : View) (done : ℕ) → items ≡ fs ++ f ∷ [] → g.before ≡ f.before → g.state ≡ f.state → f.pending ≡ Some b →
      g.pending ≡ None → done + after ≤ g.best → f.best ≤ g.best → Linked (LeadsSafely p) (IsExplored p) items after start a → AllSafe p done a →
      Linked (LeadsSafely p) (IsExplored p) (fs ++ g ∷ []) 0 start b
  goes_over items fs f g after start a b done e before same some none le le2 chain safe =
      let k = Linked-pop (LeadsSafely p) (IsExplored p) fs f after start a (subst (λ x. Linked (LeadsSafely p) (IsExplored p) x after start a) e chain) in
      Linked-push (LeadsSafely p) (IsExplored p) fs g start k.own b (subst (λ m. Linked (LeadsSafely p) (IsExplored p) fs m start k.own) (sym before) k.below)
      (subst (λ o. IfSome o (λ x. x ≡ k.own)) (sym same) k.kept)
      (goes_to_pending f g k.own k.child b (done + after) some none le le2 k.opens (k.leads done safe)) (stays b)
