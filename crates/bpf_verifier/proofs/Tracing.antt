-- Examining each state of the path gives the path again.
use Rattle.std.proofs.Common.{◌≡◌, ℕ, zero, suc, ◌+◌, List, [], ◌∷◌, ◌++◌, refl, sym, ap, ◌∙◌, subst, arith, Option, Some, None, IfSome}
use Rattle.std.specs.Prelude.{is_some}
use Rattle.bpf_decode.specs.Program.{Code, IsTarget}
use Rattle.bpf_decode.proofs.Whole.{same_insn}
use Rattle.bpf_rules.specs.declared.ways.Ways.{Ways}
use Rattle.bpf_rules.specs.declared.ways.Ways.TheVariants.{Nowhere, One, Two}
use Rattle.bpf_rules.specs.Examined.{examined}
use Rattle.bpf_rules.proofs.Outcomes.{okay-same}
use Rattle.bpf_absstate.specs.View.{View}
use Rattle.bpf_verifier.specs.declared.frame.Frame.{Frame}
use Rattle.bpf_verifier.specs.Path.{Leads, Opens, Linked}
use Rattle.bpf_verifier.specs.Traced.{HasWays, LeadsExactly, AreOpen, IsAtTarget, IsOpened, IsTraced}
use Rattle.bpf_verifier.proofs.Paths.{Linked-push, Linked-pop, Linked-on}

-- the path after its first frames
pub Linked-end : (L : Leads) (R : Opens) (fs gs : List Frame) (after : ℕ) (start a : View) → Linked L R (fs ++ gs) after start a → (mid : View) × Linked L R gs after mid a
unfolding Linked
Linked-end L R [] gs after start a w = (start, w)
Linked-end L R (f ∷ fs) gs after start a w = Linked-end L R fs gs after w.3 a w.5

pub same_ways : (c : Code) (a : View) (v w : Ways) → HasWays c a v → HasWays c a w → v ≡ w
same_ways c a v w h k =
    let same : h.insn ≡ k.insn = same_insn c.slots a.pc h.insn k.insn h.at k.at in
    okay-same v w (sym h.examined ∙ ap (λ i. examined c.shapes i a) same ∙ k.examined)

pub leads_none : (c : Code) (a : View) → LeadsExactly c 0 a a
unfolding LeadsExactly
leads_none c a = refl

-- one more state with one successor
pub leads_on : (c : Code) (a b x : View) (k : ℕ) → HasWays c a (One b) → LeadsExactly c k x a → LeadsExactly c (k + 1) x b
unfolding LeadsExactly
leads_on c a b x zero h e = subst (λ n. LeadsExactly c n x b) (let one : 1 ≡ 0 + 1 = omega arith in one) (b, subst (λ y. HasWays c y (One b)) (sym e) h, refl)
leads_on c a b x (suc k) h w = subst (λ n. LeadsExactly c n x b) (let more : suc (k + 1) ≡ suc k + 1 = omega arith in more) (w.0, w.1, leads_on c a b w.0 k h w.2)

pub same_state : (c : Code) (own : View) (o p : Option View) → IsAtTarget c own o → IsAtTarget c own p → o ≡ p
same_state c own None None h k = refl
same_state c own None (Some a) h k =
    h.there (subst (λ x. IsTarget c.slots x.pc) k.elsewhere.0 k.elsewhere.1) ∙ ap (λ x. Some x) (sym k.elsewhere.0)
same_state c own (Some a) p h k =
    ap (λ x. Some x) h.elsewhere.0 ∙ sym (k.there (subst (λ x. IsTarget c.slots x.pc) h.elsewhere.0 h.elsewhere.1))

-- whether a successor is pending determines which it is, and which is explored
pub same_way : (p q : Option View) (a b : View) (w : Ways) → is_some p ≡ is_some q → AreOpen p a w → AreOpen q b w → (p ≡ q) × (a ≡ b)
same_way None None a b Nowhere e h k = absurd h
same_way None None a b (One x) e h k = (refl, sym h ∙ k)
same_way None None a b (Two x y) e h k = (refl, sym h ∙ k)
same_way None (Some z) a b w e h k = cc
same_way (Some z) None a b w e h k = cc
same_way (Some z) (Some u) a b Nowhere e h k = absurd h
same_way (Some z) (Some u) a b (One x) e h k = absurd h
same_way (Some z) (Some u) a b (Two x y) e h k = (ap (λ v. Some v) (sym h.1 ∙ k.1), sym h.0 ∙ k.0)

-- frames whose parts are the same
pub same_frame : (f g : Frame) → g.before ≡ f.before → g.state ≡ f.state → g.pending ≡ f.pending → g.best ≡ f.best → g ≡ f
same_frame f g before state pending best = λ i. record { before = before i; state = state i; pending = pending i; best = best i }

-- examining a frame's own state, with its outline, gives the frame
pub reopened : (c : Code) (f g : Frame) (own a b : View) (w : Ways) → HasWays c own w → IsAtTarget c own g.state → AreOpen g.pending a w → g.before ≡ f.before → g.best ≡ f.best →
    is_some g.pending ≡ is_some f.pending → IsOpened c f own b → (g ≡ f) × (a ≡ b)
reopened c f g own a b w has state leads before best forks h =
    let k = same_way g.pending f.pending a b h.ways forks (subst (AreOpen g.pending a) (same_ways c own w h.ways has h.has) leads) h.leads in
    (same_frame f g before (same_state c own g.state f.state state h.state) k.0 best, k.1)

second_way : (a b : View) (w : Ways) → AreOpen (Some b) a w → AreOpen None b w
second_way a b Nowhere h = h
second_way a b (One x) h = absurd h
second_way a b (Two x y) h = h.1

-- the pending successor is explored
takes_up : (c : Code) (f g : Frame) (own a b : View) → g.state ≡ f.state → f.pending ≡ Some b → g.pending ≡ None → IsOpened c f own a → IsOpened c g own b
takes_up c f g own a b same some none h =
    record {
      ways = h.ways;
      has = h.has;
      state = subst (IsAtTarget c own) (sym same) h.state;
      leads = subst (λ o. AreOpen o b h.ways) (sym none) (second_way a b h.ways (subst (λ o. AreOpen o a h.ways) some h.leads));
    }

module _ (c : Code) where
  -- a path that loses its last frame
  pub goes_back : (items fs : List Frame) (f : Frame) (after : ℕ) (a : View) → items ≡ fs ++ f ∷ [] → IsTraced c items after a → (own : View) × IsTraced c fs f.before own
  goes_back items fs f after a e t =
      let k = Linked-pop (LeadsExactly c) (IsOpened c) fs f after t.0 a (subst (λ x. Linked (LeadsExactly c) (IsOpened c) x after t.0 a) e t.1) in
      (k.own, (t.0, k.below))

  -- one frame more
  pub goes_on : (fs : List Frame) (f : Frame) (after : ℕ) (own a : View) → f.before ≡ after → IfSome f.state (λ x. x ≡ own) → IsOpened c f own a → IsTraced c fs after own → IsTraced c (fs ++ f ∷ []) 0 a
  goes_on fs f after own a before kept opens t =
      (t.0, Linked-push (LeadsExactly c) (IsOpened c) fs f t.0 own a (subst (λ n. Linked (LeadsExactly c) (IsOpened c) fs n t.0 own) (sym before) t.1) kept opens (leads_none c a))

  -- the pending successor of the last frame is explored
  pub goes_over : (items fs : List Frame) (f g : Frame) (after : ℕ) (a b : View) → items ≡ fs ++ f ∷ [] → g.before ≡ f.before → g.state ≡ f.state → f.pending ≡ Some b → g.pending ≡ None →
      IsTraced c items after a → IsTraced c (fs ++ g ∷ []) 0 b
  goes_over items fs f g after a b e before same some none t =
      let k = Linked-pop (LeadsExactly c) (IsOpened c) fs f after t.0 a (subst (λ x. Linked (LeadsExactly c) (IsOpened c) x after t.0 a) e t.1) in
      goes_on fs g f.before k.own b before (subst (λ o. IfSome o (λ x. x ≡ k.own)) (sym same) k.kept) (takes_up c f g k.own k.child b same some none k.opens) (t.0, k.below)

  -- one more state with one successor
  pub goes_along : (fs : List Frame) (after : ℕ) (a b : View) → HasWays c a (One b) → IsTraced c fs after a → IsTraced c fs (after + 1) b
  goes_along fs after a b h t =
      (t.0, Linked-on (LeadsExactly c) (IsOpened c) fs after t.0 a b (λ x k. leads_on c a b x k h) t.1)

-- the first of the states with one successor that lead to another
pub first_step : (c : Code) (j : ℕ) (a b : View) → LeadsExactly c (suc j) a b → (m : View) × HasWays c a (One m) × LeadsExactly c j m b
unfolding LeadsExactly
first_step c j a b h = h

-- if one more state with one successor is left, it has a successor
pub way_of : (c : Code) (k j : ℕ) (a b : View) → k ≡ suc j → LeadsExactly c k a b → (m : View) × HasWays c a (One m)
way_of c k j a b e h = let r = first_step c j a b (subst (λ n. LeadsExactly c n a b) e h) in (r.0, r.1)

-- no state is left
pub led_there : (c : Code) (k : ℕ) (a b : View) → k ≡ 0 → LeadsExactly c k a b → a ≡ b
unfolding LeadsExactly
led_there c k a b e h = subst (λ n. LeadsExactly c n a b) e h

-- one state fewer is left
pub led_on : (c : Code) (k j : ℕ) (a b next : View) (w : Ways) → k ≡ suc j → HasWays c a w → w ≡ One next → LeadsExactly c k a b → LeadsExactly c j next b
led_on c k j a b next w e has one h =
    let r = first_step c j a b (subst (λ n. LeadsExactly c n a b) e h) in
    let same : One r.0 ≡ One next = same_ways c a (One r.0) w r.1 has ∙ one in
    let is : r.0 ≡ next = cc in
    subst (λ x. LeadsExactly c j x b) is r.2

module _ (c : Code) where
  -- the path after its first frames
  pub ends : (items fs gs : List Frame) (after : ℕ) (a : View) → items ≡ fs ++ gs → IsTraced c items after a → IsTraced c gs after a
  ends items fs gs after a e t =
      Linked-end (LeadsExactly c) (IsOpened c) fs gs after t.0 a (subst (λ x. Linked (LeadsExactly c) (IsOpened c) x after t.0 a) e t.1)
