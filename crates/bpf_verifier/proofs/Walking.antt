-- Budgets are lengths of paths of slots.
use Rattle.std.proofs.Common.{◌≡◌, ℕ, ◌+◌, ◌≤◌, List, [], ◌∷◌, ◌++◌, length, sym, subst, arith, Option, Some, None, IfSome, max, inl, inr}
use Rattle.std.proofs.lemmas.Bool.{cases_lt}
use Rattle.bpf_insn.specs.declared.insn.Insn.{Insn}
use Rattle.bpf_absstate.specs.View.{View}
use Rattle.bpf_verifier.specs.declared.frame.Frame.{Frame}
use Rattle.bpf_verifier.specs.Path.{Linked}
use Rattle.bpf_plain.specs.Paths.{IsPath, Reaches}
use Rattle.bpf_verifier.specs.Walked.{LeadsBySlots, IsWalked}
use Rattle.bpf_plain.specs.Walks.{Follows}
use Rattle.bpf_verifier.proofs.Paths.{Linked-push, Linked-pop}

-- one slot before a path
pub Reaches-more : (slots : List (Option Insn)) (k t n : ℕ) → Follows slots k t → Reaches slots t n → Reaches slots k (n + 1)
unfolding IsPath
Reaches-more slots k t n follows r =
    record { rest = t ∷ r.rest; path = (follows, r.path); long = let le : n ≤ length r.rest + 1 = r.long in let e : length (t ∷ r.rest) ≡ length r.rest + 1 = omega arith in omega (arith, le, e) }

Reaches-max : (slots : List (Option Insn)) (k m n : ℕ) → Reaches slots k (m + 1) → Reaches slots k (n + 1) → Reaches slots k (max m n + 1)
Reaches-max slots k m n r q =
    elim (cases_lt m n) [
      | inl less ↦ subst (λ x. Reaches slots k (x + 1)) (let e : n ≡ max m n = omega arith in e) q
      | inr not_less ↦ subst (λ x. Reaches slots k (x + 1)) (let e : m ≡ max m n = omega arith in e) r
    ]

module _ (slots : List (Option Insn)) where
  pub stays : (a : View) → LeadsBySlots slots 0 a a
  stays a n r = subst (Reaches slots a.pc) (let e : n ≡ n + 0 = omega arith in e) r

  -- one more state with one successor
  pub leads_on : (a b x : View) (k : ℕ) → Follows slots a.pc b.pc → LeadsBySlots slots k x a → LeadsBySlots slots (k + 1) x b
  leads_on a b x k follows leads n r =
      subst (Reaches slots x.pc) (let e : n + 1 + k ≡ n + (k + 1) = omega arith in e) (leads (n + 1) (Reaches-more slots a.pc b.pc n follows r))

  -- the child is finished: its budget counts
  child_done : (f : Frame) (own a : View) (done : ℕ) → IsWalked slots f own a → Reaches slots a.pc done → Reaches slots own.pc (max f.best done + 1)
  child_done f own a done w r = Reaches-max slots own.pc f.best done w.best (Reaches-more slots own.pc a.pc done w.follows r)

  -- the newest frame is finished
  pub goes_back : (items fs : List Frame) (f : Frame) (after : ℕ) (start a : View) (done : ℕ) → items ≡ fs ++ f ∷ [] →
      Linked (LeadsBySlots slots) (IsWalked slots) items after start a → Reaches slots a.pc done →
      (own : View) × IfSome f.state (λ x. x ≡ own) × Linked (LeadsBySlots slots) (IsWalked slots) fs f.before start own × Reaches slots own.pc (max f.best (done + after) + 1)
  goes_back items fs f after start a done e path r =
      let k = Linked-pop (LeadsBySlots slots) (IsWalked slots) fs f after start a (subst (λ x. Linked (LeadsBySlots slots) (IsWalked slots) x after start a) e path) in
      (k.own, k.kept, k.below, child_done f k.own k.child (done + after) k.opens (k.leads done r))

  -- the pending successor of the newest frame is next
  pub goes_over : (items fs : List Frame) (f g : Frame) (after : ℕ) (start a b : View) (done : ℕ) → items ≡ fs ++ f ∷ [] → g.before ≡ f.before → g.state ≡ f.state → f.pending ≡ Some b →
      g.pending ≡ None → g.best ≡ max f.best (done + after) → Linked (LeadsBySlots slots) (IsWalked slots) items after start a → Reaches slots a.pc done →
      Linked (LeadsBySlots slots) (IsWalked slots) (fs ++ g ∷ []) 0 start b
  goes_over items fs f g after start a b done e before same some none best path r =
      let k = Linked-pop (LeadsBySlots slots) (IsWalked slots) fs f after start a (subst (λ x. Linked (LeadsBySlots slots) (IsWalked slots) x after start a) e path) in
      let w : IsWalked slots f k.own k.child = k.opens in
      let walked : IsWalked slots g k.own b = record {
        follows = subst (λ o. IfSome o (λ x. Follows slots k.own.pc x.pc)) some w.pending;
        pending = subst (λ o. IfSome o (λ x. Follows slots k.own.pc x.pc)) (sym none) tt;
        best = subst (λ n. Reaches slots k.own.pc (n + 1)) (sym best) (child_done f k.own k.child (done + after) w (k.leads done r));
      } in
      Linked-push (LeadsBySlots slots) (IsWalked slots) fs g start k.own b (subst (λ m. Linked (LeadsBySlots slots) (IsWalked slots) fs m start k.own) (sym before) k.below)
      (subst (λ o. IfSome o (λ x. x ≡ k.own)) (sym same) k.kept) walked (stays b)
