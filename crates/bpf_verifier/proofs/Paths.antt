-- How the path grows and shrinks.
use Rattle.std.proofs.Common.{◌≡◌, ℕ, ◌+◌, List, [], ◌∷◌, ◌++◌, sym, subst, Option, Some, None, IfSome}
use Rattle.std.proofs.lemmas.List.Elements.{All-push, All-pop}
use Rattle.bpf_insn.specs.declared.insn.Insn.{Insn}
use Rattle.bpf_absstate.specs.View.{View}
use Rattle.bpf_verifier.specs.declared.frame.Frame.{Frame}
use Rattle.bpf_verifier.specs.Path.{Leads, Opens, Linked, AreBegun, StandsIn}

-- a frame is pushed
pub Linked-push : (L : Leads) (R : Opens) (fs : List Frame) (f : Frame) (start own a : View) → Linked L R fs f.before start own → IfSome f.state (λ x. x ≡ own) → R f own a → L 0 a a →
    Linked L R (fs ++ f ∷ []) 0 start a
unfolding Linked
Linked-push L R [] f start own a w kept h stays = (own, w, kept, a, h, stays)
Linked-push L R (g ∷ fs) f start own a w kept h stays = (w.0, w.1, w.2, w.3, w.4, Linked-push L R fs f w.3 own a w.5 kept h stays)

-- the newest frame: its state, and how that leads to the state to examine next
pub record Popped (L : Leads) (R : Opens) (fs : List Frame) (f : Frame) (after : ℕ) (start a : View) : Type 0 where
  pub own : View
  pub below : Linked L R fs f.before start own
  pub kept : IfSome f.state (λ x. x ≡ own)
  pub child : View
  pub opens : R f own child
  pub leads : L after child a

pub Linked-pop : (L : Leads) (R : Opens) (fs : List Frame) (f : Frame) (after : ℕ) (start a : View) → Linked L R (fs ++ f ∷ []) after start a → Popped L R fs f after start a
unfolding Linked
Linked-pop L R [] f after start a w = record { own = w.0; below = w.1; kept = w.2; child = w.3; opens = w.4; leads = w.5 }
Linked-pop L R (g ∷ fs) f after start a w =
    let r = Linked-pop L R fs f after w.3 a w.5 in
    record { own = r.own; below = (w.0, w.1, w.2, w.3, w.4, r.below); kept = r.kept; child = r.child; opens = r.opens; leads = r.leads }

-- one more state with one successor
pub Linked-on : (L : Leads) (R : Opens) (fs : List Frame) (after : ℕ) (start a b : View) → ((x : View) (k : ℕ) → L k x a → L (k + 1) x b) → Linked L R fs after start a → Linked L R fs (after + 1) start b
unfolding Linked
Linked-on L R [] after start a b step w = step start after w
Linked-on L R (g ∷ fs) after start a b step w = (w.0, w.1, w.2, w.3, w.4, Linked-on L R fs after w.3 a b step w.5)

pub Linked-empty : (L : Leads) (R : Opens) (fs : List Frame) (after : ℕ) (a : View) → fs ≡ [] → after ≡ 0 → L 0 a a → Linked L R fs after a a
unfolding Linked
Linked-empty L R fs after a e none h = subst (λ x. Linked L R x after a a) (sym e) (subst (λ k. L k a a) (sym none) h)

-- on an empty path, states with one successor lead from the start
pub Linked-start : (L : Leads) (R : Opens) (fs : List Frame) (after : ℕ) (start a : View) → fs ≡ [] → Linked L R fs after start a → L after start a
unfolding Linked
Linked-start L R fs after start a e w = subst (λ x. Linked L R x after start a) e w

-- what holds of the frame's own state holds of the kept one
pub of_own : (P : View → Type 0) (o : Option View) (own : View) → IfSome o (λ x. x ≡ own) → P own → IfSome o P
of_own P None own h k = tt
of_own P (Some a) own h k = subst P (sym h) k

pub of_any : (Q : Type 0) (o : Option View) → Q → IfSome o (λ x. Q)
of_any Q None k = tt
of_any Q (Some a) k = k

abbrev IsBegunFrame : List (Option Insn) → Frame → Type 0
IsBegunFrame slots f = IfSome f.pending (StandsIn slots)

pub AreBegun-push : (slots : List (Option Insn)) (fs : List Frame) (f : Frame) → AreBegun slots fs → IfSome f.pending (StandsIn slots) → AreBegun slots (fs ++ f ∷ [])
AreBegun-push slots fs f h k = All-push (IsBegunFrame slots) fs f h k

pub AreBegun-pop : (slots : List (Option Insn)) (items fs : List Frame) (f : Frame) → items ≡ fs ++ f ∷ [] → AreBegun slots items →
    AreBegun slots fs × IfSome f.pending (StandsIn slots)
AreBegun-pop slots items fs f e h = All-pop (IsBegunFrame slots) items fs (Some f) e h

pub pending-is : (P : View → Type 0) (o : Option View) (a : View) → o ≡ Some a → IfSome o P → P a
pending-is P o a e h = subst (λ x. IfSome x P) e h
