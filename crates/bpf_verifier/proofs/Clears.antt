-- The pending successors.
use Rattle.std.proofs.Common.{◌≡◌, ℕ, ◌+◌, ◌≤◌, List, [], ◌∷◌, ◌++◌, sym, ◌∙◌, ap, subst, arith, Some, None}
use Rattle.bpf_insn.specs.declared.insn.Insn.{Insn}
use Rattle.bpf_absstate.specs.View.{View}
use Rattle.bpf_verifier.specs.declared.frame.Frame.{Frame}
use Rattle.bpf_decode.specs.Program.{Code, Holds}
use Rattle.bpf_rules.specs.declared.fault.Fault.{Fault}
use Rattle.bpf_rules.specs.declared.ways.Ways.{Ways}
use Rattle.bpf_rules.specs.declared.ways.Ways.TheVariants.{Nowhere, One, Two}
use Rattle.bpf_rules.specs.Examined.{examined}
use Rattle.bpf_decode.proofs.Whole.{same_insn}
use Rattle.bpf_rules.proofs.Outcomes.{okay, refused, okay-same, refused-okay}
use Rattle.bpf_plain.specs.Clear.{IsClear, Ends, Goes, Parts}
use Rattle.bpf_verifier.specs.Clear.{IsClearWay, AreClear, AreClearWays}

pub AreClear-le : (c : Code) (fs : List Frame) (m n : ℕ) → m ≤ n → AreClear c fs m → AreClear c fs n
unfolding AreClear
AreClear-le c [] m n le h = tt
AreClear-le c (f ∷ fs) m n le h = (h.0, h.1, h.2, h.3, omega (arith, h.4, le))

pub AreClear-push : (c : Code) (fs : List Frame) (f : Frame) (l m : ℕ) → AreClear c fs l → IsClearWay c f.pending m → AreClear c (fs ++ f ∷ []) (l + m)
unfolding AreClear
AreClear-push c [] f l m h k = (m, 0, k, tt, omega arith)
AreClear-push c (g ∷ fs) f l m h k = (h.0, h.1 + m, h.2, AreClear-push c fs f h.1 m h.3 k, omega (arith, h.4))

-- the newest frame, and the others
pub AreClear-pop : (c : Code) (fs : List Frame) (f : Frame) (n : ℕ) → AreClear c (fs ++ f ∷ []) n →
    (l m : ℕ) × AreClear c fs l × IsClearWay c f.pending m × (l + m ≤ n)
unfolding AreClear
AreClear-pop c [] f n h = (0, h.0, tt, h.2, omega (arith, h.4))
AreClear-pop c (g ∷ fs) f n h =
    let r = AreClear-pop c fs f h.1 h.3 in
    (h.0 + r.0, r.1, (h.0, r.0, h.2, r.2, omega arith), r.3, omega (arith, h.4, r.4))

pub drops : (c : Code) (items fs : List Frame) (f : Frame) (n : ℕ) → items ≡ fs ++ f ∷ [] → AreClear c items n → AreClear c fs n
drops c items fs f n e h =
    let r = AreClear-pop c fs f n (subst (λ x. AreClear c x n) e h) in
    AreClear-le c fs r.0 n (omega (arith, r.4)) r.2

-- the pending successor is explored
pub takes_up : (c : Code) (items fs : List Frame) (f g : Frame) (a : View) (n : ℕ) → items ≡ fs ++ f ∷ [] → f.pending ≡ Some a → g.pending ≡ None →
    AreClear c items n → (l m : ℕ) × IsClear c a l × AreClear c (fs ++ g ∷ []) m × (l + m ≤ n)
takes_up c items fs f g a n e some none h =
    let r = AreClear-pop c fs f n (subst (λ x. AreClear c x n) e h) in
    (r.1, r.0 + 0, subst (λ o. IsClearWay c o r.1) some r.3, AreClear-push c fs g r.0 0 r.2 (subst (λ o. IsClearWay c o 0) (sym none) tt), omega (arith, r.4))

pub clear_some : (c : Code) (a : View) (n : ℕ) → IsClear c a n → 1 ≤ n
clear_some c a n (Ends a2 n2 i at e le) = le
clear_some c a n (Goes a2 n2 i x m at e h le) = omega (arith, le)
clear_some c a n (Parts a2 n2 i x y l m at e h k le) = omega (arith, le)

-- what a clear state's instruction makes of it
made_of : (c : Code) (a : View) (n : ℕ) → IsClear c a n → (i : Insn) × (w : Ways) × Holds c.slots a.pc i × (examined c.shapes i a ≡ okay w) × AreClearWays c w n
made_of c a n (Ends a2 n2 i at e le) = (i, Nowhere, at, e, le)
made_of c a n (Goes a2 n2 i x m at e h le) = (i, One x, at, e, (m, h, le))
made_of c a n (Parts a2 n2 i x y l m at e h k le) = (i, Two x y, at, e, (l, m, h, k, le))

pub opened : (c : Code) (a : View) (n : ℕ) (i : Insn) (w : Ways) → Holds c.slots a.pc i → examined c.shapes i a ≡ okay w → IsClear c a n → AreClearWays c w n
opened c a n i w at e h =
    let r = made_of c a n h in
    let same : r.0 ≡ i = same_insn c.slots a.pc r.0 i r.2 at in
    subst (λ x. AreClearWays c x n) (okay-same r.1 w (sym r.3 ∙ ap (λ j. examined c.shapes j a) same ∙ e)) r.4

pub not_refused : (c : Code) (a : View) (n : ℕ) (i : Insn) (f : Fault) → Holds c.slots a.pc i → examined c.shapes i a ≡ refused f → IsClear c a n → ⊥
not_refused c a n i f at e h =
    let r = made_of c a n h in
    let same : r.0 ≡ i = same_insn c.slots a.pc r.0 i r.2 at in
    refused-okay f r.1 (sym (sym r.3 ∙ ap (λ j. examined c.shapes j a) same ∙ e))

pub AreClear-none : (c : Code) (fs : List Frame) → fs ≡ [] → AreClear c fs 0
unfolding AreClear
AreClear-none c fs e = subst (λ x. AreClear c x 0) (sym e) tt
