-- Frames that are rebuilt.
use Rattle.std.proofs.Common.{◌≡◌, ◌<◌, ℕ, ◌+◌, length, arith, List, [], ◌∷◌, ◌++◌, take, drop, refl, sym, subst, Some, IfSome}
use Rattle.std.specs.Prelude.{map, slice_get}
use Rattle.bpf_decode.specs.Program.{Code}
use Rattle.bpf_absstate.specs.View.{View}
use Rattle.bpf_verifier.specs.declared.frame.Frame.{Frame}
use Rattle.bpf_verifier.specs.declared.fold.Outline.{Outline}
use Rattle.bpf_verifier.specs.Folded.{outline_of, IsFolded}
use Rattle.bpf_verifier.specs.Path.{Linked}
use Rattle.bpf_verifier.specs.Traced.{LeadsExactly, IsOpened, IsTraced}
use Rattle.bpf_verifier.proofs.Folding.{peeled}

-- the frame whose state is known, and the path after it
pub record First (c : Code) (all : List Frame) (first : View) (o : Outline) (after : ℕ) (a : View) : Type 0 where
  pub frame : Frame
  pub taken : take 1 all ≡ frame ∷ []
  pub same : o ≡ outline_of frame
  pub child : View
  pub opens : IsOpened c frame first child
  pub above : Linked (LeadsExactly c) (IsOpened c) (drop 1 all) after child a

pub first_of : (c : Code) (all : List Frame) (first : View) (os : List Outline) (o : Outline) (after : ℕ) (a : View) → IsFolded first os all → slice_get os 0 ≡ Some o → IsTraced c all after a →
    First c all first o after a
unfolding Linked
first_of c [] first os o after a folded at t = absurd folded.begins
first_of c (f ∷ fs) first os o after a folded at t =
    let w = t.1 in
    let own : first ≡ w.0 = subst (λ x. IfSome x (λ y. y ≡ w.0)) folded.begins w.2 in
    let here : slice_get (map outline_of (f ∷ fs)) 0 ≡ Some o = subst (λ x. slice_get x 0 ≡ Some o) folded.same at in
    record {
      frame = f;
      taken = refl;
      same = cc;
      child = w.3;
      opens = subst (λ x. IsOpened c f x w.3) (sym own) w.4;
      above = w.5;
    }

-- the next frame, how the child of the last leads to its state, and the path after it
pub record Next (c : Code) (all : List Frame) (k : ℕ) (current : View) (o : Outline) (after : ℕ) (a : View) : Type 0 where
  pub frame : Frame
  pub taken : take (k + 1) all ≡ take k all ++ frame ∷ []
  pub same : o ≡ outline_of frame
  pub own : View
  pub leads : LeadsExactly c o.before current own
  pub child : View
  pub opens : IsOpened c frame own child
  pub above : Linked (LeadsExactly c) (IsOpened c) (drop (k + 1) all) after child a

pub next_of : (c : Code) (all : List Frame) (k : ℕ) (current : View) (os : List Outline) (o : Outline) (after : ℕ) (a : View) → os ≡ map outline_of all → slice_get os k ≡ Some o →
    Linked (LeadsExactly c) (IsOpened c) (drop k all) after current a → Next c all k current o after a
unfolding Linked
next_of c all k current os o after a same at t =
    let r = peeled all k o (subst (λ x. slice_get x k ≡ Some o) same at) in
    let w : Linked (LeadsExactly c) (IsOpened c) (r.0 ∷ drop (k + 1) all) after current a = subst (λ x. Linked (LeadsExactly c) (IsOpened c) x after current a) r.1 t in
    record {
      frame = r.0;
      taken = r.3;
      same = r.2;
      own = w.0;
      leads = subst (λ x. LeadsExactly c x.before current w.0) (sym r.2) w.1;
      child = w.3;
      opens = w.4;
      above = w.5;
    }

pub some_outline : (all : List Frame) (first : View) (os : List Outline) → IsFolded first os all → 0 < length os
some_outline [] first os folded = absurd folded.begins
some_outline (f ∷ fs) first os folded = subst (λ x. 0 < length x) (sym folded.same) (omega arith)
