use Rattle.std.proofs.Common.{rules, ◌≡◌, ◌<◌, ◌-◌, List, [], ◌∷◌, ◌++◌, take, length, refl, sym, ap, subst, ◌∙◌, Some, inr, arith}
use Rattle.std.specs.Prelude.{slice_get}
use Rattle.std.proofs.lemmas.Option.{slice_get_read}
use Rattle.bpf_verifier.specs.declared.frame.Frame.{Frame}
use Rattle.bpf_verifier.specs.declared.fold.Outline.{Outline}
use Rattle.std.proofs.lemmas.List.{length-map}
use Rattle.bpf_verifier.specs.Folded.{outline_of}
use Rattle.bpf_verifier.proofs.Folding.{left_out, frame_of}
use Rattle.bpf_verifier.proofs.Pushing.{left_pushed, pushed_front}
use Rattle.bpf_verifier.proofs.fold.Fold.leave_out.Goals as goal

pub invariant_of-self : goal.invariant_of-self
invariant_of-self c =
    let os : List Outline = c.self.inside.outlines.items in
    let o : Outline = c.index-outline.result.now in
    let size : c.len-count.result ≡ length os = search rules in
    let rest : c.pop-last.new.self.items ≡ take (length os - 1) os = c.pop-last.ensures.rest ∙ ap (λ n. take (n - 1) os) (sym c.len-count.ensures ∙ size) in
    let lt : c.len-count.result - 1 < c.len-count.result = omega (arith, c.if-count-le1.false) in
    let at : slice_get os (length os - 1) ≡ Some o = subst (λ n. slice_get os (n - 1) ≡ Some o) size (slice_get_read os c.len-count.result (c.len-count.result - 1) o size lt c.index-outline.ensures) in
    let many : 1 < length os = omega (arith, size, c.if-count-le1.false) in
    let r = left_out c.self.inside.first c.self.inside.frames.value.items os c.pop-last.new.self.items o c.self.invariant.0 at rest many in
    (r.folded, pushed_front c.self.inside.needed (take (length os) c.self.inside.frames.value.items) (take (length c.pop-last.new.self.items) c.self.inside.frames.value.items) r.frame r.last c.self.invariant.1)

pub returns-clause-some : goal.returns-clause-some
returns-clause-some c =
    let os : List Outline = c.self.inside.outlines.items in
    let o : Outline = c.index-outline.result.now in
    let size : c.len-count.result ≡ length os = search rules in
    let rest : c.pop-last.new.self.items ≡ take (length os - 1) os = c.pop-last.ensures.rest ∙ ap (λ n. take (n - 1) os) (sym c.len-count.ensures ∙ size) in
    let lt : c.len-count.result - 1 < c.len-count.result = omega (arith, c.if-count-le1.false) in
    let at : slice_get os (length os - 1) ≡ Some o = subst (λ n. slice_get os (n - 1) ≡ Some o) size (slice_get_read os c.len-count.result (c.len-count.result - 1) o size lt c.index-outline.ensures) in
    let many : 1 < length os = omega (arith, size, c.if-count-le1.false) in
    let all : List Frame = take (length os) c.self.inside.frames.value.items in
    let r = left_out c.self.inside.first c.self.inside.frames.value.items os c.pop-last.new.self.items o c.self.invariant.0 at rest many in
    let long : length os ≡ length all = ap length c.self.invariant.0.same ∙ length-map all outline_of in
    let above : c.self.inside.needed < length all = omega (arith, size, long, c.if-count-le1.false) in
    record {
      state = r.frame.state;
      last = sym c.self.view_is ∙ r.last ∙ ap (λ (f : Frame). take (length c.pop-last.new.self.items) c.self.inside.frames.value.items ++ f ∷ []) (frame_of r.frame o r.same c.if-outline.false);
      same = inr (refl, refl, left_pushed c.self.inside.needed all (take (length c.pop-last.new.self.items) c.self.inside.frames.value.items) r.frame r.last above c.self.invariant.1);
    }
