use Rattle.std.proofs.Common.{rules, arith, ◌≡◌, ◌≤◌, ◌∷◌, ◌++◌, [], ◌+◌, List, length, take, drop, refl, sym, ap, subst, ◌∙◌, Some}
use Rattle.std.specs.Prelude.{slice_get}
use Rattle.std.proofs.lemmas.List.{length-map, take_all}
use Rattle.std.proofs.lemmas.Option.{slice_get_read}
use Rattle.bpf_verifier.specs.Counting.{states_from, weight}
use Rattle.bpf_verifier.specs.declared.fold.Outline.{Outline}
use Rattle.bpf_verifier.specs.Folded.{IsFolded, outline_of}
use Rattle.bpf_verifier.specs.Path.{Linked}
use Rattle.bpf_verifier.specs.Traced.{LeadsExactly, IsOpened}
use Rattle.bpf_verifier.proofs.Folding.{pushed_some, states_push, states_taken, states_within}
use Rattle.bpf_verifier.proofs.Reopening.{first_of, next_of, some_outline}
use Rattle.bpf_verifier.proofs.fold.Fold.unfold.Goals as goal

pub reopened-requires : goal.reopened-requires
reopened-requires c =
    let os : List Outline = c.self.inside.outlines.items in
    let folded : IsFolded c.self.inside.first os c.args.self = subst (IsFolded c.self.inside.first os) c.self.view_is c.self.invariant.0 in
    let at : slice_get os 0 ≡ Some c.index.result.now = slice_get_read os (length os) 0 c.index.result.now refl (some_outline c.args.self c.self.inside.first os folded) c.index.ensures in
    let r = first_of c.args.program.now c.args.self c.self.inside.first os c.index.result.now c.requires.traced.0 c.requires.traced.1 folded at c.requires.traced.2 in
    record { opens = (r.frame, r.child, r.opens, r.same) }

pub loop-k-init : goal.loop-k-init
unfolding weight
loop-k-init c =
    let os : List Outline = c.self.inside.outlines.items in
    let folded : IsFolded c.self.inside.first os c.args.self = subst (IsFolded c.self.inside.first os) c.self.view_is c.self.invariant.0 in
    let at : slice_get os 0 ≡ Some c.index.result.now = slice_get_read os (length os) 0 c.index.result.now refl (some_outline c.args.self c.self.inside.first os folded) c.index.ensures in
    let r = first_of c.args.program.now c.args.self c.self.inside.first os c.index.result.now c.requires.traced.0 c.requires.traced.1 folded at c.requires.traced.2 in
    let is = c.in_ok-frame.ensures.is r.frame r.child r.opens r.same in
    record {
      frames = c.in_ok-add.ensures.items ∙ ap (λ x. x ++ c.in_ok-frame.field-0.frame ∷ []) c.in_ok-frames.ensures.items ∙ ap (λ f. f ∷ []) is.0 ∙ sym r.taken;
      rest = (c.requires.traced.0, c.requires.traced.1, subst (λ x. Linked (LeadsExactly c.args.program.now) (IsOpened c.args.program.now) (drop 1 c.args.self) c.requires.traced.0 x c.requires.traced.1) (sym (c.child.view_is ∙ is.1)) r.above);
      some = rw r.taken (omega arith);
      most = c.in_ok-frame.ensures.most;
      examined = c.in_ok-frame.ensures.examined;
      remade = rw r.taken c.in_ok-frame.ensures.remade;
      units = c.in_ok-frame.ensures.units;
    }

pub next_opened-requires : goal.next_opened-requires
next_opened-requires c =
    let os : List Outline = c.self.inside.outlines.items in
    let folded : IsFolded c.self.inside.first os c.args.self = subst (IsFolded c.self.inside.first os) c.self.view_is c.self.invariant.0 in
    let o : Outline = c.index-outline.result.now in
    let at : slice_get os c.loop-k.k ≡ Some o = slice_get_read os c.len-k-end.result c.loop-k.k o (search rules) c.loop-k-test.true c.index-outline.ensures in
    let t = c.loop-k.invariant.rest in
    let r = next_of c.args.program.now c.args.self c.loop-k.k c.loop-k.current os o t.0 t.1 folded.same at t.2 in
    record { opens = (r.own, r.leads, (r.frame, r.child, r.opens, r.same)) }

pub loop-k-preserved : goal.loop-k-preserved
loop-k-preserved c =
    let os : List Outline = c.self.inside.outlines.items in
    let folded : IsFolded c.self.inside.first os c.args.self = subst (IsFolded c.self.inside.first os) c.self.view_is c.self.invariant.0 in
    let o : Outline = c.index-outline.result.now in
    let at : slice_get os c.loop-k.k ≡ Some o = slice_get_read os c.len-k-end.result c.loop-k.k o (search rules) c.loop-k-test.true c.index-outline.ensures in
    let t = c.loop-k.invariant.rest in
    let r = next_of c.args.program.now c.args.self c.loop-k.k c.loop-k.current os o t.0 t.1 folded.same at t.2 in
    let is = c.in_ok-frame-2.ensures.is r.own r.frame r.child r.leads r.opens r.same in
    record {
      frames = c.in_ok-add-2.ensures.items ∙ ap (λ x. x ++ c.in_ok-frame-2.field-0.frame ∷ []) c.loop-k.invariant.frames ∙ ap (λ f. take c.loop-k.k c.args.self ++ f ∷ []) is.0 ∙ sym r.taken;
      rest = (t.0, t.1, subst (λ x. Linked (LeadsExactly c.args.program.now) (IsOpened c.args.program.now) (drop (c.loop-k.k + 1) c.args.self) t.0 x t.1) (sym is.1) r.above);
      some = rw r.taken (pushed_some (take c.loop-k.k c.args.self) r.frame);
      most = c.in_ok-frame-2.ensures.most ∙ c.loop-k.invariant.most;
      examined = c.in_ok-frame-2.ensures.examined ∙ c.loop-k.invariant.examined;
      remade =
          let before : o.before ≡ r.frame.before = ap (λ (x : Outline). x.before) r.same in
          let more = states_push (take c.loop-k.k c.args.self) r.frame c.loop-k.invariant.some in
          rw r.taken (omega (arith, before, more, c.in_ok-frame-2.ensures.remade, c.loop-k.invariant.remade));
      units = omega (arith, c.in_ok-frame-2.ensures.units, c.loop-k.invariant.units);
    }

pub returns-in_err-frame-2-clause-greatest : goal.returns-in_err-frame-2-clause-greatest
returns-in_err-frame-2-clause-greatest c =
    let os : List Outline = c.self.inside.outlines.items in
    let folded : IsFolded c.self.inside.first os c.args.self = subst (IsFolded c.self.inside.first os) c.self.view_is c.self.invariant.0 in
    let o : Outline = c.index-outline.result.now in
    let at : slice_get os c.loop-k.k ≡ Some o = slice_get_read os c.len-k-end.result c.loop-k.k o (search rules) c.loop-k-test.true c.index-outline.ensures in
    let t = c.loop-k.invariant.rest in
    let r = next_of c.args.program.now c.args.self c.loop-k.k c.loop-k.current os o t.0 t.1 folded.same at t.2 in
    let before : o.before ≡ r.frame.before = ap (λ (x : Outline). x.before) r.same in
    let few = states_within c.args.self c.loop-k.k r.frame r.taken c.loop-k.invariant.some in
    omega (arith, before, few, c.next_opened.ensures.greatest, c.loop-k.invariant.remade)

pub returns-in_err-add-2-clause-greatest : goal.returns-in_err-add-2-clause-greatest
returns-in_err-add-2-clause-greatest c =
    let os : List Outline = c.self.inside.outlines.items in
    let folded : IsFolded c.self.inside.first os c.args.self = subst (IsFolded c.self.inside.first os) c.self.view_is c.self.invariant.0 in
    let o : Outline = c.index-outline.result.now in
    let at : slice_get os c.loop-k.k ≡ Some o = slice_get_read os c.len-k-end.result c.loop-k.k o (search rules) c.loop-k-test.true c.index-outline.ensures in
    let t = c.loop-k.invariant.rest in
    let r = next_of c.args.program.now c.args.self c.loop-k.k c.loop-k.current os o t.0 t.1 folded.same at t.2 in
    let before : o.before ≡ r.frame.before = ap (λ (x : Outline). x.before) r.same in
    let few = states_within c.args.self c.loop-k.k r.frame r.taken c.loop-k.invariant.some in
    omega (arith, before, few, c.in_ok-frame-2.ensures.remade, c.loop-k.invariant.remade)

pub returns-clause-greatest : goal.returns-clause-greatest
returns-clause-greatest c =
    let few = states_taken c.args.self c.loop-k.k in
    omega (arith, few, c.loop-k.invariant.remade)

pub returns-clause-remade : goal.returns-clause-remade
returns-clause-remade c =
    let os : List Outline = c.self.inside.outlines.items in
    let folded : IsFolded c.self.inside.first os c.args.self = subst (IsFolded c.self.inside.first os) c.self.view_is c.self.invariant.0 in
    let size : length os ≡ length c.args.self = ap length folded.same ∙ length-map c.args.self outline_of in
    let past : length c.args.self ≤ c.loop-k.k = omega (arith, size, c.loop-k-test.false, c.len-k-end.ensures) in
    let all : states_from (take c.loop-k.k c.args.self) ≡ states_from c.args.self = ap states_from (take_all c.loop-k.k c.args.self past) in
    omega (arith, all, c.loop-k.invariant.remade)
