use Rattle.std.proofs.Common.{◌≡◌, ◌++◌, [], sym, ◌∙◌, arith}
use Rattle.std.proofs.lemmas.Grind.{common_steps}
use Rattle.std.proofs.lemmas.List.{nil_from_length}
use Rattle.bpf_verifier.specs.Folded.{unfolded}
use Rattle.bpf_verifier.proofs.Folding.{all_folded, nothing, popped, popped_older, popped_fold, popped_root, taken_whole, taken_of_folds, taken_from, states_part}
use Rattle.bpf_verifier.proofs.Tracing as tracing
use Rattle.bpf_verifier.proofs.path.Path.pop.Goals as goal

pub unfold-requires : goal.unfold-requires
unfold-requires c =
    let newer : c.self.inside.newer.items ≡ [] = nil_from_length c.self.inside.newer.items (grind (arith, common_steps, c.in_default.is, c.in_default.ensures.cases)) in
    let older : c.self.inside.older.items ≡ [] = nil_from_length c.self.inside.older.items (grind (arith, common_steps, c.in_default-pop.is, c.in_default-pop.ensures.cases)) in
    let t = c.requires.traced in
    let same : c.left_out.new.folds.items ≡ c.self.inside.folds.items = c.in_default-left_out.ensures.none in
    let e = all_folded c.self.inside.root.items c.self.inside.folds.items c.pop-3.new.self.items c.in-Some-pop-2.fold c.self.inside.older.items c.self.inside.newer.items (sym same ∙ c.in-Some-pop-2.ensures.items) older newer in
    record {
      traced = (t.0, t.1, tracing.ends c.args.program.now c.args.self.now (c.self.inside.root.items ++ unfolded c.pop-3.new.self.items) c.in-Some-pop-2.fold t.0 t.1 (sym c.self.view_is ∙ e) t.2);
    }

pub returns-in-Some-pop-3-clause-some : goal.returns-in-Some-pop-3-clause-some
returns-in-Some-pop-3-clause-some c =
    let newer : c.self.inside.newer.items ≡ [] = nil_from_length c.self.inside.newer.items (grind (arith, common_steps, c.in_default.is, c.in_default.ensures.cases)) in
    let older : c.self.inside.older.items ≡ [] = nil_from_length c.self.inside.older.items (grind (arith, common_steps, c.in_default-pop.is, c.in_default-pop.ensures.cases)) in
    let same : c.left_out.new.folds.items ≡ c.self.inside.folds.items = c.in_default-left_out.ensures.none in
    let folds : c.self.inside.folds.items ≡ [] = sym same ∙ nil_from_length c.left_out.new.folds.items (grind (arith, common_steps, c.in_default-pop-2.is, c.in_default-pop-2.ensures.cases)) in
    let no_newer : c.pop.new.self.items ≡ [] = nil_from_length c.pop.new.self.items (grind (arith, common_steps, c.in_default.is, c.in_default.ensures.cases)) in
    let no_older : c.pop-2.new.self.items ≡ [] = nil_from_length c.pop-2.new.self.items (grind (arith, common_steps, c.in_default-pop.is, c.in_default-pop.ensures.cases)) in
    let no_folds : c.pop-3.new.self.items ≡ [] = nil_from_length c.pop-3.new.self.items (grind (arith, common_steps, c.in_default-pop-2.is, c.in_default-pop-2.ensures.cases)) in
    taken_whole c.args.self.now _ c.in-Some-pop-3.frame (sym c.self.view_is
    ∙ popped_root c.self.inside.root.items c.pop-in_default-pop-2.new.self.items c.self.inside.folds.items c.pop-3.new.self.items c.self.inside.older.items c.self.inside.newer.items c.pop-2.new.self.items c.pop.new.self.items c.in-Some-pop-3.frame
    folds older newer no_folds no_older no_newer c.in-Some-pop-3.ensures.items)

pub returns-in_default-pop-2-clause-none : goal.returns-in_default-pop-2-clause-none
returns-in_default-pop-2-clause-none c =
    let newer : c.self.inside.newer.items ≡ [] = nil_from_length c.self.inside.newer.items (grind (arith, common_steps, c.in_default.is, c.in_default.ensures.cases)) in
    let older : c.self.inside.older.items ≡ [] = nil_from_length c.self.inside.older.items (grind (arith, common_steps, c.in_default-pop.is, c.in_default-pop.ensures.cases)) in
    let same : c.left_out.new.folds.items ≡ c.self.inside.folds.items = c.in_default-left_out.ensures.none in
    let folds : c.self.inside.folds.items ≡ [] = sym same ∙ nil_from_length c.left_out.new.folds.items (grind (arith, common_steps, c.in_default-pop-2.is, c.in_default-pop-2.ensures.cases)) in
    let root : c.self.inside.root.items ≡ [] = nil_from_length c.self.inside.root.items (grind (arith, common_steps, c.in_default-pop-3.is, c.in_default-pop-3.ensures.cases)) in
    let no_newer : c.pop.new.self.items ≡ [] = nil_from_length c.pop.new.self.items (grind (arith, common_steps, c.in_default.is, c.in_default.ensures.cases)) in
    let no_older : c.pop-2.new.self.items ≡ [] = nil_from_length c.pop-2.new.self.items (grind (arith, common_steps, c.in_default-pop.is, c.in_default-pop.ensures.cases)) in
    let no_folds : c.pop-3.new.self.items ≡ [] = nil_from_length c.pop-3.new.self.items (grind (arith, common_steps, c.in_default-pop-2.is, c.in_default-pop-2.ensures.cases)) in
    let no_root : c.pop-in_default-pop-2.new.self.items ≡ [] = nil_from_length c.pop-in_default-pop-2.new.self.items (grind (arith, common_steps, c.in_default-pop-3.is, c.in_default-pop-3.ensures.cases)) in (
      sym c.self.view_is ∙ nothing c.self.inside.root.items c.self.inside.older.items c.self.inside.newer.items c.self.inside.folds.items root folds older newer,
      nothing c.pop-in_default-pop-2.new.self.items c.pop-2.new.self.items c.pop.new.self.items c.pop-3.new.self.items no_root no_folds no_older no_newer,
    )

pub returns-in-Some-pop-4-clause-some : goal.returns-in-Some-pop-4-clause-some
returns-in-Some-pop-4-clause-some c =
    let newer : c.self.inside.newer.items ≡ [] = nil_from_length c.self.inside.newer.items (grind (arith, common_steps, c.in_default.is, c.in_default.ensures.cases)) in
    let older : c.self.inside.older.items ≡ [] = nil_from_length c.self.inside.older.items (grind (arith, common_steps, c.in_default-pop.is, c.in_default-pop.ensures.cases)) in
    let no_newer : c.pop.new.self.items ≡ [] = nil_from_length c.pop.new.self.items (grind (arith, common_steps, c.in_default.is, c.in_default.ensures.cases)) in
    let same : c.left_out.new.folds.items ≡ c.self.inside.folds.items = c.in_default-left_out.ensures.none in
    taken_whole c.args.self.now _ c.in-Some-pop-4.frame (sym c.self.view_is
    ∙ popped_fold c.self.inside.root.items c.self.inside.folds.items c.pop-3.new.self.items c.in-Some-pop-2.fold c.self.inside.older.items c.self.inside.newer.items c.pop-4.new.self.items c.in_ok-self-inside.field-0.items c.pop.new.self.items c.in-Some-pop-4.frame
    (sym same ∙ c.in-Some-pop-2.ensures.items) older newer c.in_ok-self-inside.ensures.is c.in-Some-pop-4.ensures.items no_newer)

pub returns-in-Some-clause-some : goal.returns-in-Some-clause-some
returns-in-Some-clause-some c =
    taken_whole c.args.self.now _ c.in-Some.frame
    (sym c.self.view_is ∙ popped c.self.inside.root.items (unfolded c.self.inside.folds.items) c.self.inside.older.items c.self.inside.newer.items c.in-Some.frame c.pop.new.self.items c.in-Some.ensures.items)

pub returns-in-Some-pop-clause-some : goal.returns-in-Some-pop-clause-some
returns-in-Some-pop-clause-some c =
    let newer : c.self.inside.newer.items ≡ [] = nil_from_length c.self.inside.newer.items (grind (arith, common_steps, c.in_default.is, c.in_default.ensures.cases)) in
    let no_newer : c.pop.new.self.items ≡ [] = nil_from_length c.pop.new.self.items (grind (arith, common_steps, c.in_default.is, c.in_default.ensures.cases)) in
    taken_whole c.args.self.now _ c.in-Some-pop.frame
    (sym c.self.view_is ∙ popped_older c.self.inside.root.items (unfolded c.self.inside.folds.items) c.self.inside.older.items c.self.inside.newer.items c.in-Some-pop.frame c.pop-2.new.self.items c.pop.new.self.items newer no_newer c.in-Some-pop.ensures.items)

pub returns-in-Some-left_out-clause-some : goal.returns-in-Some-left_out-clause-some
returns-in-Some-left_out-clause-some c =
    let newer : c.self.inside.newer.items ≡ [] = nil_from_length c.self.inside.newer.items (grind (arith, common_steps, c.in_default.is, c.in_default.ensures.cases)) in
    let older : c.self.inside.older.items ≡ [] = nil_from_length c.self.inside.older.items (grind (arith, common_steps, c.in_default-pop.is, c.in_default-pop.ensures.cases)) in
    let no_newer : c.pop.new.self.items ≡ [] = nil_from_length c.pop.new.self.items (grind (arith, common_steps, c.in_default.is, c.in_default.ensures.cases)) in
    let no_older : c.pop-2.new.self.items ≡ [] = nil_from_length c.pop-2.new.self.items (grind (arith, common_steps, c.in_default-pop.is, c.in_default-pop.ensures.cases)) in
    taken_from _ c.args.self.now _ c.in-Some-left_out.frame c.self.view_is
    (taken_of_folds c.self.inside.root.items (unfolded c.self.inside.folds.items) (unfolded c.left_out.new.folds.items) c.self.inside.older.items c.self.inside.newer.items c.pop-2.new.self.items c.pop.new.self.items c.in-Some-left_out.frame
    older newer no_older no_newer c.in-Some-left_out.ensures.some)

pub returns-in_err-self-inside-clause-greatest : goal.returns-in_err-self-inside-clause-greatest
returns-in_err-self-inside-clause-greatest c =
    let newer : c.self.inside.newer.items ≡ [] = nil_from_length c.self.inside.newer.items (grind (arith, common_steps, c.in_default.is, c.in_default.ensures.cases)) in
    let older : c.self.inside.older.items ≡ [] = nil_from_length c.self.inside.older.items (grind (arith, common_steps, c.in_default-pop.is, c.in_default-pop.ensures.cases)) in
    let same : c.left_out.new.folds.items ≡ c.self.inside.folds.items = c.in_default-left_out.ensures.none in
    let e = all_folded c.self.inside.root.items c.self.inside.folds.items c.pop-3.new.self.items c.in-Some-pop-2.fold c.self.inside.older.items c.self.inside.newer.items (sym same ∙ c.in-Some-pop-2.ensures.items) older newer in
    let few = states_part c.args.self.now (c.self.inside.root.items ++ unfolded c.pop-3.new.self.items) c.in-Some-pop-2.fold (sym c.self.view_is ∙ e) in
    let made = c.unfold.ensures.greatest in
    omega (arith, few, made)

pub returns-in-Some-pop-4-clause-greatest : goal.returns-in-Some-pop-4-clause-greatest
returns-in-Some-pop-4-clause-greatest c =
    let newer : c.self.inside.newer.items ≡ [] = nil_from_length c.self.inside.newer.items (grind (arith, common_steps, c.in_default.is, c.in_default.ensures.cases)) in
    let older : c.self.inside.older.items ≡ [] = nil_from_length c.self.inside.older.items (grind (arith, common_steps, c.in_default-pop.is, c.in_default-pop.ensures.cases)) in
    let same : c.left_out.new.folds.items ≡ c.self.inside.folds.items = c.in_default-left_out.ensures.none in
    let e = all_folded c.self.inside.root.items c.self.inside.folds.items c.pop-3.new.self.items c.in-Some-pop-2.fold c.self.inside.older.items c.self.inside.newer.items (sym same ∙ c.in-Some-pop-2.ensures.items) older newer in
    let few = states_part c.args.self.now (c.self.inside.root.items ++ unfolded c.pop-3.new.self.items) c.in-Some-pop-2.fold (sym c.self.view_is ∙ e) in
    let made = c.unfold.ensures.greatest in
    omega (arith, few, made)
