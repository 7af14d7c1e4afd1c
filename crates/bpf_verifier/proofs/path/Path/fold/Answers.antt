use Rattle.std.proofs.Common.{◌≡◌, length, ◌∙◌, arith}
use Rattle.std.proofs.lemmas.Grind.{common_steps}
use Rattle.std.proofs.lemmas.List.{nil_from_length}
use Rattle.bpf_verifier.proofs.Folding.{rooted, folded_more}
use Rattle.bpf_verifier.proofs.path.Path.fold.Goals as goal
use Rattle.bpf_verifier.proofs.path.Path.fold.Goals.{then-is_empty+in_ok-append, else-is_empty}

pub returns-in_default : goal.returns-in_default
returns-in_default c = record {
  ok = elim c.if-is_empty.branch [
    | then-is_empty+in_ok-append w ↦
        let no : length c.self.inside.folds.items ≡ 0 = grind (arith, common_steps, w.if-is_empty.true, c.is_empty.ensures) in
        c.turn.ensures.is ∙ w.self-is
        ∙ rooted c.self.inside.root.items c.self.inside.older.items c.self.inside.newer.items w.append.new.self.items w.append.new.other.items c.self.inside.folds.items (nil_from_length c.self.inside.folds.items no) w.in_ok-append.ensures.items
        (nil_from_length w.append.new.other.items (grind (arith, common_steps, w.in_ok-append.ensures.other_items))) ∙ c.self.view_is
    | else-is_empty w ↦ c.turn.ensures.is ∙ w.self-is
  ];
}

pub returns : goal.returns
returns c = record {
  ok = c.turn-2.ensures.is
      ∙ folded_more c.self.inside.root.items c.self.inside.older.items c.self.inside.newer.items c.clear.new.self.items c.in-Some.fold c.self.inside.folds.items c.push.new.self.items c.in_ok-push.ensures.items
      (rw c.in-Some.is at c.in_ok-fold.ensures.is) c.clear.ensures.items ∙ c.self.view_is;
}
