use Rattle.std.proofs.Common.{◌≡◌, ◌+◌, ◌++◌, ◌∷◌, ◌∙◌, List, ℕ, [], length, refl, sym, ap, arith, append-nil}
use Rattle.std.specs.String.{string_bytes}
use Rattle.apd_eval.specs.Changes.{Agrees, NoQuery, Same, Differs, change_in}
use Rattle.apd_eval.specs.declared.again.Contrast.{Contrast}
use Rattle.apd_eval.proofs.changes.Changes.tell.Goals as goal

pub returns-then-agrees : goal.returns-then-agrees
returns-then-agrees c = record {
  told = record {
    changes = [];
    are = Same c.args.contrast.now [] [] (c.agrees.ensures.is.0 c.if-agrees.true) NoQuery;
    form = refl;
    text = sym (append-nil (string_bytes c.args.self.now.text));
    judged = refl;
    changed = omega arith;
  };
}

pub returns : goal.returns
returns c =
    let x : Contrast = c.args.contrast.now in
    let differs : Agrees x → ⊥ = (λ a. let t = c.agrees.ensures.is.1 a in let f = c.if-agrees.false in cc) in
    record {
      told = record {
        changes = x ∷ [];
        are = Differs x [] [] differs NoQuery;
        form = refl;
        text = c.in_ok-append_change.ensures.ok ∙ ap (λ (l : List ℕ). string_bytes c.args.self.now.text ++ l) (sym (append-nil (change_in c.args.self.now.json x)));
        judged = refl;
        changed = omega arith;
      };
    }
