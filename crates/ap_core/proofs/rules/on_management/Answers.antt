use Rattle.std.proofs.Common.{sym, ap, subst, ◌∙◌}
use Rattle.std.specs.Prelude.{IsSome}
use Rattle.assoc.specs.Standings.{standing}
use Rattle.ap_core.proofs.Handling.{silently}
use Rattle.ap_core.proofs.AssociationLaws.{known_from_class}
use Rattle.ap_core.proofs.rules.on_management.Goals as goal

pub on_class_one-requires-clause-stands : goal.on_class_one-requires-clause-stands
on_class_one-requires-clause-stands g c = c.requires.came.standing ∙ ap (standing c.args.state.now.link) (sym c.sender.ensures)

pub on_class_two-requires-clause-known : goal.on_class_two-requires-clause-known
on_class_two-requires-clause-known g c =
    subst (λ s. IsSome s) c.requires.came.standing (known_from_class c.args.came.now.standing (rw c.in-Two.is at c.requires.permitted))

pub returns-in_ok-outs-in-One-clause-step : goal.returns-in_ok-outs-in-One-clause-step
returns-in_ok-outs-in-One-clause-step g c = silently g.J.Judge.gives _ _ _ (c.in_ok-outs-in-One.ensures.step c.args.came.now.frame (sym c.sender.ensures))
