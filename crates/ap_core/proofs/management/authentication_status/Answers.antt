use Rattle.std.proofs.Common.{inl, inr, sym, ◌∙◌, ap}
use Rattle.std.specs.Prelude.{is_some}
use Rattle.ap_model.specs.Associations.{other_algorithm, other_transaction, no_room, accepted}
use Rattle.ap_core.proofs.management.authentication_status.Goals as goal

pub returns-then-algorithm-ne0 : goal.returns-then-algorithm-ne0
returns-then-algorithm-ne0 c = other_algorithm c.if-algorithm-ne0.true

pub returns-then-transaction-ne1 : goal.returns-then-transaction-ne1
returns-then-transaction-ne1 c = other_transaction c.if-algorithm-ne0.false c.if-transaction-ne1.true

pub returns-in-Some : goal.returns-in-Some
returns-in-Some c = accepted c.if-algorithm-ne0.false c.if-transaction-ne1.false (inl (ap is_some (sym c.requires ∙ c.in-Some.is)))

pub returns-then-is_full : goal.returns-then-is_full
returns-then-is_full c = no_room c.if-algorithm-ne0.false c.if-transaction-ne1.false (sym c.requires ∙ c.in-None.is) (c.is_full.ensures.0 c.if-is_full.true)

pub returns-in-None : goal.returns-in-None
returns-in-None c = accepted c.if-algorithm-ne0.false c.if-transaction-ne1.false (inr (λ full. let t = c.is_full.ensures.1 full in let f = c.if-is_full.false in cc))
