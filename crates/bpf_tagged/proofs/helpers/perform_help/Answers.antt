use Rattle.bpf_tagged.proofs.Moving.{faults, moves, not_equal}
use Rattle.bpf_tagged.proofs.helpers.perform_help.Goals as goal

pub returns-then-helper-eq1-clause-performs : goal.returns-then-helper-eq1-clause-performs
returns-then-helper-eq1-clause-performs g c = rw c.if-helper-eq1.true (moves g.P.Port.gives c.args.shapes.now _ _ _ _ _ c.perform_lookup.ensures)

pub returns-then-helper-eq2-clause-performs : goal.returns-then-helper-eq2-clause-performs
returns-then-helper-eq2-clause-performs g c = rw c.if-helper-eq2.true (rw c.requires.shapes at c.perform_ask.ensures.performs)

pub returns-then-helper-eq3-clause-performs : goal.returns-then-helper-eq3-clause-performs
returns-then-helper-eq3-clause-performs g c = rw c.if-helper-eq3.true (rw c.requires.shapes at c.perform_ask-then-helper-eq3.ensures.performs)

pub returns-then-helper-eq4-clause-performs : goal.returns-then-helper-eq4-clause-performs
returns-then-helper-eq4-clause-performs g c = rw c.if-helper-eq4.true (rw c.requires.shapes at c.perform_ask-then-helper-eq4.ensures.performs)

pub returns-then-helper-eq5-clause-performs : goal.returns-then-helper-eq5-clause-performs
returns-then-helper-eq5-clause-performs g c = rw c.if-helper-eq5.true (moves g.P.Port.gives c.args.shapes.now _ _ _ _ _ c.perform_note.ensures)

pub returns-clause-performs : goal.returns-clause-performs
returns-clause-performs g c =
    faults g.P.Port.gives c.args.shapes.now _ _ _ c.args.machine.now _
    (λ notes. simp (not_equal c.args.helper 1 c.if-helper-eq1.false, not_equal c.args.helper 2 c.if-helper-eq2.false, not_equal c.args.helper 3 c.if-helper-eq3.false, not_equal c.args.helper 4 c.if-helper-eq4.false, not_equal c.args.helper 5 c.if-helper-eq5.false))
