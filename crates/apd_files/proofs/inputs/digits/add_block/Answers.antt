use Rattle.std.proofs.Common.{sym, ◌∙◌}
use Rattle.apd_files.proofs.Collected.{Adds-step, Stops-at, on_ok}
use Rattle.apd_files.proofs.inputs.digits.add_block.Goals as goal

pub returns-then-is_foreign-clause-stops : goal.returns-then-is_foreign-clause-stops
returns-then-is_foreign-clause-stops c =
    Stops-at c.args.most c.args.block.now c.args.digits.now.items c.loop-at.digits.items c.loop-at.at c.loop-at-test.true (c.is_foreign.ensures.is.0 c.if-is_foreign.true) c.loop-at.invariant

pub loop-at-preserved : goal.loop-at-preserved
loop-at-preserved c =
    Adds-step c.args.most c.args.block.now c.args.digits.now.items c.loop-at.digits.items c.add_byte.new.digits.items c.loop-at.at c.loop-at-test.true c.loop-at.invariant
    (on_ok c.add_byte.result _ (sym c.is_err.ensures.value ∙ c.if-is_err.false) c.add_byte.ensures.adds)
