use Rattle.std.proofs.Common.{rules}
use Rattle.apd_words.proofs.Added.{command_next}
use Rattle.apd_words.proofs.command.command_of.Goals as goal

pub loop-argument-preserved : goal.loop-argument-preserved
loop-argument-preserved c =
    command_next c.loop-argument.command c.in_ok-command.command c.arg_of.result _ _ c.args.described.now.arguments.now c.loop-argument.argument-index _ (search rules)
    c.in_ok-command.ensures c.arg_of.ensures.local c.loop-argument.invariant c.arg_of.ensures.is
