use Rattle.std.proofs.Common.{rules}
use Rattle.apd_words.proofs.Added.{program_next}
use Rattle.apd_words.proofs.command.with_commands.Goals as goal

pub loop-described-preserved : goal.loop-described-preserved
loop-described-preserved c =
    program_next c.with_command-line.result _ _ c.args.commands.now c.loop-described.described-index _ (search rules)
    (c.with_command-line.ensures.is _ _ c.loop-described.invariant c.command_of.ensures.is)
