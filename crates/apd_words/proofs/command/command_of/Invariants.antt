use Rattle.std.proofs.Common.{take, map}
use Rattle.apd_words.specs.Built.{IsCommand}
use Rattle.apd_words.specs.CommandLine.{command}
use Rattle.apd_words.specs.Table.{rule_of_argument}
use Rattle.apd_words.proofs.command.command_of.Given as goal

-- the command has the arguments so far
abbrev pub invariant-loop-argument : goal.invariant-loop-argument
invariant-loop-argument l =
    IsCommand (command l.described.name.now (map (rule_of_argument l.hooks l.numbers) (take l.argument-index l.described.arguments.now))) l.command
