use Rattle.std.proofs.Common.{take, map, IfOk}
use Rattle.apd_words.specs.Built.{IsProgram}
use Rattle.apd_words.specs.CommandLine.{program}
use Rattle.apd_words.specs.Table.{shape_of_described, with_commands}
use Rattle.apd_words.proofs.command.with_commands.Given as goal

-- the program has the commands so far
abbrev pub invariant-loop-described : goal.invariant-loop-described
invariant-loop-described l =
    IfOk l.line (IsProgram (with_commands program (map (shape_of_described l.hooks l.numbers) (take l.described-index l.commands))))
