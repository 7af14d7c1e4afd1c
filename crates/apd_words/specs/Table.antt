-- What the table of commands means.
use Rattle.std.specs.Prelude.{List, [], ◌∷◌, map, Some}
use Rattle.clap.specs.Words.{App, Rule, Shape, with_subcommand}
use Rattle.clap.specs.declared.builder.value_parser.ValueParser.{ValueParser}
use Rattle.clap.specs.declared.builder.value_parser.ValueParser.TheVariants.{Unsigned}
use Rattle.apd_words.specs.CommandLine.{required, optional, files, hook, flag, json, option, output, workers, states, command}
use Rattle.apd_words.specs.declared.table.Argument.{Argument}
use Rattle.apd_words.specs.declared.table.Argument.TheVariants as argument
use Rattle.apd_words.specs.declared.table.Described.{Described}

-- the rule of an argument, given the parsers of hooks and numbers of workers
abbrev pub rule_of_argument : ValueParser → ValueParser → Argument → Rule
rule_of_argument hooks numbers (argument.Required name help) = required name.now
rule_of_argument hooks numbers (argument.Optional name help) = optional name.now
rule_of_argument hooks numbers (argument.Files help) = files
rule_of_argument hooks numbers (argument.Hook help) = hook hooks
rule_of_argument hooks numbers (argument.Flag name help) = flag name.now
rule_of_argument hooks numbers (argument.Json help) = json
rule_of_argument hooks numbers (argument.Option name value help) = option name.now
rule_of_argument hooks numbers (argument.Output help) = output
rule_of_argument hooks numbers (argument.Workers help) = workers numbers
rule_of_argument hooks numbers (argument.States help) = states
rule_of_argument hooks numbers (argument.Limit name most help) =
    record (option name.now) { parser = Some (Unsigned 1 most) }

-- the shape of a command that the table describes
abbrev pub shape_of_described : ValueParser → ValueParser → Described → Shape
shape_of_described hooks numbers it =
    command it.name.now (map (rule_of_argument hooks numbers) it.arguments.now)

-- the program with more commands
abbrev pub with_commands : App → List Shape → App
with_commands a [] = a
with_commands a (s ∷ more) = with_commands (with_subcommand a s) more
