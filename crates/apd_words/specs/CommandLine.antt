-- The commands of `apd`, with their arguments in order.
use Rattle.std.specs.Prelude.{◌≡◌, ℕ, true, List, [], ◌∷◌, map, codes, Some}
use Rattle.std.specs.Borrow.{Bor}
use Rattle.clap.specs.Words.{App, Rule, Shape, Text, new_rule, with_subcommand}
use Rattle.clap.specs.Simple.{new_shape}
use Rattle.clap.specs.declared.builder.action.ArgAction.TheVariants.{Append, Set, SetTrue}
use Rattle.clap.specs.declared.builder.value_parser.ValueParser.{ValueParser}
use Rattle.clap.specs.declared.builder.value_parser.ValueParser.TheVariants.{Names, Unsigned}

-- the names of the hooks
abbrev pub hook_names : List Text
hook_names = codes "assoc" ∷ codes "addba" ∷ codes "data" ∷ []

-- the numbers of workers
abbrev pub worker_names : List Text
worker_names =
    codes "1" ∷ codes "2" ∷ codes "3" ∷ codes "4" ∷ codes "5" ∷ codes "6"
    ∷ codes "7" ∷ codes "8" ∷ []

-- the largest limit of states
abbrev pub most_states : ℕ
most_states = 4194304

-- the largest limit of work that may be named; no program needs it
abbrev pub most_work : ℕ
most_work = 1099511627776

-- the most times that a judgement may be repeated
abbrev pub most_repeats : ℕ
most_repeats = 1000000

-- a value is one of these names
pub record TakesNames (parser : ValueParser) (names : List Text) : Type 0 where
  pub given : Bor (List (Bor Text))
  pub is : parser ≡ Names given
  pub spelled : map (λ s. s.now) given.now ≡ names

-- a required positional argument
abbrev pub required : Text → Rule
required id = record (new_rule id) { required = true }

-- an optional positional argument
abbrev pub optional : Text → Rule
optional id = new_rule id

-- `--NAME`
abbrev pub flag : Text → Rule
flag name = record (new_rule name) { long = Some name; action = Some SetTrue }

-- `--NAME VALUE`
abbrev pub option : Text → Rule
option name = record (new_rule name) { long = Some name; value_names = 1; action = Some Set }

-- the argument FILE
abbrev pub file : Rule
file = required (codes "FILE")

-- the argument FILE, once or more
abbrev pub files : Rule
files = record file { action = Some Append }

-- `--config C`
abbrev pub config : Rule
config = option (codes "config")

-- `-o FILE`, or `--output FILE`; the letter is 111
abbrev pub output : Rule
output = record (option (codes "output")) { short = Some 111 }

-- `--against OLD`
abbrev pub against : Rule
against = option (codes "against")

-- `-j`, or `--json`; the letter is 106
abbrev pub json : Rule
json = record (flag (codes "json")) { short = Some 106 }

-- `--bssid ADDR`
abbrev pub bssid : Rule
bssid = option (codes "bssid")

-- `--pcap OUT`
abbrev pub pcap : Rule
pcap = option (codes "pcap")

-- `--context KEY=VALUE,..`
abbrev pub context : Rule
context = option (codes "context")

-- `--events FORM`
abbrev pub events : Rule
events = option (codes "events")

-- `--color WHEN`
abbrev pub color : Rule
color = option (codes "color")

-- the argument HOOK, which must be the name of one
abbrev pub hook : ValueParser → Rule
hook hooks = record (required (codes "HOOK")) { parser = Some hooks }

-- `--workers N`, 2 by default
abbrev pub workers : ValueParser → Rule
workers numbers =
    record (option (codes "workers")) { parser = Some numbers; defaults = codes "2" ∷ [] }

-- `--states N`, by default the most
abbrev pub states : Rule
states = record (option (codes "states")) {
  parser = Some (Unsigned 1 most_states);
  defaults = codes "4194304" ∷ [];
}

-- `--work N`, by default without a limit
abbrev pub work : Rule
work = record (option (codes "work")) { parser = Some (Unsigned 1 most_work) }

-- `--repeat N`, by default not at all
abbrev pub repeat : Rule
repeat = record (option (codes "repeat")) { parser = Some (Unsigned 1 most_repeats) }

-- a command with these arguments
abbrev pub command : Text → List Rule → Shape
command name rules = record (new_shape name) { rules = rules }

-- a command on code for a hook, with more arguments after the code
abbrev pub hook_command : Text → ValueParser → List Rule → Shape
hook_command name hooks more = command name (hook hooks ∷ file ∷ more)

-- `verify HOOK FILE [--config C] [--states N] [--explain] [--work N]`
abbrev pub verify : ValueParser → Shape
verify hooks =
    hook_command (codes "verify") hooks (config ∷ states ∷ flag (codes "explain") ∷ work ∷ [])

-- `asm FILE [-o FILE]`
abbrev pub assemble : Shape
assemble = command (codes "asm") (file ∷ output ∷ [])

-- `disasm FILE [--config C] [--slots] [--raw] [--dot] [-o FILE] [--explain]`
abbrev pub disassemble : Shape
disassemble =
    command (codes "disasm") (file ∷ config ∷ flag (codes "slots") ∷ flag (codes "raw")
    ∷ flag (codes "dot") ∷ output ∷ flag (codes "explain") ∷ [])

-- `trace HOOK FILE FRAME [--config C] [--states N] [--context KEY=VALUE,..] [--from-frame]
-- [--explain] [--work N]`
abbrev pub trace : ValueParser → Shape
trace hooks =
    hook_command (codes "trace") hooks (required (codes "FRAME") ∷ config ∷ states ∷ context
    ∷ flag (codes "from-frame") ∷ flag (codes "explain") ∷ work ∷ [])

-- `eval HOOK FILE CAPTURE [--config C] [--against OLD] [--states N] [-j] [-o FILE] [--work N]
-- [--profile] [--dot] [--repeat N]`
abbrev pub evaluate : ValueParser → Shape
evaluate hooks =
    hook_command (codes "eval") hooks (required (codes "CAPTURE") ∷ config ∷ against ∷ states
    ∷ json ∷ output ∷ work ∷ flag (codes "profile") ∷ flag (codes "dot") ∷ repeat ∷ [])

-- `run C SCRIPT [--workers N] [--states N] [--quiet] [--strict] [--verbose] [--work N] [--pcap OUT] [--force]`
abbrev pub run : ValueParser → Shape
run numbers =
    command (codes "run") (required (codes "C") ∷ required (codes "SCRIPT")
    ∷ workers numbers ∷ states ∷ flag (codes "quiet") ∷ flag (codes "strict")
    ∷ flag (codes "verbose") ∷ work ∷ pcap ∷ flag (codes "force") ∷ [])

-- `live C [--workers N] [--states N] [--strict] [--verbose] [--clock] [--events FORM] [--color WHEN]
-- [--work N] [--pcap OUT] [--force]`
abbrev pub live : ValueParser → Shape
live numbers =
    command (codes "live") (required (codes "C") ∷ workers numbers ∷ states
    ∷ flag (codes "strict") ∷ flag (codes "verbose") ∷ flag (codes "clock") ∷ events
    ∷ color ∷ work ∷ pcap ∷ flag (codes "force") ∷ [])

-- `cert HOOK FILE [--config C] [--states N] [-o FILE] [--work N]`
abbrev pub certify : ValueParser → Shape
certify hooks = hook_command (codes "cert") hooks (config ∷ states ∷ output ∷ work ∷ [])

-- `check HOOK FILE CERT [--config C] [--work N]`
abbrev pub check : ValueParser → Shape
check hooks = hook_command (codes "check") hooks (required (codes "CERT") ∷ config ∷ work ∷ [])

-- `explain [NUMBER]`
abbrev pub explain : Shape
explain = command (codes "explain") (optional (codes "NUMBER") ∷ [])

-- `frames CAPTURE [--no-ticks] [--bssid ADDR] [--all] [-o FILE]`
abbrev pub frames : Shape
frames =
    command (codes "frames") (required (codes "CAPTURE") ∷ flag (codes "no-ticks") ∷ bssid
    ∷ flag (codes "all") ∷ output ∷ [])

-- `test FILE..`
abbrev pub test : Shape
test = command (codes "test") (files ∷ [])

-- `help [COMMAND]`
abbrev pub help : Shape
help = command (codes "help") (optional (codes "COMMAND") ∷ [])

-- the program without its commands; a command is required
abbrev pub program : App
program = record {
  top = record (new_shape (codes "apd")) {
    disable_help_subcommand = true;
    has_version = true;
    arg_required_else_help = true;
    subcommand_required = true;
  };
  subs = [];
}

-- the commands on assembler text and code
abbrev pub with_code_commands : ValueParser → App → App
with_code_commands hooks a =
    with_subcommand (with_subcommand (with_subcommand a (verify hooks)) assemble) disassemble

-- the commands that try programs
abbrev pub with_trial_commands : ValueParser → App → App
with_trial_commands hooks a =
    with_subcommand (with_subcommand a (trace hooks)) (evaluate hooks)

-- the commands that run an access point
abbrev pub with_run_commands : ValueParser → App → App
with_run_commands numbers a = with_subcommand (with_subcommand a (run numbers)) (live numbers)

-- the commands on certificates
abbrev pub with_certificate_commands : ValueParser → App → App
with_certificate_commands hooks a =
    with_subcommand (with_subcommand a (certify hooks)) (check hooks)

-- the commands that explain or read something
abbrev pub with_reading_commands : App → App
with_reading_commands a =
    with_subcommand (with_subcommand (with_subcommand (with_subcommand a explain) frames) test) help

-- the whole command line, given the parsers of hooks and numbers of workers
abbrev pub command_line : ValueParser → ValueParser → App
command_line hooks numbers =
    with_reading_commands (with_certificate_commands hooks
    (with_run_commands numbers (with_trial_commands hooks (with_code_commands hooks program))))
