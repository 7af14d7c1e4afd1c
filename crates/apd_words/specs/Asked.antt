-- What words ask for.
use Rattle.std.specs.Borrow.{Bor}
use Rattle.std.specs.Prelude.{ℕ, ◌-◌, ◌&&◌, Bool, false, not, nat_le, List, [], ◌∷◌, map, codes, Option, Some, None, option_map, option_and_then, if◌then◌else◌}
use Rattle.std.specs.Option.{option_map_or}
use Rattle.std.specs.Str.{bytes_eq}
use Rattle.std.specs.Str.Parse.{digits_value, without_leading_plus}
use Rattle.clap.specs.ValueTests.{is_unsigned_in}
use Rattle.clap.specs.Words.{Row, Text, all_of, first_of}
use Rattle.bpf_regions.specs.declared.hooks.Hook.{Hook}
use Rattle.bpf_regions.specs.declared.hooks.Hook.TheVariants.{Association, Addba, Data}
use Rattle.apd_words.specs.CommandLine.{most_repeats, most_states, most_work}
use Rattle.apd_words.specs.declared.Claim.{Claim}
use Rattle.apd_words.specs.declared.Conversion.{Conversion}
use Rattle.apd_words.specs.declared.Evaluation.{Evaluation}
use Rattle.apd_words.specs.declared.LiveRun.{LiveRun}
use Rattle.apd_words.specs.declared.Query.{Query}
use Rattle.apd_words.specs.declared.Question.{Question}
use Rattle.apd_words.specs.declared.Report.{Report}
use Rattle.apd_words.specs.declared.Report.TheVariants as report
use Rattle.apd_words.specs.declared.Repetition.{Repetition}
use Rattle.apd_words.specs.declared.Request.{Request}
use Rattle.apd_words.specs.declared.ScriptRun.{ScriptRun}
use Rattle.apd_words.specs.declared.Source.{Source}
use Rattle.apd_words.specs.declared.Subject.{Subject}
use Rattle.apd_words.specs.declared.Trial.{Trial}
use Rattle.apd_words.specs.declared.Question.TheVariants as question
use Rattle.apd_words.specs.declared.Request.TheVariants as request

-- a question, whose words are texts
pub data Asked : Type 0 where
  Verify : Hook → Text → Option Text → ℕ → Option ℕ → Asked
  Assemble : Text → Asked
  Disassemble : Text → Option Text → Bool → Asked
  ListRaw : Text → Option Text → Bool → Asked
  Graph : Text → Option Text → Bool → Asked
  Trace : Hook → Text → Text → Option Text → ℕ → Option ℕ → Option Text → Bool → Asked
  Evaluate : Hook → Text → Text → Option Text → Option Text → ℕ → Option ℕ → Report → Asked
  Repeat : Hook → Text → Text → Option Text → Option Text → ℕ → Option ℕ → Report → ℕ → Asked
  Certify : Hook → Text → Option Text → ℕ → Option ℕ → Asked
  Check : Hook → Text → Text → Option Text → Option ℕ → Asked
  Explain : Option Text → Asked
  Frames : Text → Bool → Option Text → Bool → Asked
  Test : List Text → Asked
  Help : Option Text → Asked

-- the run of a script, or of lines as they come, or a question and the file for its answer, if there is one
pub data Wanted : Type 0 where
  Run : Text → Text → ℕ → ℕ → Option ℕ → Bool → Bool → Bool → Option Text → Bool → Wanted
  Live : Text → ℕ → ℕ → Option ℕ → Bool → Bool → Bool → Option Text → Option Text → Option Text → Bool → Wanted
  Answer : Asked → Option Text → Wanted

-- the text of a word, if there is one
abbrev pub text_of : Option (Bor Text) → Option Text
text_of word = option_map (λ word. word.now) word

-- the texts of words
abbrev pub texts_of : List (Bor Text) → List Text
texts_of words = map (λ word. word.now) words

-- the path of a source's configuration, if it has one
abbrev pub config_of : Source → Option Text
config_of source = text_of source.config

-- the question of `verify`
abbrev pub asked_verdict : Subject → Asked
asked_verdict subject =
    Verify subject.terms.hook subject.source.file.now (config_of subject.source) subject.terms.states
    subject.terms.work

-- the question of `disasm`, with slots or without
abbrev pub asked_listing : Source → Bool → Asked
asked_listing source slots = Disassemble source.file.now (config_of source) slots

-- the question of `disasm --raw`, which lists all slots
abbrev pub asked_slots : Source → Bool → Asked
asked_slots source slots = ListRaw source.file.now (config_of source) slots

-- the question of `disasm --dot`, with `--explain` or without
abbrev pub asked_graph : Source → Bool → Asked
asked_graph source explain = Graph source.file.now (config_of source) explain

-- the question of `eval`
abbrev pub asked_evaluation : Evaluation → Asked
asked_evaluation evaluation =
    Evaluate evaluation.subject.terms.hook evaluation.subject.source.file.now evaluation.capture.now
    (config_of evaluation.subject.source) (text_of evaluation.against)
    evaluation.subject.terms.states evaluation.subject.terms.work evaluation.report

-- the question of `eval` with `--repeat`
abbrev pub asked_repetition : Repetition → Asked
asked_repetition repetition =
    Repeat repetition.evaluation.subject.terms.hook repetition.evaluation.subject.source.file.now
    repetition.evaluation.capture.now (config_of repetition.evaluation.subject.source)
    (text_of repetition.evaluation.against) repetition.evaluation.subject.terms.states
    repetition.evaluation.subject.terms.work repetition.evaluation.report repetition.times

-- the question of `trace`
abbrev pub asked_run : Trial → Asked
asked_run trial =
    Trace trial.subject.terms.hook trial.subject.source.file.now trial.frame.now
    (config_of trial.subject.source) trial.subject.terms.states trial.subject.terms.work
    (text_of trial.given.context) trial.given.from_frame

-- the question of `cert`
abbrev pub asked_certificate : Subject → Asked
asked_certificate subject =
    Certify subject.terms.hook subject.source.file.now (config_of subject.source) subject.terms.states
    subject.terms.work

-- the question of `frames`
abbrev pub asked_script : Conversion → Asked
asked_script conversion =
    Frames conversion.capture.now conversion.ticks (text_of conversion.bssid) conversion.all

-- the question of `check`
abbrev pub asked_check : Claim → Asked
asked_check claim =
    Check claim.hook claim.source.file.now claim.certificate.now (config_of claim.source) claim.work

-- what a question asks for, without the `explain` of `verify` and `trace`, which only adds a text on standard error
abbrev pub asked_of : Question → Asked
asked_of (question.Verify subject explain) = asked_verdict subject
asked_of (question.Assemble file) = Assemble file.now
asked_of (question.Disassemble source slots) = asked_listing source slots
asked_of (question.ListRaw source slots) = asked_slots source slots
asked_of (question.Graph source explain) = asked_graph source explain
asked_of (question.Trace trial) = asked_run trial
asked_of (question.Evaluate evaluation) = asked_evaluation evaluation
asked_of (question.Repeat repetition) = asked_repetition repetition
asked_of (question.Certify subject) = asked_certificate subject
asked_of (question.Check claim) = asked_check claim
asked_of (question.Explain number) = Explain (text_of number)
asked_of (question.Frames conversion) = asked_script conversion
asked_of (question.Help command) = Help (text_of command)

-- the run of a script
abbrev pub wanted_run : ScriptRun → Wanted
wanted_run run =
    Run run.config.now run.script.now run.workers run.states run.work run.quiet run.strict run.verbose
    (text_of run.capture.path) run.capture.replaces

-- the run of lines as they come
abbrev pub wanted_live : LiveRun → Wanted
wanted_live run =
    Live run.config.now run.workers run.states run.work run.strict run.verbose run.clock
    (text_of run.events) (text_of run.color) (text_of run.capture.path) run.capture.replaces

-- what a query wants
abbrev pub wanted_answer : Query → Wanted
wanted_answer query = Answer (asked_of query.question) (text_of query.output)

-- the answer for files of cases, on standard output
abbrev pub wanted_test : List Text → Wanted
wanted_test files = Answer (Test files) None

-- what a request wants
abbrev pub wanted_of : Request → Wanted
wanted_of (request.Run run) = wanted_run run
wanted_of (request.Live run) = wanted_live run
wanted_of (request.Answer query) = wanted_answer query
wanted_of (request.Test files) = wanted_test (texts_of files.items)

infixl 10 ◌>>=◌
-- what follows from a part, if it is there
abbrev pub ◌>>=◌ : {A B : Type 0} → Option A → (A → Option B) → Option B
o >>= f = option_and_then f o

-- the hook with a name
abbrev pub hook_named : Text → Option Hook
hook_named text =
    (if bytes_eq text (codes "assoc") then Some Association
    else (if bytes_eq text (codes "addba") then Some Addba
    else (if bytes_eq text (codes "data") then Some Data else None)))

-- one digit from 1 to 8 (as text, 49 to 56)
abbrev pub workers_named : Text → Option ℕ
workers_named (digit ∷ []) =
    (if nat_le 49 digit && nat_le digit 56 then Some (digit - 48) else None)
workers_named _ = None

-- a number from 1 to another one, in decimal digits, perhaps after a plus sign
abbrev pub number_to : ℕ → Text → Option ℕ
number_to most text =
    (if is_unsigned_in 1 most text then Some (digits_value 10 (without_leading_plus text))
    else None)

-- a number of states
abbrev pub states_named : Text → Option ℕ
states_named text = number_to most_states text

-- a number of units of work
abbrev pub work_named : Text → Option ℕ
work_named text = number_to most_work text

-- a number of times
abbrev pub repeats_named : Text → Option ℕ
repeats_named text = number_to most_repeats text

-- ---- what the arguments of a command ask for; `first_of id rows` is the value of an argument

-- whether a flag was given: its value is `true`
abbrev pub is_set : Text → List Row → Bool
is_set flag rows = option_map_or (λ text. bytes_eq text (codes "true")) (first_of flag rows) false

-- the hook that the argument HOOK names
abbrev pub hook_at : List Row → Option Hook
hook_at rows = option_and_then hook_named (first_of (codes "HOOK") rows)

-- how many states the verifier may examine
abbrev pub states_at : List Row → Option ℕ
states_at rows = option_and_then states_named (first_of (codes "states") rows)

-- how many units of work the verifier, or a check, may do; none if no limit is named
abbrev pub work_at : List Row → Option ℕ
work_at rows = option_and_then work_named (first_of (codes "work") rows)

-- how often a judgement is repeated; none if no number is named
abbrev pub repeats_at : List Row → Option ℕ
repeats_at rows = option_and_then repeats_named (first_of (codes "repeat") rows)

-- `verify HOOK FILE [--config C] [--states N] [--explain] [--work N]`
abbrev pub verify_of : List Row → Option Asked
verify_of rows = do
  hook ← hook_at rows
  file ← first_of (codes "FILE") rows
  states ← states_at rows
  Some (Verify hook file (first_of (codes "config") rows) states (work_at rows))

-- `asm FILE`
abbrev pub assemble_of : List Row → Option Asked
assemble_of rows = do
  file ← first_of (codes "FILE") rows
  Some (Assemble file)

-- `disasm FILE [--config C] [--slots] [--raw] [--dot] [--explain]`
abbrev pub disassemble_of : List Row → Option Asked
disassemble_of rows = do
  file ← first_of (codes "FILE") rows
  (if is_set (codes "dot") rows then Some (Graph file (first_of (codes "config") rows) (is_set (codes "explain") rows))
      else (if is_set (codes "raw") rows
      then Some (ListRaw file (first_of (codes "config") rows) (is_set (codes "slots") rows))
      else Some (Disassemble file (first_of (codes "config") rows) (is_set (codes "slots") rows))))

-- `trace HOOK FILE FRAME [--config C] [--states N] [--context KEY=VALUE,..] [--from-frame]
-- [--explain] [--work N]`
abbrev pub trace_of : List Row → Option Asked
trace_of rows = do
  hook ← hook_at rows
  file ← first_of (codes "FILE") rows
  frame ← first_of (codes "FRAME") rows
  states ← states_at rows
  Some (Trace hook file frame (first_of (codes "config") rows) states (work_at rows)
      (first_of (codes "context") rows) (is_set (codes "from-frame") rows))

-- what `--dot`, `--profile` and `-j` ask for
abbrev pub report_at : List Row → Report
report_at rows =
    (if is_set (codes "dot") rows then report.ProfileGraph
    else (if is_set (codes "profile") rows
    then (if is_set (codes "json") rows then report.ProfileJson else report.Profile)
    else (if is_set (codes "json") rows then report.VerdictsJson else report.Verdicts)))

-- an evaluation, repeated if a number of times is named
abbrev pub evaluation_of : Hook → Text → Text → ℕ → List Row → Option ℕ → Asked
evaluation_of hook file capture states rows None =
    Evaluate hook file capture (first_of (codes "config") rows) (first_of (codes "against") rows)
    states (work_at rows) (report_at rows)
evaluation_of hook file capture states rows (Some times) =
    Repeat hook file capture (first_of (codes "config") rows) (first_of (codes "against") rows)
    states (work_at rows) (report_at rows) times

-- `eval HOOK FILE CAPTURE [--config C] [--against OLD] [--states N] [-j] [--work N] [--profile] [--dot] [--repeat N]`
abbrev pub evaluate_of : List Row → Option Asked
evaluate_of rows = do
  hook ← hook_at rows
  file ← first_of (codes "FILE") rows
  capture ← first_of (codes "CAPTURE") rows
  states ← states_at rows
  Some (evaluation_of hook file capture states rows (repeats_at rows))

-- `run C SCRIPT [--workers N] [--states N] [--quiet] [--strict] [--verbose] [--work N] [--pcap OUT] [--force]`
abbrev pub run_of : List Row → Option Wanted
run_of rows = do
  config ← first_of (codes "C") rows
  script ← first_of (codes "SCRIPT") rows
  workers ← option_and_then workers_named (first_of (codes "workers") rows)
  states ← states_at rows
  Some (Run config script workers states (work_at rows) (is_set (codes "quiet") rows)
      (is_set (codes "strict") rows) (is_set (codes "verbose") rows)
      (first_of (codes "pcap") rows) (is_set (codes "force") rows))

-- `live C [--workers N] [--states N] [--strict] [--verbose] [--clock] [--events FORM] [--color WHEN]
-- [--work N] [--pcap OUT] [--force]`
abbrev pub live_of : List Row → Option Wanted
live_of rows = do
  config ← first_of (codes "C") rows
  workers ← option_and_then workers_named (first_of (codes "workers") rows)
  states ← states_at rows
  Some (Live config workers states (work_at rows) (is_set (codes "strict") rows)
      (is_set (codes "verbose") rows) (is_set (codes "clock") rows)
      (first_of (codes "events") rows) (first_of (codes "color") rows)
      (first_of (codes "pcap") rows) (is_set (codes "force") rows))

-- `cert HOOK FILE [--config C] [--states N] [--work N]`
abbrev pub certify_of : List Row → Option Asked
certify_of rows = do
  hook ← hook_at rows
  file ← first_of (codes "FILE") rows
  states ← states_at rows
  Some (Certify hook file (first_of (codes "config") rows) states (work_at rows))

-- `check HOOK FILE CERT [--config C] [--work N]`
abbrev pub check_of : List Row → Option Asked
check_of rows = do
  hook ← hook_at rows
  file ← first_of (codes "FILE") rows
  certificate ← first_of (codes "CERT") rows
  Some (Check hook file certificate (first_of (codes "config") rows) (work_at rows))

-- `explain [NUMBER]`
abbrev pub explain_of : List Row → Option Asked
explain_of rows = Some (Explain (first_of (codes "NUMBER") rows))

-- `frames CAPTURE [--no-ticks] [--bssid ADDR] [--all]`
abbrev pub frames_of : List Row → Option Asked
frames_of rows = do
  capture ← first_of (codes "CAPTURE") rows
  Some (Frames capture (not (is_set (codes "no-ticks") rows)) (first_of (codes "bssid") rows)
      (is_set (codes "all") rows))

-- `test FILE..`
abbrev pub test_of : List Row → Option Wanted
test_of rows = option_map wanted_test (all_of (codes "FILE") rows)

-- `help [COMMAND]`
abbrev pub help_of : List Row → Option Asked
help_of rows = Some (Help (first_of (codes "COMMAND") rows))

-- what a command with these arguments asks for
abbrev pub command_asks : Text → List Row → Option Asked
command_asks name rows =
    (if bytes_eq name (codes "verify") then verify_of rows
    else (if bytes_eq name (codes "asm") then assemble_of rows
    else (if bytes_eq name (codes "disasm") then disassemble_of rows
    else (if bytes_eq name (codes "trace") then trace_of rows
    else (if bytes_eq name (codes "eval") then evaluate_of rows
    else (if bytes_eq name (codes "cert") then certify_of rows
    else (if bytes_eq name (codes "check") then check_of rows
    else (if bytes_eq name (codes "explain") then explain_of rows
    else (if bytes_eq name (codes "frames") then frames_of rows
    else (if bytes_eq name (codes "help") then help_of rows else None))))))))))

-- what a command with these arguments asks for, and the file of `-o`
abbrev pub answers_to : Text → List Row → Option Wanted
answers_to name rows =
    option_map (λ asked. Answer asked (first_of (codes "output") rows)) (command_asks name rows)

-- what a command with these arguments wants
abbrev pub command_wants : Text → List Row → Option Wanted
command_wants name rows =
    (if bytes_eq name (codes "run") then run_of rows
    else (if bytes_eq name (codes "live") then live_of rows
    else (if bytes_eq name (codes "test") then test_of rows else answers_to name rows)))

-- what the words want, by the command that they name, and its arguments
abbrev pub wanted_in : Option (Text × List Row) → Option Wanted
wanted_in = option_and_then (λ c. command_wants c.0 c.1)
