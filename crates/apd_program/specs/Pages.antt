-- The answers of `explain` and `help`.
use Rattle.std.specs.Prelude.{ℕ, List, [], ◌∷◌, codes, Option, None, Some, string_bytes}
use Rattle.clap.specs.declared.builder.value_parser.ValueParser.{ValueParser}
use Rattle.apd_words.specs.CommandLine.{TakesNames, hook_names, worker_names}
use Rattle.apd_words.specs.Reads.{IsHelp}
use Rattle.apd_text.specs.Pages.{IsPageOf}
use Rattle.apd_program.specs.declared.answer.Answer.{Answer}
use Rattle.apd_program.specs.declared.answer.Answer.TheVariants.{Page, Help}

-- `explain`: the page on the number that the word spells
abbrev pub IsPage : List ℕ → Answer → Type 0
IsPage word (Page text) = IsPageOf word (string_bytes text)
IsPage word _ = ⊥

-- a page; without a number it is the list of all, of which nothing is said
abbrev pub IsSomePage : Answer → Type 0
IsSomePage (Page text) = Unit {0}
IsSomePage _ = ⊥

-- the page on the number that is asked for, or the list
abbrev pub IsPageFor : Option (List ℕ) → Answer → Type 0
IsPageFor None a = IsSomePage a
IsPageFor (Some word) a = IsPage word a

-- nothing is said of which words have no page
abbrev pub HasNoPage : Option (List ℕ) → Type 0
HasNoPage number = Unit {0}

-- the words that ask for help on a command, or on the program
abbrev pub help_words : Option (List ℕ) → List (List ℕ)
help_words None = codes "apd" ∷ codes "--help" ∷ []
help_words (Some command) = codes "apd" ∷ command ∷ codes "--help" ∷ []

-- the words ask for help or the version
pub record IsHelpFor (words : List (List ℕ)) : Type 0 where
  pub hooks : ValueParser
  pub numbers : ValueParser
  pub takes_hooks : TakesNames hooks hook_names
  pub takes_numbers : TakesNames numbers worker_names
  pub help : IsHelp hooks numbers words

-- `help`: a help text, of which nothing is said, for words that ask for help
abbrev pub IsHelpText : List (List ℕ) → Answer → Type 0
IsHelpText words (Help text) = IsHelpFor words
IsHelpText words _ = ⊥

-- nothing is said of which words have no help
abbrev pub HasNoHelp : List (List ℕ) → Type 0
HasNoHelp words = Unit {0}
