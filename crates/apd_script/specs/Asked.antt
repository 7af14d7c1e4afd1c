-- What the lines of a script ask for, in terms of lists of bytes.
use Rattle.std.specs.Prelude.{◌≡◌, ℕ, ◌<◌, List, map, Option, Some, option_map, slice_get}
use Rattle.std.specs.List.{All}
use Rattle.bpf_regions.specs.declared.hooks.Hook.{Hook}
use Rattle.bpf_regions.specs.declared.maps.Scope.{Scope}
use Rattle.bpf_regions.specs.declared.maps.Scope.TheVariants.{Shared, Worker}
use Rattle.bpf_regions.specs.declared.maps.Shape.{Shape}
use Rattle.bpf_regions.specs.Maps.{word_count}
use Rattle.apd_script.specs.Digits.{bytes_of}
use Rattle.apd_script.specs.declared.command.Command.{Command}
use Rattle.apd_script.specs.declared.command.Command.TheVariants as command
use Rattle.apd_script.specs.declared.command.MapWord.{MapWord}
use Rattle.apd_script.specs.declared.command.Numbered.{Numbered}

-- a command: a frame by its bytes, a station by its six octets, a reason and a traffic identifier by their numbers,
-- files by their paths
pub data Asked : Type 0 where
  Frame : List ℕ → Asked
  Tick : ℕ → Asked
  Kick : List ℕ → ℕ → Asked
  Close : List ℕ → ℕ → Asked
  Load : Hook → List ℕ → Asked
  Unload : Hook → Asked
  Adopt : Hook → List ℕ → List ℕ → Asked
  Store : MapWord → ℕ → Asked
  Read : MapWord → Asked
  Sum : MapWord → Asked
  Wait : Asked

-- what a command asks for
abbrev pub asked_of : Command → Asked
asked_of (command.Frame text) = Frame (bytes_of text.digits.now)
asked_of (command.Tick count) = Tick count
asked_of (command.Kick station reason) = Kick station reason
asked_of (command.Close station tid) = Close station tid
asked_of (command.Load hook path) = Load hook path.now
asked_of (command.Unload hook) = Unload hook
asked_of (command.Adopt hook path certificate) = Adopt hook path.now certificate.now
asked_of (command.Store word value) = Store word value
asked_of (command.Read word) = Read word
asked_of (command.Sum word) = Sum word
asked_of command.Wait = Wait

-- a line's number, and what the line asks for
abbrev pub numbered_of : Numbered → ℕ × Asked
numbered_of n = (n.line, asked_of n.command)

-- what lines ask for, each with its number
abbrev pub commands_of : List Numbered → List (ℕ × Asked)
commands_of commands = map numbered_of commands

-- what is asked for, if anything
abbrev pub asked_by : Option Command → Option Asked
asked_by command = option_map asked_of command

-- the map exists and has that scope, and the word is in it
pub record IsWordOf (maps : List Shape) (scope : Scope) (word : MapWord) : Type 0 where
  pub shape : Shape
  pub there : slice_get maps word.map ≡ Some shape
  pub scope_is : shape.scope ≡ scope
  pub within : word.word < word_count shape

-- a word that the command names is in a map of the command's scope
abbrev pub NamesWord : List Shape → Command → Type 0
NamesWord maps (command.Store word value) = IsWordOf maps Shared word
NamesWord maps (command.Read word) = IsWordOf maps Shared word
NamesWord maps (command.Sum word) = IsWordOf maps Worker word
NamesWord maps _ = Unit {0}

-- the same for all commands
abbrev pub NameWords : List Shape → List Numbered → Type 0
NameWords maps commands = All (λ n. NamesWord maps n.command) commands

-- the same still holds after commands are added
abbrev pub NamesMore : List Shape → List Numbered → List Numbered → Type 0
NamesMore maps old new = NameWords maps old → NameWords maps new
