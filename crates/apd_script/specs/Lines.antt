-- What a line of a script asks for, by its words.
use Rattle.std.specs.Prelude.{◌≡◌, ℕ, ◌+◌, ◌*◌, ◌^◌, List, [], ◌∷◌, length, codes, Option, Some, None, option_map, option_and_then, IsSome, Bool, true, false, slice_get, if◌then◌else◌, IsUtf8}
use Rattle.std.specs.List.{list_any}
use Rattle.std.specs.Result.{result_ok}
use Rattle.std.specs.Str.{bytes_eq}
use Rattle.hex.specs.Hex.{decode_of}
use Rattle.bpf_regions.specs.declared.maps.Scope.{Scope}
use Rattle.bpf_regions.specs.declared.maps.Scope.TheVariants.{Shared, Worker}
use Rattle.bpf_regions.specs.declared.maps.Shape.{Shape}
use Rattle.apd_script.specs.declared.command.Command.{Command}
use Rattle.apd_script.specs.declared.command.MapWord.{MapWord}
use Rattle.apd_script.specs.Asked.{Asked, asked_of, NamesWord, Frame, Tick, Kick, Close, Load, Unload, Adopt, Store, Read, Sum, Wait}
use Rattle.apd_script.specs.Words.{words, is_forbidden, begins_comment, number_below, address, hook_named}

infixl 10 ◌>>=◌
-- what follows from a part, if it is there
abbrev pub ◌>>=◌ : {A B : Type 0} → Option A → (A → Option B) → Option B
o >>= f = option_and_then f o

-- `frame HEX`: an even number of hex digits, of either case
abbrev pub frame_said : List (List ℕ) → Option Asked
frame_said (digits ∷ []) = option_map Frame (result_ok (decode_of digits))
frame_said _ = None

-- `tick N`, N below 2^32
abbrev pub tick_said : List (List ℕ) → Option Asked
tick_said (count ∷ []) = option_map Tick (number_below (2 ^ 32) count)
tick_said _ = None

-- `kick ADDRESS REASON`, a reason below 2^16
abbrev pub kick_said : List (List ℕ) → Option Asked
kick_said (station ∷ reason ∷ []) = do
  octets ← address station
  code ← number_below (2 ^ 16) reason
  Some (Kick octets code)
kick_said _ = None

-- `close ADDRESS TID`, a traffic identifier below 8
abbrev pub close_said : List (List ℕ) → Option Asked
close_said (station ∷ tid ∷ []) = do
  octets ← address station
  number ← number_below 8 tid
  Some (Close octets number)
close_said _ = None

-- `load HOOK FILE`
abbrev pub load_said : List (List ℕ) → Option Asked
load_said (name ∷ path ∷ []) = option_map (λ hook. Load hook path) (hook_named name)
load_said _ = None

-- `unload HOOK`
abbrev pub unload_said : List (List ℕ) → Option Asked
unload_said (name ∷ []) = option_map Unload (hook_named name)
unload_said _ = None

-- `adopt HOOK FILE CERTIFICATE`
abbrev pub adopt_said : List (List ℕ) → Option Asked
adopt_said (name ∷ path ∷ certificate ∷ []) =
    option_map (λ hook. Adopt hook path certificate) (hook_named name)
adopt_said _ = None

-- whether both are the same scope
abbrev pub is_scope : Scope → Scope → Bool
is_scope Shared Shared = true
is_scope Worker Worker = true
is_scope _ _ = false

-- the word at an entry's index and an index in the entry, if the map has that scope
abbrev pub word_in : Scope → ℕ → Shape → List ℕ → List ℕ → Option MapWord
word_in scope map shape index word = do
  entry ← number_below shape.entries index
  place ← number_below shape.words word
  (if is_scope shape.scope scope
      then Some (record { map = map; word = entry * shape.words + place }) else None)

-- the word of a map of that scope, by the map's number, an entry's index and an index in the entry
abbrev pub word_said : List Shape → Scope → List ℕ → List ℕ → List ℕ → Option MapWord
word_said maps scope map index word = do
  number ← number_below (length maps) map
  shape ← slice_get maps number
  word_in scope number shape index word

-- `store MAP INDEX WORD VALUE`, a value below 2^64, in a shared map
abbrev pub store_said : List Shape → List (List ℕ) → Option Asked
store_said maps (map ∷ index ∷ word ∷ value ∷ []) = do
  there ← word_said maps Shared map index word
  number ← number_below (2 ^ 64) value
  Some (Store there number)
store_said maps _ = None

-- `read MAP INDEX WORD`, in a shared map
abbrev pub read_said : List Shape → List (List ℕ) → Option Asked
read_said maps (map ∷ index ∷ word ∷ []) = option_map Read (word_said maps Shared map index word)
read_said maps _ = None

-- `sum MAP INDEX WORD`, in a worker map
abbrev pub sum_said : List Shape → List (List ℕ) → Option Asked
sum_said maps (map ∷ index ∷ word ∷ []) = option_map Sum (word_said maps Worker map index word)
sum_said maps _ = None

-- `wait`
abbrev pub wait_said : List (List ℕ) → Option Asked
wait_said [] = Some Wait
wait_said _ = None

-- what a keyword and its operands ask for
abbrev pub command_said : List Shape → List ℕ → List (List ℕ) → Option Asked
command_said maps keyword operands =
    (if bytes_eq keyword (codes "frame") then frame_said operands else
    (if bytes_eq keyword (codes "tick") then tick_said operands else
    (if bytes_eq keyword (codes "kick") then kick_said operands else
    (if bytes_eq keyword (codes "close") then close_said operands else
    (if bytes_eq keyword (codes "load") then load_said operands else
    (if bytes_eq keyword (codes "unload") then unload_said operands else
    (if bytes_eq keyword (codes "adopt") then adopt_said operands else
    (if bytes_eq keyword (codes "store") then store_said maps operands else
    (if bytes_eq keyword (codes "read") then read_said maps operands else
    (if bytes_eq keyword (codes "sum") then sum_said maps operands else
    (if bytes_eq keyword (codes "wait") then wait_said operands else None)))))))))))

-- what words ask for: nothing if there are none or they are a comment; `None` if they are malformed
abbrev pub words_said : List Shape → List (List ℕ) → Option (Option Asked)
words_said maps [] = Some None
words_said maps (keyword ∷ operands) =
    (if begins_comment keyword then Some None
    else option_map Some (command_said maps keyword operands))

-- what the words of a text ask for
abbrev pub says : List Shape → List ℕ → Option (Option Asked)
says maps line = words_said maps (words line)

-- the same for a line; a tab or a carriage return anywhere makes it malformed
abbrev pub text_said : List Shape → List ℕ → Option (Option Asked)
text_said maps line = (if list_any is_forbidden line then None else says maps line)

-- what a line asks for, if anything
abbrev pub line_asks : List Shape → List ℕ → Option Asked
line_asks maps line = option_and_then (λ said. said) (text_said maps line)

-- the line is UTF-8, and blank, a comment or a command
pub record IsWellFormed (maps : List Shape) (line : List ℕ) : Type 0 where
  pub utf8 : IsUtf8 line
  pub said : IsSome (text_said maps line)

-- the line asks for the command
pub record Reads (maps : List Shape) (line : List ℕ) (command : Command) : Type 0 where
  pub said : text_said maps line ≡ Some (Some (asked_of command))
  pub asks : line_asks maps line ≡ Some (asked_of command)
  pub within : NamesWord maps command
