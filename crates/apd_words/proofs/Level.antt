-- A command line whose words are known one by one: how a command is entered, and how its words are accepted.
use Rattle.std.proofs.Common.{◌≡◌, ◌∙◌, ℕ, Bool, true, false, List, [], ◌∷◌, ◌++◌, Some, None, refl, sym, ap, ap₂, append-nil, append_assoc}
use Rattle.std.specs.Prelude.{find, is_some, option_map}
use Rattle.std.specs.List.{fold}
use Rattle.std.specs.Option.{option_map_or}
use Rattle.std.specs.Str.{bytes_eq}
use Rattle.clap.specs.Kinds.{Kinds, or_else}
use Rattle.clap.specs.Lexer.{long_of, short_of}
use Rattle.clap.specs.Walk.{Held, Names, Rule, Walk, Text, idle, option, next, value, after_step, answers_to, arg_by_id, arg_by_index, finished, nothing_held, option_word, pushed, settled, to_positional, walk, walked}
use Rattle.clap.specs.Simple.{App, Shape, entered, label_of, names_of, rows_at}
use Rattle.clap.specs.Faults.{built_fault, check_fault, defaults_fault, entered_fault, level_fault, settle_fault, step_fault, turn_fault, walk_fault}

-- the word isn't a flag, nor the end of the flags
pub record IsPlain (word : Text) : Type 0 where
  pub dashes : bytes_eq word (45 ∷ 45 ∷ []) ≡ false
  pub long : long_of word ≡ None
  pub short : short_of word ≡ None

-- ---- the words of a command

-- the state after the first operand, and after another one
abbrev pub first_operand : Text → Text → Held
first_operand id word = record { rows = []; pending = Some (id, word ∷ []); skip = 0 }

abbrev pub next_operand : Shape → Text → Text → Held → Held
next_operand s id word h = pushed id word (settled s.rules h)

-- the state after the name of an option, and after its value
abbrev pub option_named : Shape → Text → Held → Held
option_named s id h = record (settled s.rules h) { pending = Some (id, []) }

abbrev pub option_given : Shape → Text → Text → Held → Held
option_given s id word h = pushed id word (option_named s id h)

-- before a word that may be a value of the n-th positional, or the name of an option
abbrev pub between : Held → ℕ → Walk
between h n = record { held = h; waiting = idle; position = n; is_trailing = false; stopped = None }

-- before the value of an option
abbrev pub before_value : Held → Text → ℕ → Walk
before_value h id n = record { held = h; waiting = option id; position = n; is_trailing = false; stopped = None }

-- the words are accepted, from one position to another
pub record Passes (s : Shape) (w : Walk) (words : List Text) (end : Walk) : Type 0 where
  pub faultless : walk_fault s [] w words ≡ []
  pub ends : fold (walked s.rules []) w words ≡ end

pub no_more : (s : Shape) (w : Walk) → Passes s w [] w
unfolding walk_fault
no_more s w = record { faultless = refl; ends = refl }

-- a word without a fault, and those that follow it
pub and_then : {s : Shape} {w v end : Walk} (word : Text) {rest : List Text} → turn_fault s [] w word ≡ [] → walked s.rules [] w word ≡ v → Passes s v rest end
    → Passes s w (word ∷ rest) end
unfolding walk_fault
and_then {s} {w} {v} {end} word {rest} turn step more = record {
  faultless = ap₂ or_else turn (ap (λ u. walk_fault s [] u rest) step ∙ more.faultless);
  ends = ap (λ u. fold (walked s.rules []) u rest) step ∙ more.ends;
}

plain_walked : (c : List Rule) (h : Held) (n : ℕ) (word : Text) → IsPlain word
    → walked c [] (between h n) word ≡ to_positional c (arg_by_index c n) word (between h n) h
unfolding walked
plain_walked c h n word p = rw (p.dashes, p.long, p.short) refl

plain_turn : (s : Shape) (h : Held) (n : ℕ) (word : Text) → IsPlain word → turn_fault s [] (between h n) word ≡ step_fault s n h value
plain_turn s h n word p = rw (p.dashes, p.long, p.short) refl

value_walked : (c : List Rule) (h : Held) (id : Text) (n : ℕ) (word : Text) → IsPlain word
    → walked c [] (before_value h id n) word
    ≡ after_step c word (before_value h id n) (option_word (arg_by_id c id) id word h).0 (next (option_word (arg_by_id c id) id word h).1)
unfolding walked
value_walked c h id n word p = rw (p.dashes, p.long, p.short) refl

value_turn : (s : Shape) (h : Held) (id : Text) (n : ℕ) (word : Text) → IsPlain word → turn_fault s [] (before_value h id n) word ≡ []
value_turn s h id n word p = rw (p.dashes, p.long, p.short) refl

-- a word that isn't a flag goes to the next positional
pub plain_then : {s : Shape} {h : Held} {v end : Walk} (n : ℕ) (word : Text) {rest : List Text} → IsPlain word → step_fault s n h value ≡ []
    → to_positional s.rules (arg_by_index s.rules n) word (between h n) h ≡ v → Passes s v rest end → Passes s (between h n) (word ∷ rest) end
plain_then {s} {h} n word p faultless goes more =
    and_then word (plain_turn s h n word p ∙ faultless) (plain_walked s.rules h n word p ∙ goes) more

-- or to the option that expects it
pub value_then : {s : Shape} {h : Held} {id : Text} {v end : Walk} (n : ℕ) (word : Text) {rest : List Text} → IsPlain word
    → after_step s.rules word (before_value h id n) (option_word (arg_by_id s.rules id) id word h).0 (next (option_word (arg_by_id s.rules id) id word h).1) ≡ v
    → Passes s v rest end → Passes s (before_value h id n) (word ∷ rest) end
value_then {s} {h} {id} n word p goes more = and_then word (value_turn s h id n word p) (value_walked s.rules h id n word p ∙ goes) more

-- the faults after the last word
abbrev pub end_fault : Shape → Held → Bool → Kinds
end_fault s h has_subcommand =
    or_else (settle_fault s.rules s.args_override_self h)
    (or_else (defaults_fault (settled s.rules h).rows s.rules) (check_fault s (finished s.rules h) has_subcommand))

pub level_passes : {s : Shape} {words : List Text} {end : Walk} → Passes s (between nothing_held 1) words end → end_fault s end.held false ≡ []
    → level_fault s [] nothing_held words false [] ≡ []
level_passes {s} p ended = ap₂ (λ faults (w : Walk). or_else faults (end_fault s w.held false)) p.faultless p.ends ∙ ended

-- ---- how a command is entered

-- after the name of a command, with some of its words
abbrev at_command : Text → List Text → Walk
at_command name words = record { held = nothing_held; waiting = idle; position = 1; is_trailing = false; stopped = Some (name, words) }

-- the name of a command leads to it
pub record Enters (a : App) (name : Text) (s : Shape) : Type 0 where
  pub turn : turn_fault a.top (names_of a) (between nothing_held 1) name ≡ []
  pub met : walked a.top.rules (names_of a) (between nothing_held 1) name ≡ record { held = nothing_held; waiting = idle; position = 1; is_trailing = false; stopped = Some (name, []) }
  pub found : find (λ t. answers_to name (label_of t)) a.subs ≡ Some s
  pub above : end_fault a.top nothing_held true ≡ []

kept_for_it : (c : List Rule) (names : Names) (name : Text) (before words : List Text)
    → fold (walked c names) (at_command name before) words ≡ at_command name (before ++ words)
unfolding walked
kept_for_it c names name before [] = ap (at_command name) (sym (append-nil before))
kept_for_it c names name before (word ∷ rest) =
    kept_for_it c names name (before ++ word ∷ []) rest ∙ ap (at_command name) (append_assoc before (word ∷ []) rest)

no_fault_above : (s : Shape) (names : Names) (name : Text) (before words : List Text) → walk_fault s names (at_command name before) words ≡ []
unfolding walked walk_fault
no_fault_above s names name before [] = refl
no_fault_above s names name before (word ∷ rest) = no_fault_above s names name (before ++ word ∷ []) rest

walk_enters : {a : App} {name : Text} {s : Shape} → Enters a name s → (words : List Text) → walk a.top.rules (names_of a) nothing_held (name ∷ words) ≡ at_command name words
walk_enters {a} {name} e words =
    ap (λ w. fold (walked a.top.rules (names_of a)) w words) e.met ∙ kept_for_it a.top.rules (names_of a) name [] words

walk_is_faultless : {a : App} {name : Text} {s : Shape} → Enters a name s → (words : List Text) → walk_fault a.top (names_of a) (between nothing_held 1) (name ∷ words) ≡ []
unfolding walk_fault
walk_is_faultless {a} {name} e words =
    ap₂ or_else e.turn (ap (λ w. walk_fault a.top (names_of a) w words) e.met ∙ no_fault_above a.top (names_of a) name [] words)

-- words that the command accepts are accepted
pub command_passes : {a : App} {name : Text} {s : Shape} → Enters a name s → (words : List Text) → level_fault s [] nothing_held words false [] ≡ []
    → built_fault a nothing_held (name ∷ words) ≡ []
command_passes {a} {name} {s} e words below =
    ap₂ (λ faults (w : Walk). or_else faults (or_else (entered_fault a w.stopped) (end_fault a.top w.held (is_some (entered a w.stopped)))))
    (walk_is_faultless e words) (walk_enters e words)
    ∙ ap (λ o. or_else (option_map_or (λ t. level_fault t [] nothing_held words false []) o []) (end_fault a.top nothing_held (is_some (option_map (λ t. rows_at t words) o)))) e.found
    ∙ ap₂ or_else below e.above

-- and give the rows at the end of the walk over them
pub command_gives : {a : App} {name : Text} {s : Shape} {words : List Text} {end : Walk} → Enters a name s → Passes s (between nothing_held 1) words end
    → entered a (walk a.top.rules (names_of a) nothing_held (name ∷ words)).stopped ≡ Some (s.name, finished s.rules end.held)
command_gives {a} {name} {s} {words} e p =
    ap (λ (w : Walk). entered a w.stopped) (walk_enters e words) ∙ ap (λ o. option_map (λ t. rows_at t words) o) e.found
    ∙ ap (λ (w : Walk). Some (s.name, finished s.rules w.held)) p.ends
