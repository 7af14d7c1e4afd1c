-- What a command is with one more argument, and a program with one more command.
use Rattle.std.proofs.Common.{◌≡◌, ◌∙◌, ◌||◌, ◌<◌, ◌+◌, ◌++◌, ◌∷◌, [], ℕ, List, false, ap, ap₂, sym, subst, refl, Result, IfOk, map, take, length, get_or}
use Rattle.std.proofs.lemmas.List.{map-append, take_more}
use Rattle.clap.specs.Words.{App, Rule, Shape, Text, AddsArg, AddsSubcommand, rule_of, with_subcommand}
use Rattle.clap.specs.declared.builder.arg.Arg.{Arg}
use Rattle.clap.specs.declared.builder.command.Command.{Command}
use Rattle.apd_words.specs.Built.{IsCommand, IsProgram, with_argument}
use Rattle.apd_words.specs.CommandLine.{command}
use Rattle.std.specs.declared.alloc.AllocError.{AllocError}
use Rattle.apd_words.specs.Table.{with_commands}

pub command_with : (old new : Command) (arg : Arg) (s : Shape) (r : Rule) → AddsArg old arg new → arg.global ≡ false → IsCommand s old → rule_of arg ≡ r → IsCommand (with_argument s r) new
command_with old new arg s r h local is rule = record {
  is = ap (λ (a : App). a.top) (h.shape local) ∙ ap₂ with_argument is.is rule;
  local = h.globals ∙ ap₂ ◌||◌ is.local local;
}

pub program_with : (old sub new : Command) (a : App) (s : Shape) → AddsSubcommand old sub new → IsProgram a old → IsCommand s sub → IsProgram (with_subcommand a s) new
program_with old sub new a s h is command = record {
  is = h.shape command.local ∙ ap₂ with_subcommand is.is command.is;
  local = h.globals ∙ ap₂ ◌||◌ is.local command.local;
}

-- with one more of a list of arguments
pub command_next : {X : Type 0} (old new : Command) (arg : Arg) (name : Text) (f : X → Rule) (xs : List X) (i : ℕ) (d : X) → i < length xs
    → AddsArg old arg new → arg.global ≡ false → IsCommand (command name (map f (take i xs))) old → rule_of arg ≡ f (get_or xs i d)
    → IsCommand (command name (map f (take (i + 1) xs))) new
command_next {X} old new arg name f xs i d lt h local is rule =
    let rules : map f (take (i + 1) xs) ≡ map f (take i xs) ++ f (get_or xs i d) ∷ [] = ap (map f) (take_more xs i d lt) ∙ map-append f (take i xs) (get_or xs i d ∷ []) in
    subst (λ rs. IsCommand (command name rs) new) (sym rules) (command_with old new arg _ _ h local is rule)

-- and with one more of a list of commands
with_last : (a : App) (ss : List Shape) (s : Shape) → with_commands a (ss ++ s ∷ []) ≡ with_subcommand (with_commands a ss) s
with_last a [] s = refl
with_last a (x ∷ ss) s = with_last (with_subcommand a x) ss s

pub program_next : {X : Type 0} (new : Result Command AllocError) (a : App) (f : X → Shape) (xs : List X) (i : ℕ) (d : X) → i < length xs
    → IfOk new (IsProgram (with_subcommand (with_commands a (map f (take i xs))) (f (get_or xs i d))))
    → IfOk new (IsProgram (with_commands a (map f (take (i + 1) xs))))
program_next {X} new a f xs i d lt h =
    let rules : map f (take (i + 1) xs) ≡ map f (take i xs) ++ f (get_or xs i d) ∷ [] = ap (map f) (take_more xs i d lt) ∙ map-append f (take i xs) (get_or xs i d ∷ []) in
    subst (λ b. IfOk new (IsProgram b)) (sym (ap (with_commands a) rules ∙ with_last a (map f (take i xs)) (f (get_or xs i d)))) h
