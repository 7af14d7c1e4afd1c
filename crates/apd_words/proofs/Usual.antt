-- Words in their usual order are accepted, and ask for what they spell.
use Rattle.std.proofs.Common.{◌≡◌, ◌==◌, ◌∙◌, ℕ, Bool, true, false, if◌then◌else◌, List, [], ◌∷◌, Option, Some, None, refl, ap, ap₂, codes, option_and_then, option_map}
use Rattle.std.specs.Str.{bytes_eq}
use Rattle.std.specs.List.{list_any}
use Rattle.std.proofs.lemmas.Bool.{ne_eqb}
use Rattle.clap.specs.ValueTests.{accepts, is_unsigned_in}
use Rattle.clap.specs.Kinds.{or_else}
use Rattle.clap.specs.Faults.{check_fault, defaults_fault, settle_fault}
use Rattle.clap.specs.Walk.{Held, Row, Text, Walk, finished, first_of, nothing_held, settled}
use Rattle.clap.specs.Simple.{Shape, built, built_leaf, inherited}
use Rattle.clap.specs.declared.builder.value_parser.ValueParser.{ValueParser}
use Rattle.clap.specs.declared.builder.value_parser.ValueParser.TheVariants.{Unsigned}
use Rattle.clap.proofs.OnLiterals.{clap_on_literals}
use Rattle.clap.proofs.WalkLemmas.{list_any-map}
use Rattle.bpf_regions.specs.Hooks.{name_of}
use Rattle.bpf_regions.specs.declared.hooks.Hook.{Hook}
use Rattle.bpf_regions.specs.declared.hooks.Hook.TheVariants.{Association, Addba, Data}
use Rattle.apd_words.specs.CommandLine.{command_line, hook_names, most_states, program as commands, verify, assemble, disassemble, trace, TakesNames}
use Rattle.apd_words.specs.Asked.{Asked, Verify, Assemble, Disassemble, Trace, Answer, answers_to, command_asks, hook_named, run_of, live_of, test_of, states_named, wanted_in}
use Rattle.apd_words.specs.Spells.{IsOperand, Spells}
use Rattle.apd_words.proofs.Level.{Enters, IsPlain, Passes, and_then, before_value, between, command_gives, command_passes, end_fault, first_operand, level_passes, next_operand, no_more, option_given, option_named, plain_then, value_then}

-- a name is accepted by what takes it
accepts_named : (p : ValueParser) (names : List Text) (text : Text) → TakesNames p names → accepts false p text ≡ list_any (λ name. bytes_eq name text) names
accepts_named p names text t =
    ap (λ (v : ValueParser). accepts false v text) t.is ∙ list_any-map (λ name. bytes_eq name text) (λ s. s.now) t.given.now ∙ ap (list_any (λ name. bytes_eq name text)) t.spelled

plain : (word : Text) → IsOperand word → IsPlain word
plain [] h = record { dashes = refl; long = refl; short = refl }
plain (first ∷ rest) h =
    let other : (first == 45) ≡ false = ne_eqb first 45 h in
    record { dashes = rw other refl; long = rw other refl; short = rw other refl }

-- what exists only if a test holds
from_some : (b : Bool) (m n : ℕ) → (if b then Some m else None) ≡ Some n → b ≡ true
from_some true m n e = refl
from_some false m n e = cc

-- a number of states is accepted
accepted : (number : Text) (n : ℕ) → states_named number ≡ Some n → is_unsigned_in 1 most_states number ≡ true
accepted number n e = from_some (is_unsigned_in 1 most_states number) _ n e

-- a hook's name is read as that hook
taken : (p : ValueParser) (hook : Hook) → TakesNames p hook_names → accepts false p (name_of hook) ≡ true
taken p Association t = accepts_named p hook_names (codes "assoc") t
taken p Addba t = accepts_named p hook_names (codes "addba") t
taken p Data t = accepts_named p hook_names (codes "data") t

-- a hook's name isn't a flag
named : (hook : Hook) → IsPlain (name_of hook)
named Association = record { dashes = refl; long = refl; short = refl }
named Addba = record { dashes = refl; long = refl; short = refl }
named Data = record { dashes = refl; long = refl; short = refl }

-- a command as it is built
abbrev leaf : Shape → Shape
leaf s = built_leaf (inherited commands.top s)

-- what a command asks for, by the word that names the hook
abbrev by_hook : (Hook → Asked) → Text → Option Asked
by_hook asks name = option_and_then (λ hook. Some (asks hook)) (hook_named name)

hook_is_named : (hook : Hook) (asks : Hook → Asked) → by_hook asks (name_of hook) ≡ Some (asks hook)
hook_is_named Association asks = refl
hook_is_named Addba asks = refl
hook_is_named Data asks = refl

-- the name of a command that runs no lines, and judges no cases
pub record IsOther (name : Text) : Type 0 where
  pub run : bytes_eq name (codes "run") ≡ false
  pub live : bytes_eq name (codes "live") ≡ false
  pub test : bytes_eq name (codes "test") ≡ false

-- a command's answer goes to standard output if no file is named for it
answered : (name : Text) (rows : List Row) {a : Asked} → IsOther name → command_asks name rows ≡ Some a → first_of (codes "output") rows ≡ None
    → wanted_in (Some (name, rows)) ≡ Some (Answer a None)
answered name rows {a} other asks none =
    ap (λ b. (if b then run_of rows else (if bytes_eq name (codes "live") then live_of rows else (if bytes_eq name (codes "test") then test_of rows else answers_to name rows)))) other.run
    ∙ ap (λ b. (if b then live_of rows else (if bytes_eq name (codes "test") then test_of rows else answers_to name rows))) other.live
    ∙ ap (λ b. (if b then test_of rows else answers_to name rows)) other.test
    ∙ ap₂ (λ q o. option_map (λ asked. Answer asked o) q) asks none

-- ---- verify

verify_enters : (p q : ValueParser) → Enters (built (command_line p q)) (codes "verify") (leaf (verify p))
unfolding clap_on_literals
verify_enters p q = record { turn = refl; met = refl; found = refl; above = refl }

-- what is held after HOOK FILE, and after `--config C`
abbrev verified : ValueParser → Text → Text → Held
verified p name file = next_operand (leaf (verify p)) (codes "FILE") file (first_operand (codes "HOOK") name)

abbrev verified_with : ValueParser → Text → Text → Text → Held
verified_with p name file config = option_given (leaf (verify p)) (codes "config") config (verified p name file)

verify_operands : (p : ValueParser) (name file : Text) {rest : List Text} {end : Walk} → accepts false p name ≡ true → IsPlain name → IsPlain file
    → Passes (leaf (verify p)) (between (verified p name file) 3) rest end → Passes (leaf (verify p)) (between nothing_held 1) (name ∷ file ∷ rest) end
unfolding clap_on_literals
verify_operands p name file t n f more = plain_then 1 name n refl refl (plain_then 2 file f (rw t refl) refl more)

verify_option : (p : ValueParser) (name file config : Text) → IsPlain config
    → Passes (leaf (verify p)) (between (verified p name file) 3) (codes "--config" ∷ config ∷ []) (between (verified_with p name file config) 3)
unfolding clap_on_literals
verify_option p name file config c =
    and_then {v = before_value (option_named (leaf (verify p)) (codes "config") (verified p name file)) (codes "config") 3} (codes "--config") refl refl
    (value_then 3 config c refl (no_more _ _))

verify_ends : (p : ValueParser) (name file : Text) → end_fault (leaf (verify p)) (verified p name file) false ≡ []
unfolding clap_on_literals
verify_ends p name file = refl

verify_with_ends : (p : ValueParser) (name file config : Text) → end_fault (leaf (verify p)) (verified_with p name file config) false ≡ []
unfolding clap_on_literals
verify_with_ends p name file config = refl

verify_asks : (p : ValueParser) (name file : Text)
    → command_asks (leaf (verify p)).name (finished (leaf (verify p)).rules (verified p name file)) ≡ by_hook (λ hook. Verify hook file None most_states None) name
unfolding clap_on_literals
verify_asks p name file = refl

verify_with_asks : (p : ValueParser) (name file config : Text)
    → command_asks (leaf (verify p)).name (finished (leaf (verify p)).rules (verified_with p name file config)) ≡ by_hook (λ hook. Verify hook file (Some config) most_states None) name
unfolding clap_on_literals
verify_with_asks p name file config = refl

-- after `--states N`
abbrev verified_within : ValueParser → Text → Text → Text → Held
verified_within p name file number = option_given (leaf (verify p)) (codes "states") number (verified p name file)

verify_limit : (p : ValueParser) (name file number : Text) → IsPlain number
    → Passes (leaf (verify p)) (between (verified p name file) 3) (codes "--states" ∷ number ∷ []) (between (verified_within p name file number) 3)
unfolding clap_on_literals
verify_limit p name file number c =
    and_then {v = before_value (option_named (leaf (verify p)) (codes "states") (verified p name file)) (codes "states") 3} (codes "--states") refl refl
    (value_then 3 number c refl (no_more _ _))

verify_within_ends : (p : ValueParser) (name file number : Text) → accepts false (Unsigned 1 most_states) number ≡ true
    → end_fault (leaf (verify p)) (verified_within p name file number) false ≡ []
unfolding clap_on_literals
verify_within_ends p name file number a = rw a refl

verify_within_asks : (p : ValueParser) (name file number : Text)
    → command_asks (leaf (verify p)).name (finished (leaf (verify p)).rules (verified_within p name file number))
    ≡ option_and_then (λ hook. option_and_then (λ n. Some (Verify hook file None n None)) (states_named number)) (hook_named name)
unfolding clap_on_literals
verify_within_asks p name file number = refl

verify_is_other : (p : ValueParser) → IsOther (leaf (verify p)).name
unfolding clap_on_literals
verify_is_other p = record { run = refl; live = refl; test = refl }

verify_output : (p : ValueParser) (name file : Text) → first_of (codes "output") (finished (leaf (verify p)).rules (verified p name file)) ≡ None
unfolding clap_on_literals
verify_output p name file = refl

verify_with_output : (p : ValueParser) (name file config : Text) → first_of (codes "output") (finished (leaf (verify p)).rules (verified_with p name file config)) ≡ None
unfolding clap_on_literals
verify_with_output p name file config = refl

verify_within_output : (p : ValueParser) (name file number : Text) → first_of (codes "output") (finished (leaf (verify p)).rules (verified_within p name file number)) ≡ None
unfolding clap_on_literals
verify_within_output p name file number = refl

pub verify_plain : (program file : Text) (hook : Hook) → IsOperand file → Spells (program ∷ codes "verify" ∷ name_of hook ∷ file ∷ []) (Answer (Verify hook file None most_states None) None)
verify_plain program file hook f p q t u =
    let name = name_of hook in
    let passes = verify_operands p name file (taken p hook t) (named hook) (plain file f) (no_more _ _) in
    record {
      faultless = command_passes (verify_enters p q) (name ∷ file ∷ []) (level_passes passes (verify_ends p name file));
      asked = ap wanted_in (command_gives (verify_enters p q) passes) ∙ answered (leaf (verify p)).name (finished (leaf (verify p)).rules (verified p name file)) (verify_is_other p) (verify_asks p name file ∙ hook_is_named hook (λ it. Verify it file None most_states None)) (verify_output p name file);
    }

pub verify_configured : (program file config : Text) (hook : Hook) → IsOperand file → IsOperand config
    → Spells (program ∷ codes "verify" ∷ name_of hook ∷ file ∷ codes "--config" ∷ config ∷ []) (Answer (Verify hook file (Some config) most_states None) None)
verify_configured program file config hook f c p q t u =
    let name = name_of hook in
    let passes = verify_operands p name file (taken p hook t) (named hook) (plain file f) (verify_option p name file config (plain config c)) in
    record {
      faultless = command_passes (verify_enters p q) (name ∷ file ∷ codes "--config" ∷ config ∷ []) (level_passes passes (verify_with_ends p name file config));
      asked = ap wanted_in (command_gives (verify_enters p q) passes) ∙ answered (leaf (verify p)).name (finished (leaf (verify p)).rules (verified_with p name file config)) (verify_is_other p) (verify_with_asks p name file config ∙ hook_is_named hook (λ it. Verify it file (Some config) most_states None)) (verify_with_output p name file config);
    }

pub verify_limited : (program file number : Text) (hook : Hook) (n : ℕ) → IsOperand file → IsOperand number → states_named number ≡ Some n
    → Spells (program ∷ codes "verify" ∷ name_of hook ∷ file ∷ codes "--states" ∷ number ∷ []) (Answer (Verify hook file None n None) None)
verify_limited program file number hook n f c e p q t u =
    let name = name_of hook in
    let passes = verify_operands p name file (taken p hook t) (named hook) (plain file f) (verify_limit p name file number (plain number c)) in
    record {
      faultless = command_passes (verify_enters p q) (name ∷ file ∷ codes "--states" ∷ number ∷ []) (level_passes passes (verify_within_ends p name file number (accepted number n e)));
      asked = ap wanted_in (command_gives (verify_enters p q) passes) ∙ answered (leaf (verify p)).name (finished (leaf (verify p)).rules (verified_within p name file number)) (verify_is_other p) (verify_within_asks p name file number
          ∙ ap (λ o. option_and_then (λ it. option_and_then (λ m. Some (Verify it file None m None)) o) (hook_named name)) e ∙ hook_is_named hook (λ it. Verify it file None n None))
          (verify_within_output p name file number);
    }

-- ---- asm

assemble_enters : (p q : ValueParser) → Enters (built (command_line p q)) (codes "asm") (leaf assemble)
unfolding clap_on_literals
assemble_enters p q = record { turn = refl; met = refl; found = refl; above = refl }

assemble_passes : (file : Text) → IsPlain file → Passes (leaf assemble) (between nothing_held 1) (file ∷ []) (between (first_operand (codes "FILE") file) 2)
unfolding clap_on_literals
assemble_passes file f = plain_then 1 file f refl refl (no_more _ _)

assemble_ends : (file : Text) → end_fault (leaf assemble) (first_operand (codes "FILE") file) false ≡ []
unfolding clap_on_literals
assemble_ends file = refl

assemble_asks : (file : Text) → command_asks (leaf assemble).name (finished (leaf assemble).rules (first_operand (codes "FILE") file)) ≡ Some (Assemble file)
unfolding clap_on_literals
assemble_asks file = refl

assemble_is_other : IsOther (leaf assemble).name
unfolding clap_on_literals
assemble_is_other = record { run = refl; live = refl; test = refl }

assemble_output : (file : Text) → first_of (codes "output") (finished (leaf assemble).rules (first_operand (codes "FILE") file)) ≡ None
unfolding clap_on_literals
assemble_output file = refl

pub assemble_plain : (program file : Text) → IsOperand file → Spells (program ∷ codes "asm" ∷ file ∷ []) (Answer (Assemble file) None)
assemble_plain program file f p q t u =
    let passes = assemble_passes file (plain file f) in
    record {
      faultless = command_passes (assemble_enters p q) (file ∷ []) (level_passes passes (assemble_ends file));
      asked = ap wanted_in (command_gives (assemble_enters p q) passes) ∙ answered (leaf assemble).name (finished (leaf assemble).rules (first_operand (codes "FILE") file)) assemble_is_other (assemble_asks file) (assemble_output file);
    }

-- ---- disasm

disassemble_enters : (p q : ValueParser) → Enters (built (command_line p q)) (codes "disasm") (leaf disassemble)
unfolding clap_on_literals
disassemble_enters p q = record { turn = refl; met = refl; found = refl; above = refl }

-- what is held after FILE, and after `--config C`
abbrev listed : Text → Held
listed file = first_operand (codes "FILE") file

abbrev listed_with : Text → Text → Held
listed_with file config = option_given (leaf disassemble) (codes "config") config (listed file)

disassemble_operand : (file : Text) {rest : List Text} {end : Walk} → IsPlain file
    → Passes (leaf disassemble) (between (listed file) 2) rest end → Passes (leaf disassemble) (between nothing_held 1) (file ∷ rest) end
unfolding clap_on_literals
disassemble_operand file f more = plain_then 1 file f refl refl more

disassemble_option : (file config : Text) → IsPlain config
    → Passes (leaf disassemble) (between (listed file) 2) (codes "--config" ∷ config ∷ []) (between (listed_with file config) 2)
unfolding clap_on_literals
disassemble_option file config c =
    and_then {v = before_value (option_named (leaf disassemble) (codes "config") (listed file)) (codes "config") 2} (codes "--config") refl refl
    (value_then 2 config c refl (no_more _ _))

disassemble_ends : (file : Text) → end_fault (leaf disassemble) (listed file) false ≡ []
unfolding clap_on_literals
disassemble_ends file = refl

disassemble_with_ends : (file config : Text) → end_fault (leaf disassemble) (listed_with file config) false ≡ []
unfolding clap_on_literals
disassemble_with_ends file config = refl

disassemble_asks : (file : Text) → command_asks (leaf disassemble).name (finished (leaf disassemble).rules (listed file)) ≡ Some (Disassemble file None false)
unfolding clap_on_literals
disassemble_asks file = refl

disassemble_with_asks : (file config : Text)
    → command_asks (leaf disassemble).name (finished (leaf disassemble).rules (listed_with file config)) ≡ Some (Disassemble file (Some config) false)
unfolding clap_on_literals
disassemble_with_asks file config = refl

disassemble_is_other : IsOther (leaf disassemble).name
unfolding clap_on_literals
disassemble_is_other = record { run = refl; live = refl; test = refl }

disassemble_output : (file : Text) → first_of (codes "output") (finished (leaf disassemble).rules (listed file)) ≡ None
unfolding clap_on_literals
disassemble_output file = refl

disassemble_with_output : (file config : Text) → first_of (codes "output") (finished (leaf disassemble).rules (listed_with file config)) ≡ None
unfolding clap_on_literals
disassemble_with_output file config = refl

pub disassemble_plain : (program file : Text) → IsOperand file → Spells (program ∷ codes "disasm" ∷ file ∷ []) (Answer (Disassemble file None false) None)
disassemble_plain program file f p q t u =
    let passes = disassemble_operand file (plain file f) (no_more _ _) in
    record {
      faultless = command_passes (disassemble_enters p q) (file ∷ []) (level_passes passes (disassemble_ends file));
      asked = ap wanted_in (command_gives (disassemble_enters p q) passes) ∙ answered (leaf disassemble).name (finished (leaf disassemble).rules (listed file)) disassemble_is_other (disassemble_asks file) (disassemble_output file);
    }

pub disassemble_configured : (program file config : Text) → IsOperand file → IsOperand config
    → Spells (program ∷ codes "disasm" ∷ file ∷ codes "--config" ∷ config ∷ []) (Answer (Disassemble file (Some config) false) None)
disassemble_configured program file config f c p q t u =
    let passes = disassemble_operand file (plain file f) (disassemble_option file config (plain config c)) in
    record {
      faultless = command_passes (disassemble_enters p q) (file ∷ codes "--config" ∷ config ∷ []) (level_passes passes (disassemble_with_ends file config));
      asked = ap wanted_in (command_gives (disassemble_enters p q) passes) ∙ answered (leaf disassemble).name (finished (leaf disassemble).rules (listed_with file config)) disassemble_is_other (disassemble_with_asks file config) (disassemble_with_output file config);
    }

-- ---- trace

trace_enters : (p q : ValueParser) → Enters (built (command_line p q)) (codes "trace") (leaf (trace p))
unfolding clap_on_literals
trace_enters p q = record { turn = refl; met = refl; found = refl; above = refl }

-- what is held after HOOK FILE FRAME, and after `--config C`
abbrev traced : ValueParser → Text → Text → Text → Held
traced p name file frame = next_operand (leaf (trace p)) (codes "FRAME") frame (next_operand (leaf (trace p)) (codes "FILE") file (first_operand (codes "HOOK") name))

abbrev traced_with : ValueParser → Text → Text → Text → Text → Held
traced_with p name file frame config = option_given (leaf (trace p)) (codes "config") config (traced p name file frame)

trace_operands : (p : ValueParser) (name file frame : Text) {rest : List Text} {end : Walk} → accepts false p name ≡ true → IsPlain name → IsPlain file → IsPlain frame
    → Passes (leaf (trace p)) (between (traced p name file frame) 4) rest end → Passes (leaf (trace p)) (between nothing_held 1) (name ∷ file ∷ frame ∷ rest) end
unfolding clap_on_literals
trace_operands p name file frame t n f g more = plain_then 1 name n refl refl (plain_then 2 file f (rw t refl) refl (plain_then 3 frame g refl refl more))

trace_option : (p : ValueParser) (name file frame config : Text) → IsPlain config
    → Passes (leaf (trace p)) (between (traced p name file frame) 4) (codes "--config" ∷ config ∷ []) (between (traced_with p name file frame config) 4)
unfolding clap_on_literals
trace_option p name file frame config c =
    and_then {v = before_value (option_named (leaf (trace p)) (codes "config") (traced p name file frame)) (codes "config") 4} (codes "--config") refl refl
    (value_then 4 config c refl (no_more _ _))

trace_ends : (p : ValueParser) (name file frame : Text) → end_fault (leaf (trace p)) (traced p name file frame) false ≡ []
unfolding clap_on_literals
trace_ends p name file frame = refl

trace_with_ends : (p : ValueParser) (name file frame config : Text) → end_fault (leaf (trace p)) (traced_with p name file frame config) false ≡ []
unfolding clap_on_literals
trace_with_ends p name file frame config = refl

trace_asks : (p : ValueParser) (name file frame : Text)
    → command_asks (leaf (trace p)).name (finished (leaf (trace p)).rules (traced p name file frame)) ≡ by_hook (λ hook. Trace hook file frame None most_states None None false) name
unfolding clap_on_literals
trace_asks p name file frame = refl

trace_with_asks : (p : ValueParser) (name file frame config : Text)
    → command_asks (leaf (trace p)).name (finished (leaf (trace p)).rules (traced_with p name file frame config)) ≡ by_hook (λ hook. Trace hook file frame (Some config) most_states None None false) name
unfolding clap_on_literals
trace_with_asks p name file frame config = refl

-- after `--states N`
abbrev traced_within : ValueParser → Text → Text → Text → Text → Held
traced_within p name file frame number = option_given (leaf (trace p)) (codes "states") number (traced p name file frame)

trace_limit : (p : ValueParser) (name file frame number : Text) → IsPlain number
    → Passes (leaf (trace p)) (between (traced p name file frame) 4) (codes "--states" ∷ number ∷ []) (between (traced_within p name file frame number) 4)
unfolding clap_on_literals
trace_limit p name file frame number c =
    and_then {v = before_value (option_named (leaf (trace p)) (codes "states") (traced p name file frame)) (codes "states") 4} (codes "--states") refl refl
    (value_then 4 number c refl (no_more _ _))

trace_within_settles : (p : ValueParser) (name file frame number : Text) → accepts false (Unsigned 1 most_states) number ≡ true
    → settle_fault (leaf (trace p)).rules (leaf (trace p)).args_override_self (traced_within p name file frame number) ≡ []
unfolding clap_on_literals
trace_within_settles p name file frame number a = rw a refl

trace_within_ends : (p : ValueParser) (name file frame number : Text) → accepts false (Unsigned 1 most_states) number ≡ true
    → end_fault (leaf (trace p)) (traced_within p name file frame number) false ≡ []
unfolding clap_on_literals
trace_within_ends p name file frame number a =
    let s = leaf (trace p) in
    let held = traced_within p name file frame number in
    ap (λ faults. or_else faults (or_else (defaults_fault (settled s.rules held).rows s.rules) (check_fault s (finished s.rules held) false)))
    (trace_within_settles p name file frame number a)

trace_within_asks : (p : ValueParser) (name file frame number : Text)
    → command_asks (leaf (trace p)).name (finished (leaf (trace p)).rules (traced_within p name file frame number))
    ≡ option_and_then (λ hook. option_and_then (λ n. Some (Trace hook file frame None n None None false)) (states_named number)) (hook_named name)
unfolding clap_on_literals
trace_within_asks p name file frame number = refl

trace_is_other : (p : ValueParser) → IsOther (leaf (trace p)).name
unfolding clap_on_literals
trace_is_other p = record { run = refl; live = refl; test = refl }

trace_output : (p : ValueParser) (name file frame : Text) → first_of (codes "output") (finished (leaf (trace p)).rules (traced p name file frame)) ≡ None
unfolding clap_on_literals
trace_output p name file frame = refl

trace_with_output : (p : ValueParser) (name file frame config : Text) → first_of (codes "output") (finished (leaf (trace p)).rules (traced_with p name file frame config)) ≡ None
unfolding clap_on_literals
trace_with_output p name file frame config = refl

trace_within_output : (p : ValueParser) (name file frame number : Text) → first_of (codes "output") (finished (leaf (trace p)).rules (traced_within p name file frame number)) ≡ None
unfolding clap_on_literals
trace_within_output p name file frame number = refl

pub trace_plain : (program file frame : Text) (hook : Hook) → IsOperand file → IsOperand frame
    → Spells (program ∷ codes "trace" ∷ name_of hook ∷ file ∷ frame ∷ []) (Answer (Trace hook file frame None most_states None None false) None)
trace_plain program file frame hook f g p q t u =
    let name = name_of hook in
    let passes = trace_operands p name file frame (taken p hook t) (named hook) (plain file f) (plain frame g) (no_more _ _) in
    record {
      faultless = command_passes (trace_enters p q) (name ∷ file ∷ frame ∷ []) (level_passes passes (trace_ends p name file frame));
      asked = ap wanted_in (command_gives (trace_enters p q) passes) ∙ answered (leaf (trace p)).name (finished (leaf (trace p)).rules (traced p name file frame)) (trace_is_other p) (trace_asks p name file frame ∙ hook_is_named hook (λ it. Trace it file frame None most_states None None false)) (trace_output p name file frame);
    }

pub trace_configured : (program file frame config : Text) (hook : Hook) → IsOperand file → IsOperand frame → IsOperand config
    → Spells (program ∷ codes "trace" ∷ name_of hook ∷ file ∷ frame ∷ codes "--config" ∷ config ∷ []) (Answer (Trace hook file frame (Some config) most_states None None false) None)
trace_configured program file frame config hook f g c p q t u =
    let name = name_of hook in
    let passes = trace_operands p name file frame (taken p hook t) (named hook) (plain file f) (plain frame g) (trace_option p name file frame config (plain config c)) in
    record {
      faultless = command_passes (trace_enters p q) (name ∷ file ∷ frame ∷ codes "--config" ∷ config ∷ []) (level_passes passes (trace_with_ends p name file frame config));
      asked = ap wanted_in (command_gives (trace_enters p q) passes) ∙ answered (leaf (trace p)).name (finished (leaf (trace p)).rules (traced_with p name file frame config)) (trace_is_other p) (trace_with_asks p name file frame config ∙ hook_is_named hook (λ it. Trace it file frame (Some config) most_states None None false)) (trace_with_output p name file frame config);
    }

pub trace_limited : (program file frame number : Text) (hook : Hook) (n : ℕ) → IsOperand file → IsOperand frame → IsOperand number → states_named number ≡ Some n
    → Spells (program ∷ codes "trace" ∷ name_of hook ∷ file ∷ frame ∷ codes "--states" ∷ number ∷ []) (Answer (Trace hook file frame None n None None false) None)
trace_limited program file frame number hook n f g c e p q t u =
    let name = name_of hook in
    let passes = trace_operands p name file frame (taken p hook t) (named hook) (plain file f) (plain frame g) (trace_limit p name file frame number (plain number c)) in
    record {
      faultless = command_passes (trace_enters p q) (name ∷ file ∷ frame ∷ codes "--states" ∷ number ∷ []) (level_passes passes (trace_within_ends p name file frame number (accepted number n e)));
      asked = ap wanted_in (command_gives (trace_enters p q) passes) ∙ answered (leaf (trace p)).name (finished (leaf (trace p)).rules (traced_within p name file frame number)) (trace_is_other p) (trace_within_asks p name file frame number
          ∙ ap (λ o. option_and_then (λ it. option_and_then (λ m. Some (Trace it file frame None m None None false)) o) (hook_named name)) e ∙ hook_is_named hook (λ it. Trace it file frame None n None None false))
          (trace_within_output p name file frame number);
    }
