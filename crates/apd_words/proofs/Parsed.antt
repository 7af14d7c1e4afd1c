-- What parsing the command line shows of the words.
use Rattle.std.proofs.Common.{◌≡◌, ◌≢◌, ◌⊎◌, ◌∙◌, true, List, [], Option, Some, None, Result, Ok, Err, option_map, refl, sym, ap, subst, inl, inr}
use Rattle.clap.specs.Words.{App, HasKind, HasMatchesOf, IsAmong, Kinds, Text, fault_of, is_simple, is_simple_and_free, kind_of, subcommand_of, subcommand_rows_of}
use Rattle.clap.specs.declared.error.Error.{Error}
use Rattle.clap.specs.declared.error.kind.ErrorKind.{ErrorKind}
use Rattle.clap.specs.declared.error.kind.ErrorKind.TheVariants.{DisplayHelp, DisplayVersion, OutOfMemory}
use Rattle.clap.specs.declared.builder.value_parser.ValueParser.TheVariants.{Names}
use Rattle.clap.specs.declared.parser.matches.ArgMatches.{ArgMatches}
use Rattle.std.specs.Borrow.{Bor}
use Rattle.apd_words.specs.CommandLine.{command_line}
use Rattle.apd_words.specs.Asked.{Wanted, wanted_of, wanted_in}
use Rattle.apd_words.specs.Reads.{AsksFor, Reads, IsHelp, WantsText, TellsOf, TellsOfKind, TellsNoHelp}
use Rattle.apd_words.specs.Spells.{Spells, IsReadAs}
use Rattle.std.proofs.lemmas.Option.{same_Some}
use Rattle.apd_words.specs.declared.Request.{Request}
use Rattle.apd_words.specs.declared.Told.{Told}
use Rattle.apd_words.specs.declared.Told.TheVariants.{Help, Fault, NoMemory}

-- the parser's laws hold of the command line
pub is_simple_line : (hooks numbers : Bor (List (Bor Text))) → is_simple (command_line (Names hooks) (Names numbers)) ≡ true
is_simple_line hooks numbers = refl

pub is_free_line : (hooks numbers : Bor (List (Bor Text))) → is_simple_and_free (command_line (Names hooks) (Names numbers)) ≡ true
is_free_line hooks numbers = refl

module _ (hooks numbers : Bor (List (Bor Text))) (app : App) (words : List Text) (is : app ≡ command_line (Names hooks) (Names numbers)) where
  abbrev line : App
  line = command_line (Names hooks) (Names numbers)

  simple : is_simple app ≡ true
  simple = ap is_simple is ∙ is_simple_line hooks numbers

  free : is_simple_and_free app ≡ true
  free = ap is_simple_and_free is ∙ is_free_line hooks numbers

  -- what the matches ask for is what the words ask for
  asked_is : (m : ArgMatches) (o : Option Wanted) → HasMatchesOf app words m → o ≡ wanted_in (subcommand_rows_of m) → wanted_in (subcommand_of line words) ≡ o
  asked_is m o has asks = sym (asks ∙ ap wanted_in ((has simple).1 ∙ ap (λ (a : App). subcommand_of a words) is))

  pub AsksFor-parsed : (m : ArgMatches) (r : Option Request) (request : Request) → HasMatchesOf app words m → (is_simple_and_free app ≡ true → fault_of app words ≡ []) → option_map wanted_of r ≡ wanted_in (subcommand_rows_of m) → r ≡ Some request
      → AsksFor (Names hooks) (Names numbers) words (wanted_of request)
  AsksFor-parsed m r request has faultless asks some = record {
    faultless = ap (λ (a : App). fault_of a words) (sym is) ∙ faultless free;
    asked = asked_is m _ has asks ∙ ap (option_map wanted_of) some;
  }

  asks_nothing : (m : ArgMatches) (r : Option Request) → HasMatchesOf app words m → option_map wanted_of r ≡ wanted_in (subcommand_rows_of m) → r ≡ None → (a : Wanted) → AsksFor (Names hooks) (Names numbers) words a → ⊥
  asks_nothing m r has asks none a h =
      let bad : None ≡ Some a = sym (ap (option_map wanted_of) none) ∙ sym (asked_is m _ has asks) ∙ h.asked in cc

  pub TellsOf-incomplete : (m : ArgMatches) (r : Option Request) (t : Told) → HasMatchesOf app words m → option_map wanted_of r ≡ wanted_in (subcommand_rows_of m) → r ≡ None → TellsNoHelp t → TellsOf (Names hooks) (Names numbers) words t
  TellsOf-incomplete m r (Help text) has asks none tells = absurd tells
  TellsOf-incomplete m r (Fault text) has asks none tells = asks_nothing m r has asks none
  TellsOf-incomplete m r NoMemory has asks none tells = tt

  among_line : (k : ErrorKind) → IsAmong k (fault_of app words) → IsAmong k (fault_of line words)
  among_line k among = let P : App → Type 0 = λ a. IsAmong k (fault_of a words) in subst P is among

  -- a kind among the faults doesn't occur for words that ask for something
  no_fault : (k : ErrorKind) (a : Wanted) → IsAmong k (fault_of line words) → AsksFor (Names hooks) (Names numbers) words a → ⊥
  no_fault k a among h = let P : Kinds → Type 0 = λ kinds. IsAmong k kinds in subst P h.faultless among

  helps : (k : ErrorKind) → WantsText k → (k ≡ OutOfMemory) ⊎ IsAmong k (fault_of app words) → IsHelp (Names hooks) (Names numbers) words
  helps k (inl help) (inl memory) = let bad : DisplayHelp ≡ OutOfMemory = sym help ∙ memory in cc
  helps k (inr version) (inl memory) = let bad : DisplayVersion ≡ OutOfMemory = sym version ∙ memory in cc
  helps k wants (inr among) = record { kind = k; wants = wants; among = among_line k among }

  faults : (k : ErrorKind) → k ≢ OutOfMemory → (k ≡ OutOfMemory) ⊎ IsAmong k (fault_of app words) → (a : Wanted) → AsksFor (Names hooks) (Names numbers) words a → ⊥
  faults k other (inl memory) a h = other memory
  faults k other (inr among) a h = no_fault k a (among_line k among) h

  pub TellsOf-refused : (e : Error) (t : Told) → (is_simple_and_free app ≡ true → HasKind (fault_of app words) e) → TellsOfKind (kind_of e) t → TellsOf (Names hooks) (Names numbers) words t
  TellsOf-refused e (Help text) has tells = helps (kind_of e) tells (has free)
  TellsOf-refused e (Fault text) has tells = faults (kind_of e) tells (has free)
  TellsOf-refused e NoMemory has tells = tt

-- words that always ask for something are read as that
pub IsReadAs-spelled : (words : List Text) (r : Result Request Told) (a : Wanted) → Reads words r → Spells words a → IsReadAs a r
IsReadAs-spelled words (Ok request) a reads spells =
    same_Some _ _ (sym reads.at.asked ∙ (spells reads.hooks reads.numbers reads.takes_hooks reads.takes_numbers).asked)
IsReadAs-spelled words (Err (Help text)) a reads spells =
    let asks = spells reads.hooks reads.numbers reads.takes_hooks reads.takes_numbers in
    let P : Kinds → Type 0 = λ kinds. IsAmong reads.at.kind kinds in
    absurd (subst P asks.faultless reads.at.among)
IsReadAs-spelled words (Err (Fault text)) a reads spells =
    absurd (reads.at a (spells reads.hooks reads.numbers reads.takes_hooks reads.takes_numbers))
IsReadAs-spelled words (Err NoMemory) a reads spells = refl
