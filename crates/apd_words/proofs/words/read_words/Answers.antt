use Rattle.std.proofs.Common.{◌≡◌, rules, map, refl, List, Ok, Err}
use Rattle.std.specs.Borrow.{Bor}
use Rattle.clap.specs.Words.{Text}
use Rattle.clap.specs.declared.builder.value_parser.ValueParser.TheVariants.{Names}
use Rattle.apd_words.specs.CommandLine.{TakesNames, hook_names, worker_names}
use Rattle.apd_words.proofs.Parsed.{AsksFor-parsed, TellsOf-incomplete, TellsOf-refused, IsReadAs-spelled}
use Rattle.apd_words.specs.Reads.{Reads}
use Rattle.apd_words.specs.declared.Told.TheVariants.{NoMemory}
use Rattle.apd_words.proofs.words.read_words.Goals as goal

takes : (given : Bor (List (Bor Text))) (names : List Text) → map (λ s. s.now) given.now ≡ names → TakesNames (Names given) names
takes given names e = record { given = given; is = refl; spelled = e }

pub returns-in_default : goal.returns-in_default
returns-in_default c =
    let hooks : map (λ (s : Bor Text). s.now) c.as_slice.result.now ≡ hook_names = search rules in
    let numbers : map (λ (s : Bor Text). s.now) c.as_slice-2.result.now ≡ worker_names = search rules in
    let reads : Reads (map (λ word. word.now) c.args.words.now) (Err NoMemory) = record {
      hooks = Names c.as_slice.result;
      numbers = Names c.as_slice-2.result;
      takes_hooks = takes c.as_slice.result _ hooks;
      takes_numbers = takes c.as_slice-2.result _ numbers;
      at = tt;
    } in
    record { reads = reads; spelled = λ a. IsReadAs-spelled _ _ a reads }

pub returns-in-Ok-Some : goal.returns-in-Ok-Some
returns-in-Ok-Some c =
    let hooks : map (λ (s : Bor Text). s.now) c.as_slice.result.now ≡ hook_names = search rules in
    let numbers : map (λ (s : Bor Text). s.now) c.as_slice-2.result.now ≡ worker_names = search rules in
    let reads : Reads (map (λ word. word.now) c.args.words.now) (Ok c.in-Ok-Some.request) = record {
      hooks = Names c.as_slice.result;
      numbers = Names c.as_slice-2.result;
      takes_hooks = takes c.as_slice.result _ hooks;
      takes_numbers = takes c.as_slice-2.result _ numbers;
      at = AsksFor-parsed c.as_slice.result c.as_slice-2.result _ _ c.in-Ok.ensures.is _ _ _ c.in-Ok-try_get_matches_from.ensures.matches c.in-Ok-try_get_matches_from.ensures.kinds c.in-Ok-Some.ensures.is c.in-Ok-Some.field-0-is;
    } in
    record { reads = reads; spelled = λ a. IsReadAs-spelled _ _ a reads }

pub returns-in-Ok-None : goal.returns-in-Ok-None
returns-in-Ok-None c =
    let hooks : map (λ (s : Bor Text). s.now) c.as_slice.result.now ≡ hook_names = search rules in
    let numbers : map (λ (s : Bor Text). s.now) c.as_slice-2.result.now ≡ worker_names = search rules in
    let reads : Reads (map (λ word. word.now) c.args.words.now) (Err c.incomplete.result) = record {
      hooks = Names c.as_slice.result;
      numbers = Names c.as_slice-2.result;
      takes_hooks = takes c.as_slice.result _ hooks;
      takes_numbers = takes c.as_slice-2.result _ numbers;
      at = TellsOf-incomplete c.as_slice.result c.as_slice-2.result _ _ c.in-Ok.ensures.is _ _ _ c.in-Ok-try_get_matches_from.ensures.matches c.in-Ok-None.ensures.is c.in-Ok-None.field-0-is c.incomplete.ensures.is;
    } in
    record { reads = reads; spelled = λ a. IsReadAs-spelled _ _ a reads }

pub returns-in-Ok-try_get_matches_from : goal.returns-in-Ok-try_get_matches_from
returns-in-Ok-try_get_matches_from c =
    let hooks : map (λ (s : Bor Text). s.now) c.as_slice.result.now ≡ hook_names = search rules in
    let numbers : map (λ (s : Bor Text). s.now) c.as_slice-2.result.now ≡ worker_names = search rules in
    let reads : Reads (map (λ word. word.now) c.args.words.now) (Err NoMemory) = record {
      hooks = Names c.as_slice.result;
      numbers = Names c.as_slice-2.result;
      takes_hooks = takes c.as_slice.result _ hooks;
      takes_numbers = takes c.as_slice-2.result _ numbers;
      at = tt;
    } in
    record { reads = reads; spelled = λ a. IsReadAs-spelled _ _ a reads }

pub returns : goal.returns
returns c =
    let hooks : map (λ (s : Bor Text). s.now) c.as_slice.result.now ≡ hook_names = search rules in
    let numbers : map (λ (s : Bor Text). s.now) c.as_slice-2.result.now ≡ worker_names = search rules in
    let reads : Reads (map (λ word. word.now) c.args.words.now) (Err c.told.result) = record {
      hooks = Names c.as_slice.result;
      numbers = Names c.as_slice-2.result;
      takes_hooks = takes c.as_slice.result _ hooks;
      takes_numbers = takes c.as_slice-2.result _ numbers;
      at = TellsOf-refused c.as_slice.result c.as_slice-2.result _ _ c.in-Ok.ensures.is c.in-Err.error _ c.in-Err.ensures.kinds c.told.ensures.is;
    } in
    record { reads = reads; spelled = λ a. IsReadAs-spelled _ _ a reads }
