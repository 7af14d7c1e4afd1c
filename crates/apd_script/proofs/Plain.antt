-- Lines that are `frame`, one space and hex digits.
use Rattle.std.specs.Prelude.{◌≡◌, ◌≢◌, ◌==◌, ℕ, ◌<◌, List, [], ◌∷◌, ◌++◌, length, codes, filter, slice_index, true, false, Some, None, Result, Ok, Err, IsOk, is_ok, unwrap_or, option_map, option_and_then, if◌then◌else◌, refl}
use Rattle.std.specs.Result.{result_ok}
use Rattle.std.proofs.Common.{rules, tests, arith, ap, sym, ◌∙◌}
use Rattle.std.specs.List.{AllPass, list_any, onto_first, slice_split}
use Rattle.std.proofs.lemmas.List.Splits.{slice_split-cons_no, slice_split-cons_yes}
use Rattle.std.proofs.lemmas.Bool.Decides.{nat_tests}
use Rattle.std.specs.Prelude.{IsUtf8, All}
use Rattle.std.proofs.lemmas.List.Elements.{All-nil, All-append, All-cons, All-head, All-tail}
use Rattle.std.proofs.lemmas.Str.{IsUtf8-from_ascii}
use Rattle.std.proofs.lemmas.Str.Ascii.{IsAscii-from_all}
use Rattle.hex.specs.Hex.{decode_of, is_hex_digit}
use Rattle.hex.specs.declared.error.FromHexError.{FromHexError}
use Rattle.bpf_regions.specs.declared.maps.Shape.{Shape}
use Rattle.apd_script.specs.declared.command.Command.TheVariants as command
use Rattle.apd_script.specs.declared.hex_text.HexText.{HexText}
use Rattle.apd_script.specs.Asked.{Frame}
use Rattle.apd_script.specs.Lines.{Reads, says, text_said, words_said}
use Rattle.apd_script.specs.Words.{words, is_forbidden, is_some_text}
use Rattle.apd_script.specs.Digits.{bytes_of}
use Rattle.apd_script.proofs.Cuts.{slice_split-without}
use Rattle.apd_script.proofs.Digits.{all_digits, digit_in}

abbrev is_digit : ℕ → Type 0
is_digit c = is_hex_digit c ≡ true

not_space : (c : ℕ) → is_hex_digit c ≡ true → c ≢ 32
not_space c h e = grind (arith, nat_tests)

not_forbidden : (c : ℕ) → is_hex_digit c ≡ true → is_forbidden c ≡ false
not_forbidden c h = grind (arith, nat_tests)

unforbidden : (s : List ℕ) → AllPass is_hex_digit s → list_any is_forbidden s ≡ false
unforbidden [] h = refl
unforbidden (c ∷ cs) h = rw (not_forbidden c (All-head is_digit c cs h), unforbidden cs (All-tail is_digit c cs h)) refl

-- the keyword ends at the first space
keyword : (digits : List ℕ) → slice_split (λ c. c == 32) (codes "frame " ++ digits) ≡ codes "frame" ∷ slice_split (λ c. c == 32) digits
keyword digits =
    slice_split-cons_no (λ c. c == 32) 102 (codes "rame " ++ digits) refl
    ∙ ap (onto_first 102) (slice_split-cons_no (λ c. c == 32) 114 (codes "ame " ++ digits) refl
    ∙ ap (onto_first 114) (slice_split-cons_no (λ c. c == 32) 97 (codes "me " ++ digits) refl
    ∙ ap (onto_first 97) (slice_split-cons_no (λ c. c == 32) 109 (codes "e " ++ digits) refl
    ∙ ap (onto_first 109) (slice_split-cons_no (λ c. c == 32) 101 (codes " " ++ digits) refl
    ∙ ap (onto_first 101) (slice_split-cons_yes (λ c. c == 32) 32 digits refl)))))

two_words : (digits : List ℕ) → 0 < length digits → filter is_some_text (codes "frame" ∷ digits ∷ []) ≡ codes "frame" ∷ digits ∷ []
two_words [] some = absurd (omega arith)
two_words (c ∷ cs) some = search (rules, tests, nat_tests)

words-plain : (digits : List ℕ) → 0 < length digits → IsOk (decode_of digits) → words (codes "frame " ++ digits) ≡ codes "frame" ∷ digits ∷ []
words-plain digits some ok =
    let whole = slice_split-without 32 digits (λ i lt. not_space (slice_index digits i) (digit_in digits i ok lt)) in
    ap (filter is_some_text) (keyword digits ∙ ap (λ rest. codes "frame" ∷ rest) whole) ∙ two_words digits some

framed : (r : Result (List ℕ) FromHexError) → is_ok r ≡ true → option_map Frame (result_ok r) ≡ Some (Frame (unwrap_or (result_ok r) []))
framed (Ok bytes) h = refl
framed (Err why) h = cc h

said-plain : (maps : List Shape) (digits : List ℕ) → 0 < length digits → IsOk (decode_of digits)
    → text_said maps (codes "frame " ++ digits) ≡ Some (Some (Frame (bytes_of digits)))
said-plain maps digits some ok =
    let clean : list_any is_forbidden (codes "frame " ++ digits) ≡ false = unforbidden digits (all_digits digits ok) in
    ap (λ forbidden. if forbidden then None else says maps (codes "frame " ++ digits)) clean
    ∙ ap (words_said maps) (words-plain digits some ok)
    ∙ ap (option_map Some) (framed (decode_of digits) ok)

pub plain_reads : (maps : List Shape) (digits : List ℕ) (text : HexText) → 0 < length digits → text.digits.now ≡ digits
    → IsOk (decode_of digits) → Reads maps (codes "frame " ++ digits) (command.Frame text)
plain_reads maps digits text some same ok =
    let said = said-plain maps digits some ok ∙ ap (λ d. Some (Some (Frame (bytes_of d)))) (sym same) in
    record {
      said = said;
      asks = ap (λ o. option_and_then (λ a. a) o) said;
      within = tt;
    }

below_128 : (c : ℕ) → is_hex_digit c ≡ true → c < 128
below_128 c h = grind (arith, nat_tests)

abbrev is_low : ℕ → Type 0
is_low c = c < 128

all_low : (digits : List ℕ) → AllPass is_hex_digit digits → All is_low digits
all_low [] h = All-nil is_low
all_low (c ∷ cs) h = All-cons is_low c cs (below_128 c (All-head is_digit c cs h)) (all_low cs (All-tail is_digit c cs h))

pub plain_utf8 : (digits : List ℕ) → IsOk (decode_of digits) → IsUtf8 (codes "frame " ++ digits)
plain_utf8 digits ok =
    let low = all_low digits (all_digits digits ok) in
    IsUtf8-from_ascii (codes "frame " ++ digits) (IsAscii-from_all (codes "frame " ++ digits)
    (All-append is_low (codes "frame ") digits (search rules) low))
