-- How a text is cut into lines.
use Rattle.std.specs.Prelude.{◌≡◌, ◌≢◌, ◌<◌, ◌==◌, ℕ, List, [], ◌∷◌, ◌++◌, length, false, slice_index, refl, suc}
use Rattle.std.proofs.Common.{rules, tests, arith, ◌∙◌, ap}
use Rattle.std.specs.List.{onto_first}
use Rattle.std.proofs.lemmas.Bool.Decides.{nat_tests}
use Rattle.std.proofs.lemmas.List.Splits.{slice_split-cons_yes, slice_split-cons_no}
use Rattle.bpf_text.specs.Texts.{lines_of}

no_feed : (c : ℕ) → c ≢ 10 → (c == 10) ≡ false
no_feed c other = search (rules, tests, nat_tests)

-- a text without a line feed is one line
pub lines_of-one : (t : List ℕ) → ((i : ℕ) → i < length t → slice_index t i ≢ 10) → lines_of t ≡ t ∷ []
lines_of-one [] h = refl
lines_of-one (c ∷ cs) h =
    slice_split-cons_no (λ b. b == 10) c cs (no_feed c (h 0 (omega arith)))
    ∙ ap (onto_first c) (lines_of-one cs (λ i lt. h (suc i) (omega (arith, lt))))

-- the first line ends at the first line feed
pub lines_of-feed : (t rest : List ℕ) → ((i : ℕ) → i < length t → slice_index t i ≢ 10) → lines_of (t ++ 10 ∷ rest) ≡ t ∷ lines_of rest
lines_of-feed [] rest h = slice_split-cons_yes (λ b. b == 10) 10 rest refl
lines_of-feed (c ∷ cs) rest h =
    slice_split-cons_no (λ b. b == 10) c (cs ++ 10 ∷ rest) (no_feed c (h 0 (omega arith)))
    ∙ ap (onto_first c) (lines_of-feed cs rest (λ i lt. h (suc i) (omega (arith, lt))))
