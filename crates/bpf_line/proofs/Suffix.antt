-- Names without the suffix 32.
use Rattle.std.specs.Prelude.{◌≡◌, ◌≢◌, ℕ, ◌-◌, List, ◌++◌, length, take, drop, false, codes}
use Rattle.std.proofs.Common.{rules, tests, sym, ◌∙◌, ap}
use Rattle.std.proofs.lemmas.List.{take-append-drop}
use Rattle.std.proofs.lemmas.Slice.Eq.{bytes_eq-Decides}
use Rattle.bpf_line.specs.Lines.{is_narrow}

pub is_narrow-none : (t : List ℕ) → ((front : List ℕ) → t ≢ front ++ codes "32") → is_narrow t ≡ false
is_narrow-none t none =
    let n = length t - 2 in
    let decides = bytes_eq-Decides (drop n t) (codes "32") in
    let no : drop n t ≢ codes "32" = λ e. none (take n t) (sym (take-append-drop n t) ∙ ap (λ u. take n t ++ u) e) in
    search (rules, tests)
