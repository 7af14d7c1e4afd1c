-- What the first events of a list count.
use Rattle.std.proofs.Common.{◌≡◌, ℕ, ◌+◌, ◌<◌, List, [], ◌∷◌, length, take, get_or, sym, ap, subst, ◌∙◌}
use Rattle.std.proofs.lemmas.List.{take_more}
use Rattle.ap_books.specs.Counts.{Counts, plus}
use Rattle.ap_books.specs.Reading.{Reads}
use Rattle.ap_books.specs.declared.totals.Totals.{Totals}
use Rattle.ap_live.specs.Counting.{fate_counts, tally}
use Rattle.ap_live.specs.declared.tagged.Tagged.{Tagged}
use Rattle.apd_run.proofs.Served.{tally_two}
use Rattle.apd_run.proofs.Sums.{plus_none}

-- the numbers are what the first events count
abbrev pub ReadsFirst : Totals → ℕ → List Tagged → Type 0
ReadsFirst totals many list = Reads totals (tally (take many list))

tally_one : (t : Tagged) → tally (t ∷ []) ≡ fate_counts t.fate
unfolding tally
tally_one t = plus_none (fate_counts t.fate)

-- one more event
pub reads_more : (totals more all : Totals) (many : ℕ) (list : List Tagged) (t : Tagged) → many < length list → t ≡ get_or list many t
    → ((x y : Counts) → Reads totals x → Reads more y → Reads all (plus x y)) → ReadsFirst totals many list → Reads more (fate_counts t.fate) → ReadsFirst all (many + 1) list
reads_more totals more all many list t within is sum h one =
    let longer : tally (take (many + 1) list) ≡ plus (tally (take many list)) (fate_counts t.fate) =
    ap tally (take_more list many t within) ∙ tally_two (take many list) (get_or list many t ∷ []) ∙ ap (λ (u : Tagged). plus (tally (take many list)) (tally (u ∷ []))) (sym is)
    ∙ ap (plus (tally (take many list))) (tally_one t) in
    subst (Reads all) (sym longer) (sum _ _ h one)
