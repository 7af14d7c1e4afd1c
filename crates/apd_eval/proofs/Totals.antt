-- Rows are counted as they come.
use Rattle.std.proofs.Common.{◌≡◌, ◌+◌, ◌∷◌, ◌∙◌, ℕ, Bool, cond, not, List, [], length, max, count_by, refl, sym, ap, arith, add_assoc}
use Rattle.std.specs.Prelude.{fold}
use Rattle.std.proofs.lemmas.List.Sums.{sum_by-cons}
use Rattle.apd_eval.specs.Sums.{Totals, no_rows, totals_of, with_row, grants, marks}
use Rattle.apd_eval.specs.Taken.{TakesAll}
use Rattle.apd_eval.specs.declared.row.Row.{Row}

abbrev make : ℕ → ℕ → ℕ → ℕ → ℕ → Totals
make a b c d e = record { rows = a; granted = b; refused = c; marked = d; most = e }

same : {a a' b b' c c' d d' e e' : ℕ} → a ≡ a' → b ≡ b' → c ≡ c' → d ≡ d' → e ≡ e' → make a b c d e ≡ make a' b' c' d' e'
same {a} {a'} {b} {b'} {c} {c'} {d} {d'} {e} {e'} p q r s t =
    ap (λ x. make x b c d e) p ∙ (ap (λ x. make a' x c d e) q ∙ (ap (λ x. make a' b' x d e) r ∙ (ap (λ x. make a' b' c' x e) s ∙ ap (λ x. make a' b' c' d' x) t)))

-- with these rows, too
abbrev pub plus : Totals → List Row → Totals
plus t rows = make (t.rows + length rows) (t.granted + count_by grants rows) (t.refused + count_by (λ row. not (grants row)) rows) (t.marked + count_by marks rows)
    (fold (λ most row. max row.ruling.steps most) t.most rows)

plus_none : (t : Totals) → plus t [] ≡ t
plus_none t =
    let a : t.rows + 0 ≡ t.rows = omega arith in
    let b : t.granted + 0 ≡ t.granted = omega arith in
    let c : t.refused + 0 ≡ t.refused = omega arith in
    let d : t.marked + 0 ≡ t.marked = omega arith in
    same a b c d refl

counted : (p : Row → Bool) (n : ℕ) (row : Row) (rows : List Row) → (n + cond (p row) 1 0) + count_by p rows ≡ n + count_by p (row ∷ rows)
counted p n row rows = add_assoc n (cond (p row) 1 0) (count_by p rows) ∙ ap (λ m. n + m) (sym (sum_by-cons (λ (r : Row). cond (p r) 1 0) row rows))

plus_more : (t : Totals) (row : Row) (rows : List Row) → plus (with_row t row) rows ≡ plus t (row ∷ rows)
plus_more t row rows =
    let a : (t.rows + 1) + length rows ≡ t.rows + length (row ∷ rows) = omega arith in
    same a (counted grants t.granted row rows) (counted (λ r. not (grants r)) t.refused row rows) (counted marks t.marked row rows) refl

pub plus_no_rows : (rows : List Row) → plus no_rows rows ≡ totals_of rows
plus_no_rows rows =
    let a : 0 + length rows ≡ length rows = omega arith in
    let b : 0 + count_by grants rows ≡ count_by grants rows = omega arith in
    let c : 0 + count_by (λ row. not (grants row)) rows ≡ count_by (λ row. not (grants row)) rows = omega arith in
    let d : 0 + count_by marks rows ≡ count_by marks rows = omega arith in
    same a b c d refl

module _ {S : Type 0} (takes : S → Row → List ℕ → S → Type 0) (view : S → Totals) (each : (s : S) (row : Row) (frame : List ℕ) (t : S) → takes s row frame t → view t ≡ with_row (view s) row) where
  totals : (frames : ℕ → List ℕ) (rows : List Row) (s t : S) → TakesAll takes frames s rows t → view t ≡ plus (view s) rows
  totals frames [] s t taken = ap view taken ∙ sym (plus_none (view s))
  totals frames (row ∷ rows) s t taken =
      totals frames rows taken.0 t taken.2 ∙ (ap (λ (x : Totals). plus x rows) (each s row (frames row.packet) taken.0 taken.1) ∙ plus_more (view s) row rows)

  -- what takes rows has their sums then
  pub all_totals : (frames : ℕ → List ℕ) (rows : List Row) (s t : S) → view s ≡ no_rows → TakesAll takes frames s rows t → view t ≡ totals_of rows
  all_totals frames rows s t none taken = totals frames rows s t taken ∙ (ap (λ (x : Totals). plus x rows) none ∙ plus_no_rows rows)
