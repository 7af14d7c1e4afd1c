-- A table takes rows, one after another.
use Rattle.std.proofs.Common.{◌≡◌, ◌++◌, ◌∷◌, ◌∙◌, ℕ, Bool, List, [], ap, ap₂, sym, append_assoc, append-nil}
use Rattle.std.specs.String.{string_bytes}
use Rattle.bpf_regions.specs.declared.hooks.Hook.{Hook}
use Rattle.bpf_machine.specs.Verified.{Verified}
use Rattle.capture.specs.Packets.{Seen}
use Rattle.ap_model.specs.Readings.{Config}
use Rattle.apd_eval.specs.Evaluated.{judged_by}
use Rattle.apd_eval.specs.Sums.{Judged, Totals, sums_text, totals_in, totals_of, totals_text}
use Rattle.apd_eval.specs.Table.{front, line_in, lines_of, rows_text, table_text}
use Rattle.apd_eval.specs.Tabled.{IsBegun, TakesRow}
use Rattle.apd_eval.specs.Taken.{TakesAll}
use Rattle.apd_eval.specs.declared.row.Row.{Row}
use Rattle.apd_eval.specs.declared.table.Table.{Table}
use Rattle.apd_eval.proofs.Totals.{all_totals}

-- the table of rows, and their sums
pub record IsWhole (json : Bool) (rows : List Row) (t : Table) : Type 0 where
  pub form : t.json ≡ json
  pub text : string_bytes t.text ≡ rows_text rows json
  pub counted : totals_in t.tally ≡ totals_of rows

record Grows (s : Table) (rows : List Row) (t : Table) : Type 0 where
  form : t.json ≡ s.json
  text : string_bytes t.text ≡ string_bytes s.text ++ lines_of (line_in s.json) rows

module _ {S : Type 0} (takes : S → Row → List ℕ → S → Type 0) (view : S → Table) (each : (s : S) (row : Row) (frame : List ℕ) (t : S) → takes s row frame t → TakesRow (view s) row (view t)) where
  grows : (frames : ℕ → List ℕ) (rows : List Row) (s t : S) → TakesAll takes frames s rows t → Grows (view s) rows (view t)
  grows frames [] s t taken = record {
    form = ap (λ (x : S). (view x).json) taken;
    text = ap (λ (x : S). string_bytes (view x).text) taken ∙ sym (append-nil (string_bytes (view s).text));
  }
  grows frames (row ∷ rows) s t taken =
      let mid : S = taken.0 in
      let json : Bool = (view s).json in
      let one : TakesRow (view s) row (view mid) = each s row (frames row.packet) mid taken.1 in
      let rest : Grows (view mid) rows (view t) = grows frames rows mid t taken.2 in
      record {
        form = rest.form ∙ one.form;
        text = rest.text
            ∙ (ap (λ (b : Bool). string_bytes (view mid).text ++ lines_of (line_in b) rows) one.form
            ∙ (ap (λ (l : List ℕ). l ++ lines_of (line_in json) rows) one.text
            ∙ append_assoc (string_bytes (view s).text) (line_in json row) (lines_of (line_in json) rows)));
      }

  pub whole : (frames : ℕ → List ℕ) (json : Bool) (rows : List Row) (s t : S) → IsBegun json (view s) → TakesAll takes frames s rows t → IsWhole json rows (view t)
  whole frames json rows s t begun taken =
      let all : Grows (view s) rows (view t) = grows frames rows s t taken in
      record {
        form = all.form ∙ begun.form;
        text = all.text ∙ ap₂ (λ (a b : List ℕ). a ++ b) begun.text (ap (λ (b : Bool). lines_of (line_in b) rows) begun.form);
        counted = all_totals takes (λ (x : S). totals_in (view x).tally) (λ a row frame b one. (each a row frame b one).counted) frames rows s t begun.none taken;
      }

-- with the sums
pub finished : (json : Bool) (rows : List Row) (t : Table) (j k : Judged) (text : List ℕ) → IsWhole json rows t → j ≡ k → text ≡ string_bytes t.text ++ totals_text j (totals_in t.tally) t.json → text ≡ table_text rows (sums_text k rows json) json
finished json rows t j k text is same made =
    made ∙ ap₂ (λ (a b : List ℕ). a ++ b) is.text
    (ap (λ (x : Judged). totals_text x (totals_in t.tally) t.json) same ∙ (ap (λ (x : Totals). totals_text k x t.json) is.counted ∙ ap (λ (b : Bool). totals_text k (totals_of rows) b) is.form))

-- what was judged
pub course_is : (v : Verified) (config : Config) (packets : List Seen) (hook : Hook) (budget : ℕ) → hook ≡ v.hook → budget ≡ v.budget
    → ◌≡◌ {A = Judged} (record { hook = hook; budget = budget; address = config.bssid; packets = packets }) (judged_by v config packets)
course_is v config packets hook budget own bound =
    let make : Hook → ℕ → Judged = λ h n. record { hook = h; budget = n; address = config.bssid; packets = packets } in
    ap (λ (h : Hook). make h budget) own ∙ ap (λ n. make v.hook n) bound
