-- Another program judges the queries of rows, one after another, and the changes are told.
use Rattle.std.proofs.Common.{◌≡◌, ◌+◌, ◌++◌, ◌∷◌, ◌∙◌, ℕ, nat_lt, Bool, List, [], Some, length, refl, sym, ap, ap₂, subst, arith, append_assoc, append-nil}
use Rattle.std.specs.String.{string_bytes}
use Rattle.std.proofs.lemmas.List.{length-append}
use Rattle.bpf_regions.specs.declared.hooks.Hook.{Hook}
use Rattle.bpf_machine.specs.Verified.{Verified}
use Rattle.capture.specs.Packets.{Seen}
use Rattle.ap_model.specs.Readings.{Config}
use Rattle.program_judge.specs.Programs.{no_programs, replaced}
use Rattle.apd_eval.specs.Again.{JudgesAgain, contrast_of, frame_at}
use Rattle.apd_eval.specs.Changes.{AreChanges, NoQuery, change_in, change_rows, change_sums}
use Rattle.apd_eval.specs.Compared.{IsComparison}
use Rattle.apd_eval.specs.Table.{lines_of}
use Rattle.apd_eval.specs.Taken.{AreTaken, TakesAll}
use Rattle.apd_eval.specs.Told.{Contrasted, IsUntold}
use Rattle.apd_eval.specs.declared.again.Contrast.{Contrast}
use Rattle.apd_eval.specs.declared.comparison.Contrasts.{Contrasts}
use Rattle.apd_eval.specs.declared.row.Row.{Row}
use Rattle.apd_eval.specs.declared.tried.Policy.{Policy}
use Rattle.apd_eval.proofs.Changing.{AreChanges-append, equal}

lines_append : (line : Contrast → List ℕ) (xs ys : List Contrast) → lines_of line (xs ++ ys) ≡ lines_of line xs ++ lines_of line ys
lines_append line [] ys = refl
lines_append line (x ∷ xs) ys = ap (λ (l : List ℕ). line x ++ l) (lines_append line xs ys) ∙ sym (append_assoc (line x) (lines_of line xs) (lines_of line ys))

-- these rows are judged again, and their changes are told
pub record AreTold (packets : List Seen) (s : Contrasts) (rows : List Row) (t : Contrasts) : Type 0 where
  pub contrasts : List Contrast
  pub again : JudgesAgain s.policy packets s.meter rows contrasts t.meter
  pub changes : List Contrast
  pub are : AreChanges contrasts changes
  pub form : t.changes.json ≡ s.changes.json
  pub text : string_bytes t.changes.text ≡ string_bytes s.changes.text ++ lines_of (change_in s.changes.json) changes
  pub judged : t.changes.judged ≡ s.changes.judged + length contrasts
  pub changed : t.changes.changed ≡ s.changes.changed + length changes

pub all_told : (packets : List Seen) (rows : List Row) (s t : Contrasts) → TakesAll Contrasted (frame_at packets) s rows t → AreTold packets s rows t
all_told packets [] s t taken =
    let judged : t.changes.judged ≡ s.changes.judged = ap (λ (x : Contrasts). x.changes.judged) taken in
    let changed : t.changes.changed ≡ s.changes.changed = ap (λ (x : Contrasts). x.changes.changed) taken in
    record {
      contrasts = [];
      again = (refl, ap (λ (x : Contrasts). x.meter) taken);
      changes = [];
      are = NoQuery;
      form = ap (λ (x : Contrasts). x.changes.json) taken;
      text = ap (λ (x : Contrasts). string_bytes x.changes.text) taken ∙ sym (append-nil (string_bytes s.changes.text));
      judged = omega (arith, judged);
      changed = omega (arith, changed);
    }
all_told packets (row ∷ rows) s t taken =
    let mid : Contrasts = taken.0 in
    let one : Contrasted s row (frame_at packets row.packet) mid = taken.1 in
    let rest : AreTold packets mid rows t = all_told packets rows mid t taken.2 in
    let line : Contrast → List ℕ = change_in s.changes.json in
    let former : List ℕ = lines_of line one.told.changes in
    let latter : List ℕ = lines_of line rest.changes in
    let longer : length (one.told.changes ++ rest.changes) ≡ length one.told.changes + length rest.changes = length-append one.told.changes rest.changes in
    record {
      contrasts = contrast_of row one.ruling ∷ rest.contrasts;
      again = (one.ruling, mid.meter, rest.contrasts, one.is, refl, subst (λ (p : Policy). JudgesAgain p packets mid.meter rows rest.contrasts t.meter) one.policy rest.again);
      changes = one.told.changes ++ rest.changes;
      are = AreChanges-append one.told.are rest.are;
      form = rest.form ∙ one.told.form;
      text = rest.text
          ∙ (ap (λ (b : Bool). string_bytes mid.changes.text ++ lines_of (change_in b) rest.changes) one.told.form
          ∙ (ap (λ (l : List ℕ). l ++ latter) one.told.text
          ∙ (append_assoc (string_bytes s.changes.text) former latter
          ∙ ap (λ (l : List ℕ). string_bytes s.changes.text ++ l) (sym (lines_append line one.told.changes rest.changes)))));
      judged = omega (arith, rest.judged, one.told.judged);
      changed = omega (arith, rest.changed, one.told.changed, longer);
    }

-- two programs on a capture
pub comparison : (in_force tried : Verified) (draw : ℕ) (config : Config) (packets : List Seen) (json : Bool) (s t : Contrasts) (hook : Hook) (text : List ℕ) (differs : Bool)
    → s.policy.programs.now ≡ replaced tried.hook (no_programs tried.code.shapes) (Some tried) → s.meter.held.draw ≡ draw → IsUntold json s.changes → AreTaken Contrasted in_force draw config packets s t
    → hook ≡ in_force.hook → differs ≡ nat_lt 0 t.changes.changed → text ≡ string_bytes t.changes.text ++ change_sums hook config.bssid packets t.changes.judged t.changes.changed t.changes.json
    → IsComparison in_force tried draw config packets json text differs
comparison in_force tried draw config packets json s t hook text differs programs drawn untold taken own differ is =
    let told : AreTold packets s taken.rows t = all_told packets taken.rows s t taken.taken in
    let judged : t.changes.judged ≡ length told.contrasts = omega (arith, told.judged, untold.judged) in
    let changed : t.changes.changed ≡ length told.changes = omega (arith, told.changed, untold.changed) in
    let form : t.changes.json ≡ json = told.form ∙ untold.form in
    let lines : string_bytes t.changes.text ≡ change_rows told.changes json =
    told.text ∙ ap₂ (λ (a b : List ℕ). a ++ b) untold.text (ap (λ (b : Bool). lines_of (change_in b) told.changes) untold.form) in
    let sums : change_sums hook config.bssid packets t.changes.judged t.changes.changed t.changes.json ≡ change_sums in_force.hook config.bssid packets (length told.contrasts) (length told.changes) json =
    ap (λ (h : Hook). change_sums h config.bssid packets t.changes.judged t.changes.changed t.changes.json) own
    ∙ (ap (λ n. change_sums in_force.hook config.bssid packets n t.changes.changed t.changes.json) judged
    ∙ (ap (λ n. change_sums in_force.hook config.bssid packets (length told.contrasts) n t.changes.json) changed
    ∙ ap (λ (b : Bool). change_sums in_force.hook config.bssid packets (length told.contrasts) (length told.changes) b) form)) in
    record {
      rows = taken.rows;
      evaluated = taken.evaluated;
      contrasts = told.contrasts;
      again = record { policy = s.policy; programs = programs; held = s.meter; drawn = drawn; held' = t.meter; again = record { again = told.again } };
      changes = told.changes;
      are_changes = told.are;
      equal = equal told.contrasts told.changes told.are;
      differ = differ ∙ ap (λ n. nat_lt 0 n) changed;
      text_is = is ∙ ap₂ (λ (a b : List ℕ). a ++ b) lines sums;
    }
