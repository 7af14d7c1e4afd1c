-- Entries of a map, one after another.
use Rattle.std.proofs.Common.{◌≡◌, ℕ, ◌+◌, List, [], ◌∷◌, ◌++◌, length, map, arith, refl, sym, ap, ◌∙◌, append_assoc, append-nil}
use Rattle.std.specs.List.{All}
use Rattle.std.proofs.lemmas.List.{length-append}
use Rattle.std.proofs.lemmas.List.Elements.{All-nil, All-push}
use Rattle.apd_driver.specs.declared.answers.answer.EntryRow.{EntryRow}
use Rattle.apd_driver.specs.Asking.{entry_if, entries_from, shown}

-- the rows of the first entries, of which there are so many
pub record ListsFirst (many words : ℕ) (rows : List EntryRow) : Type 0 where
  pub entries : List (List ℕ)
  pub all : length entries ≡ many
  pub wide : All (λ ws. length ws ≡ words) entries
  pub listed : map shown rows ≡ entries_from 0 entries

one_longer : (index : ℕ) (entries : List (List ℕ)) (ws : List ℕ) → entries_from index (entries ++ ws ∷ []) ≡ entries_from index entries ++ entry_if (index + length entries) ws
one_longer index [] ws = append-nil (entry_if index ws) ∙ ap (λ k. entry_if k ws) (omega arith)
one_longer index (es ∷ more) ws =
    let here : index + 1 + length more ≡ index + length (es ∷ more) = omega arith in
    ap (λ l. entry_if index es ++ l) (one_longer (index + 1) more ws ∙ ap (λ k. entries_from (index + 1) more ++ entry_if k ws) here)
    ∙ sym (append_assoc (entry_if index es) (entries_from (index + 1) more) (entry_if (index + length (es ∷ more)) ws))

-- none yet
pub lists_none : (words : ℕ) (rows : List EntryRow) → rows ≡ [] → ListsFirst 0 words rows
lists_none words rows is = record { entries = []; all = refl; wide = All-nil (λ ws. length ws ≡ words); listed = ap (map shown) is }

-- and one more
pub lists_more : (many words : ℕ) (rows rows2 : List EntryRow) (ws : List ℕ) → ListsFirst many words rows → length ws ≡ words
    → map shown rows2 ≡ map shown rows ++ entry_if many ws → ListsFirst (many + 1) words rows2
lists_more many words rows rows2 ws h wide added =
    let here : many ≡ 0 + length h.entries = omega (arith, h.all) in
    record {
      entries = h.entries ++ ws ∷ [];
      all = length-append h.entries (ws ∷ []) ∙ ap (λ k. k + 1) h.all;
      wide = All-push (λ xs. length xs ≡ words) h.entries ws h.wide wide;
      listed = added ∙ ap (λ l. l ++ entry_if many ws) h.listed ∙ ap (λ k. entries_from 0 h.entries ++ entry_if k ws) here ∙ sym (one_longer 0 h.entries ws);
    }
