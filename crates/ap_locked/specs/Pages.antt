-- Who decided which entries of a journal.
use Rattle.std.specs.Prelude.{◌≡◌, ◌==◌, ◌^◌, ℕ, zero, suc, Bool, true, false, List, [], ◌∷◌, ◌++◌, map, count_by}
use Rattle.std.specs.List.{All}
use Rattle.ap_model.specs.Runs.{Entry}

-- an entry, and the mark of the token that decided it
pub record Signed : Type 0 where
  pub mark : ℕ
  pub entry : Entry

-- a mark, and the entries that were decided under it, in order
pub record Page : Type 0 where
  pub mark : ℕ
  pub made : List Entry

-- the entries without their marks
abbrev pub entries_of : List Signed → List Entry
entries_of signed = map (λ s. s.entry) signed

-- the first entry if it was wanted, and the others
abbrev pub with_first : Bool → Entry → List Entry → List Entry
with_first true e es = e ∷ es
with_first false e es = es

-- the entries of this mark, in order
abbrev pub signed_by : ℕ → List Signed → List Entry
signed_by mark [] = []
signed_by mark (s ∷ later) = with_first (s.mark == mark) s.entry (signed_by mark later)

-- the page with more entries
abbrev pub with_entries : Page → List Entry → Page
with_entries p es = record { mark = p.mark; made = p.made ++ es }

-- the page with one more entry
abbrev pub on_page : Page → Entry → Page
on_page p e = with_entries p (e ∷ [])

-- the page of number k, with nothing on it: its mark is the k-th power of two
abbrev pub new_page : ℕ → Page
new_page k = record { mark = 2 ^ k; made = [] }

-- this many new pages, the last number first
abbrev pub new_pages : ℕ → List Page
new_pages zero = []
new_pages (suc k) = new_page k ∷ new_pages k

-- the first page; if there is none, one that belongs to nobody
abbrev pub first_page : List Page → Page
first_page [] = record { mark = 0; made = [] }
first_page (p ∷ others) = p

-- the page has exactly the entries of its mark, in the journal's order
abbrev pub IsComplete : List Signed → Page → Type 0
IsComplete journal p = p.made ≡ signed_by p.mark journal

-- the entry's mark is that of exactly one page
abbrev pub IsOnOnePage : List Page → Signed → Type 0
IsOnOnePage pages s = count_by (λ p. s.mark == p.mark) pages ≡ 1

-- The pages together are the journal, each entry at its own place: each page has exactly the entries of its mark, in the
-- journal's order, and the mark of each entry is that of exactly one page.
pub record AreWhole (pages : List Page) (journal : List Signed) : Type 0 where
  pub each : All (IsComplete journal) pages
  pub once : All (IsOnOnePage pages) journal
